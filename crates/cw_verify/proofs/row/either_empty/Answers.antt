use Rattle.std.proofs.Common.{arith, ◌≡◌, ◌+◌, ◌<◌, suc, length, if◌then◌else◌, true, false, get_or, sym, ap, ◌∙◌}
use Rattle.std.specs.Prelude.{slice_set, take}
use Rattle.cw_verify.specs.Table.{either_empty}
use Rattle.cw_verify.proofs.SlotMarks.{either_none, either_more}
use Rattle.cw_verify.proofs.row.either_empty.Goals as goal

pub loop-a-init : goal.loop-a-init
loop-a-init c = c.in_ok-both.ensures.items ∙ sym (either_none c.args.row.now)

pub loop-a-preserved : goal.loop-a-preserved
loop-a-preserved c =
    let xs = c.args.row.now in
    let ys = c.args.more.now in
    let a = c.loop-a.a in
    let lt : a < length ys = omega (arith, c.loop-a-test.true) in
    let n : suc a ≡ a + 1 = omega arith in
    c.mark.ensures
    ∙ ap (λ l. if get_or ys a false then slice_set l a true else l) c.loop-a.invariant
    ∙ sym (either_more xs ys a false lt)
    ∙ ap (λ k. either_empty xs (take k ys)) n
