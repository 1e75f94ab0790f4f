use Rattle.std.proofs.Common.{◌+◌, get_or, sym, ap, ◌∙◌}
use Rattle.std.specs.Prelude.{drop}
use Rattle.std.proofs.lemmas.Option.{slice_get-get_or}
use Rattle.cw_code.specs.Fits.{with_gone}
use Rattle.cw_verify.proofs.SlotMarks.{gone_on}
use Rattle.cw_verify.proofs.row.set_all.Goals as goal

pub loop-a-preserved : goal.loop-a-preserved
loop-a-preserved c =
    let slots = c.args.slots.now in
    let k = c.loop-a.a-index in
    let a = get_or slots k 0 in
    ap (with_gone (drop (k + 1) slots)) c.set.ensures ∙ sym (gone_on slots k a c.loop-a.row.items (slice_get-get_or slots k 0 c.loop-a-test.true)) ∙ c.loop-a.invariant
