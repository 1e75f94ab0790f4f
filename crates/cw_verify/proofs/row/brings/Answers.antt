use Rattle.std.proofs.Common.{arith, ◌||◌, sym, ap, ◌∙◌}
use Rattle.std.proofs.Math.Bool.{or-false}
use Rattle.cw_verify.proofs.SlotMarks.{brings_done}
use Rattle.cw_verify.proofs.row.brings.Goals as goal

pub returns : goal.returns
returns c =
    let xs = c.args.row.now in
    let ys = c.args.more.now in
    let done = brings_done xs ys c.loop-a.a (λ p q. omega (arith, p, q, c.min-a-end.ensures, c.loop-a-test.false)) in
    sym (or-false c.loop-a.found) ∙ ap (λ b. c.loop-a.found || b) (sym done) ∙ c.loop-a.invariant
