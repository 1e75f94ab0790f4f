use Rattle.std.proofs.Common.{◌≡◌}
use Rattle.std.specs.Prelude.{drop, map}
use Rattle.cw_gen.specs.Emit as spec
use Rattle.cw_loops.specs.View as view
use Rattle.cw_gen.proofs.loans.+loans.Given as goal

abbrev pub invariant-loans_in-loop-line : goal.invariant-loans_in-loop-line
invariant-loans_in-loop-line l =
    spec.put_loans_in l.places (view.block_of (drop l.line-index l.lines)) (map (λ loans. loans.items) l.lists.items)
    ≡ spec.put_loans_in l.places (view.block_of l.lines) (map (λ loans. loans.items) l.initial.lists.items)
