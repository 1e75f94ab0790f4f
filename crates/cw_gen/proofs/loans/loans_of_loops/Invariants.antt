use Rattle.std.proofs.Common.{◌≡◌}
use Rattle.std.specs.Prelude.{drop, map}
use Rattle.cw_gen.specs.Emit as spec
use Rattle.cw_loops.specs.Expanded as expanded
use Rattle.cw_loops.specs.View as view
use Rattle.cw_gen.proofs.loans.loans_of_loops.Given as goal

abbrev pub invariant-loop-l : goal.invariant-loop-l
invariant-loop-l l =
    spec.put_loans_of (expanded.loop_texts 0 (map view.loop_of (drop l.l-index l.loops))) (map (λ loans. loans.items) l.lists.items)
    ≡ spec.put_loans_of (expanded.loop_texts 0 (map view.loop_of l.loops)) (map (λ loans. loans.items) l.initial.lists.items)
