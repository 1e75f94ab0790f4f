use Rattle.std.proofs.Common.{◌≡◌}
use Rattle.std.specs.Prelude.{map}
use Rattle.cw_gen.specs.Emit as spec
use Rattle.cw_loops.specs.Expanded.{with_bodies}
use Rattle.cw_loops.specs.View as view
use Rattle.cw_tree.specs.ResolvedView as source
use Rattle.cw_gen.proofs.loans.loans_of_bodies.Given as goal

abbrev pub invariant-loop-f : goal.invariant-loop-f
invariant-loop-f l =
    spec.put_loans_of (with_bodies (map source.function_of l.f-iterator.a.rest.now) (map (λ b. view.block_of b.items) l.f-iterator.b.rest.now)) (map (λ slots. slots.items) l.lists.items)
    ≡ spec.put_loans_of (with_bodies (map source.function_of l.functions) (map (λ b. view.block_of b.items) l.bodies)) (map (λ slots. slots.items) l.initial.lists.items)
