use Rattle.std.proofs.Common.{◌≡◌}
use Rattle.std.specs.Prelude.{drop, map}
use Rattle.cw_gen.specs.Emit as spec
use Rattle.cw_loops.specs.View as view
use Rattle.cw_gen.proofs.lists.+lists.Given as goal

abbrev pub invariant-lists_in-loop-line : goal.invariant-lists_in-loop-line
invariant-lists_in-loop-line l =
    spec.put_lists_in l.first l.places (view.block_of (drop l.line-index l.lines)) (map (λ slots. slots.items) l.lists.items)
    ≡ spec.put_lists_in l.first l.places (view.block_of l.lines) (map (λ slots. slots.items) l.initial.lists.items)
