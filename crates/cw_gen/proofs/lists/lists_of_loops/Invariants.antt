use Rattle.std.proofs.Common.{◌≡◌, ◌+◌}
use Rattle.std.specs.Prelude.{drop, map}
use Rattle.cw_gen.specs.Emit as spec
use Rattle.cw_loops.specs.Expanded as expanded
use Rattle.cw_loops.specs.Small.{AreSmallLoops}
use Rattle.cw_loops.specs.View as view
use Rattle.cw_gen.proofs.lists.lists_of_loops.Given as goal

abbrev pub invariant-loop-l : goal.invariant-loop-l
invariant-loop-l l = record {
  at : l.at ≡ l.index + l.l-index;
  small : AreSmallLoops (map view.loop_of (drop l.l-index l.loops));
  lists :
      spec.put_lists_of l.first (expanded.loop_texts l.at (map view.loop_of (drop l.l-index l.loops))) (map (λ slots. slots.items) l.lists.items)
      ≡ spec.put_lists_of l.first (expanded.loop_texts l.index (map view.loop_of l.loops)) (map (λ slots. slots.items) l.initial.lists.items);
}
