use Rattle.std.proofs.Common.{◌≡◌, ◌+◌, ◌++◌, length, map, drop}
use Rattle.cw_gen.specs.Emit as spec
use Rattle.cw_loops.specs.Expanded.{loop_texts}
use Rattle.cw_loops.specs.Small.{AreSmallLoops}
use Rattle.cw_loops.specs.View as view
use Rattle.cw_gen.proofs.functions.loop_functions.Given as goal

abbrev pub invariant-loop-l : goal.invariant-loop-l
invariant-loop-l l = record {
  at : l.at ≡ l.index + l.l-index;
  small : AreSmallLoops (map view.loop_of (drop l.l-index l.loops));
  instrs :
      l.instrs.items ++ spec.emitted_instrs l.first (loop_texts l.at (map view.loop_of (drop l.l-index l.loops)))
      ≡ l.initial.instrs.items ++ spec.emitted_instrs l.first (loop_texts l.index (map view.loop_of l.loops));
  funcs :
      l.funcs.items ++ spec.emitted_funcs l.first (length l.instrs.items) (loop_texts l.at (map view.loop_of (drop l.l-index l.loops)))
      ≡ l.initial.funcs.items ++ spec.emitted_funcs l.first (length l.initial.instrs.items) (loop_texts l.index (map view.loop_of l.loops));
}
