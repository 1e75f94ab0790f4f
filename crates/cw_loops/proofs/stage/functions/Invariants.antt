use Rattle.std.proofs.Common.{◌≡◌, ◌++◌, [], map, drop, length}
use Rattle.cw_tree.specs.ResolvedView.{function_of}
use Rattle.cw_loops.specs.Lowers.{made_bodies}
use Rattle.cw_loops.specs.Moved.{slot}
use Rattle.cw_loops.specs.View.{block_of, loop_of}
use Rattle.cw_loops.proofs.stage.functions.Given as goal

abbrev pub invariant-loop-function : goal.invariant-loop-function
invariant-loop-function l = record {
  count : l.count ≡ slot (length (map function_of l.functions));
  blocks : map (λ b. block_of b.items) l.bodies.items ++ (made_bodies l.count (map loop_of l.loops.items) (map function_of (drop l.function-index l.functions))).blocks
      ≡ (made_bodies l.count [] (map function_of l.functions)).blocks;
  loops : (made_bodies l.count (map loop_of l.loops.items) (map function_of (drop l.function-index l.functions))).loops
      ≡ (made_bodies l.count [] (map function_of l.functions)).loops;
}
