use Rattle.std.proofs.Common.{◌≡◌, drop, map}
use Rattle.cw_tree.specs.ResolvedView as source
use Rattle.cw_loops.specs.Moved.{made_block}
use Rattle.cw_loops.specs.Moving.{moves_view}
use Rattle.cw_loops.specs.View.{block_of, loop_of}
use Rattle.cw_loops.proofs.BlockSequence.{joined}
use Rattle.cw_loops.proofs.bodies.+bodies.Given as goal

abbrev pub invariant-block-loop-line : goal.invariant-block-loop-line
invariant-block-loop-line l = record {
  lines : joined (block_of l.made.items) (made_block l.here.functions (moves_view l.here.moves) l.arrays (map loop_of l.loops.items) (source.block_of (drop l.line-index l.lines))).block
      ≡ (made_block l.here.functions (moves_view l.here.moves) l.here.arrays (map loop_of l.fn.loops.items) (source.block_of l.lines)).block;
  loops : (made_block l.here.functions (moves_view l.here.moves) l.arrays (map loop_of l.loops.items) (source.block_of (drop l.line-index l.lines))).loops
      ≡ (made_block l.here.functions (moves_view l.here.moves) l.here.arrays (map loop_of l.fn.loops.items) (source.block_of l.lines)).loops;
}
