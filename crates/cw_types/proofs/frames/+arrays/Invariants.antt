use Rattle.std.proofs.Common.{◌≡◌, drop}
use Rattle.cw_tree.specs.Resolved.{arrays_in_block}
use Rattle.cw_tree.specs.ResolvedView.{block_of}
use Rattle.cw_types.proofs.frames.+arrays.Given as goal

abbrev pub invariant-arrays_of_block-loop-line : goal.invariant-arrays_of_block-loop-line
invariant-arrays_of_block-loop-line l =
    arrays_in_block l.needed (block_of (drop l.line-index l.lines)) ≡ arrays_in_block l.slots (block_of l.lines)
