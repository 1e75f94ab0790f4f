use Rattle.std.proofs.Common.{◌≡◌, drop}
use Rattle.cw_tree.specs.Resolved.{ints_in_block}
use Rattle.cw_tree.specs.ResolvedView.{block_of}
use Rattle.cw_types.proofs.frames.+ints.Given as goal

abbrev pub invariant-ints_of_block-loop-line : goal.invariant-ints_of_block-loop-line
invariant-ints_of_block-loop-line l =
    ints_in_block l.needed (block_of (drop l.line-index l.lines)) ≡ ints_in_block l.slots (block_of l.lines)
