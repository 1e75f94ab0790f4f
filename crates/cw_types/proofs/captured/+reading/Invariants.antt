use Rattle.std.proofs.Common.{◌≡◌, drop, map}
use Rattle.cw_tree.specs.Resolved.{first_uses, reads_in_block}
use Rattle.cw_tree.specs.ResolvedView.{use_of, block_of}
use Rattle.cw_types.proofs.captured.+reading.Given as goal

abbrev pub invariant-block-loop-line : goal.invariant-block-loop-line
invariant-block-loop-line l =
    first_uses l.count (map use_of l.found.items) (reads_in_block (block_of (drop l.line-index l.lines)))
    ≡ first_uses l.count (map use_of l.fn.found.items) (reads_in_block (block_of l.lines))
