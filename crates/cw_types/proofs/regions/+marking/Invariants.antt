use Rattle.std.proofs.Common.{◌≡◌, ◌++◌, drop}
use Rattle.cw_model.specs.Sizes.{regions_in_block}
use Rattle.cw_tree.specs.SyntaxView.{block_of}
use Rattle.cw_types.specs.Regions.{regions_of}
use Rattle.cw_types.proofs.regions.+marking.Given as goal

abbrev pub invariant-block-loop-line : goal.invariant-block-loop-line
invariant-block-loop-line l =
    regions_of l.found.items ++ regions_in_block (block_of (drop l.line-index l.lines))
    ≡ regions_of l.fn.found.items ++ regions_in_block (block_of l.lines)
