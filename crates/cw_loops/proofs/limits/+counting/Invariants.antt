use Rattle.std.proofs.Common.{◌≡◌, ℕ, List, ◌++◌, drop}
use Rattle.cw_model.specs.Lines.{lowest}
use Rattle.cw_model.specs.Sizes.{loops_in_block}
use Rattle.cw_tree.specs.Resolved.{plain_block}
use Rattle.cw_tree.specs.ResolvedView.{block_of}
use Rattle.cw_loops.proofs.limits.+counting.Given as goal

abbrev pub invariant-block_beyond-loop-line : goal.invariant-block_beyond-loop-line
invariant-block_beyond-loop-line l = (more : List ℕ) →
    lowest l.least.line (drop l.left (loops_in_block (plain_block (block_of (drop l.line-index l.lines))) ++ more))
    ≡ lowest l.fn.least.line (drop l.room (loops_in_block (plain_block (block_of l.lines)) ++ more))
