use Rattle.std.proofs.Common.{◌≡◌, ℕ, List, ◌++◌, drop}
use Rattle.cw_model.specs.Lines.{lowest}
use Rattle.cw_model.specs.Sizes.{declaring_lines_in}
use Rattle.cw_tree.specs.SyntaxView.{block_of}
use Rattle.cw_types.proofs.limits.+declaring.Given as goal

abbrev pub invariant-block_beyond-loop-line : goal.invariant-block_beyond-loop-line
invariant-block_beyond-loop-line l = (more : List ℕ) →
    lowest l.least.line (drop l.left (declaring_lines_in (block_of (drop l.line-index l.lines)) ++ more))
    ≡ lowest l.fn.least.line (drop l.room (declaring_lines_in (block_of l.lines) ++ more))
