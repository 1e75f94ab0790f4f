use Rattle.std.proofs.Common.{◌≡◌, drop}
use Rattle.cw_tree.specs.ResolvedView.{block_of}
use Rattle.cw_own.specs.Taken.{taken_of}
use Rattle.cw_own.specs.Reasons.{left_reasons, line_in}
use Rattle.cw_text.specs.Rising.{kept}
use Rattle.cw_own.specs.Views.{recorded_reasons}
use Rattle.cw_own.proofs.rules.record_left.Given as goal

abbrev pub invariant-loop-line : goal.invariant-loop-line
invariant-loop-line l =
    kept line_in (recorded_reasons l.told) (left_reasons (taken_of l.taken) (block_of (drop l.line-index l.lines)))
    ≡ kept line_in (recorded_reasons l.fn.told) (left_reasons (taken_of l.taken) (block_of l.lines))
