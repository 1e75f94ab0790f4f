-- The text has the same lines within `end` as within `most`.
use Rattle.std.proofs.Common.{◌≡◌, ◌≤◌}
use Rattle.cw_report.specs.Pages.{lines_within}
use Rattle.cw_report.proofs.page_text.end_of_lines.Given as goal

abbrev pub invariant-loop-end : goal.invariant-loop-end
invariant-loop-end l = record {
  bound : l.end ≤ l.initial.end;
  same : lines_within l.end l.text ≡ lines_within l.initial.end l.text;
}

abbrev pub decreases-loop-end : goal.decreases-loop-end
decreases-loop-end l = l.end
