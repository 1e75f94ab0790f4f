-- The lines so far, and those that are left.
use Rattle.std.proofs.Common.{◌≡◌, ◌++◌, drop, true}
use Rattle.cw_report.specs.Sized.{sized_row, sized_rows}
use Rattle.cw_report.proofs.aligned.table.Given as goal

abbrev pub invariant-loop-row : goal.invariant-loop-row
invariant-loop-row l =
    l.text.items ++ sized_rows l.first l.columns (drop l.row-index l.rows)
    ≡ sized_row true l.first l.names l.columns ++ sized_rows l.first l.columns l.rows
