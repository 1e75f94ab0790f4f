-- The lines so far, and the lines of the rows that are left.
use Rattle.std.proofs.Common.{drop}
use Rattle.cw_report.specs.Speedups.{speedup_lines}
use Rattle.cw_report.proofs.Lines.{Towards}
use Rattle.cw_report.proofs.speedup_table.push_rows.Given as goal

abbrev pub invariant-loop-row : goal.invariant-loop-row
invariant-loop-row l =
    Towards l.fn.table l.table (speedup_lines l.measure (drop l.row-index l.rows)) (speedup_lines l.measure l.rows)
