-- The cells so far, and those that are left.
use Rattle.std.proofs.Common.{◌≡◌, ◌++◌, drop}
use Rattle.cw_report.specs.Sized.{further_cells}
use Rattle.cw_report.proofs.aligned.push_cells.Given as goal

abbrev pub invariant-loop-column : goal.invariant-loop-column
invariant-loop-column l =
    l.text.items ++ further_cells l.titled l.first l.line (drop l.column-index l.columns)
    ≡ l.fn.text.items ++ further_cells l.titled l.first l.line l.columns
