-- The columns so far, and those that are left.
use Rattle.std.proofs.Common.{◌≡◌, ◌++◌, drop, map}
use Rattle.cw_report.specs.Sized.{sized}
use Rattle.cw_report.proofs.aligned.all_sized.Given as goal

abbrev pub invariant-loop-column : goal.invariant-loop-column
invariant-loop-column l =
    let size = sized l.names l.first (map (λ r. r.now) l.rows) in
    l.made.items ++ map size (drop l.column-index l.columns) ≡ map size l.columns
