-- The longest cell so far, and the longest of those that are left.
use Rattle.std.proofs.Common.{◌≡◌, max, drop, map}
use Rattle.cw_report.specs.Aligned as aligned
use Rattle.cw_report.proofs.aligned.longest.Given as goal

abbrev pub invariant-loop-row : goal.invariant-loop-row
invariant-loop-row l =
    max l.longest (aligned.longest l.first l.column (map (λ r. r.now) (drop l.row-index l.rows)))
    ≡ aligned.longest l.first l.column (map (λ r. r.now) l.rows)
