-- The totals made so far, followed by the totals of the remaining reducers.
use Rattle.std.proofs.Common.{◌≡◌, ◌++◌, drop}
use Rattle.cw_jobs.specs.Totals as totals
use Rattle.cw_jobs.proofs.totals.empty_totals.Given as goal

abbrev pub invariant-loop-r : goal.invariant-loop-r
invariant-loop-r l = l.all.items ++ totals.empty_totals (drop l.r-index l.reducers) ≡ totals.empty_totals l.reducers
