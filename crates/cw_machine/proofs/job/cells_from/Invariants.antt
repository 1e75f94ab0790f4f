use Rattle.std.proofs.Common.{◌≡◌, ℕ, ◌+◌, ◌<◌, length}
use Rattle.cw_jobs.specs.Calls.{cell}
use Rattle.cw_machine.proofs.job.cells_from.Given as goal

abbrev pub invariant-loop-k : goal.invariant-loop-k
invariant-loop-k l = record {
  as_many : l.first + length l.own.items ≡ l.k;
  are : (a : ℕ) → l.first + a < l.k → cell l.own.items a ≡ cell l.cells (l.first + a);
}
