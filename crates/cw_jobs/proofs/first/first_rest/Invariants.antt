use Rattle.std.proofs.Common.{◌≡◌, ℕ, ◌<◌, ◌++◌, [], length, pos}
use Rattle.std.specs.Prelude.{replicate}
use Rattle.cw_slices.specs.Placed.{IsOwn}
use Rattle.cw_jobs.specs.Calls.{placed}
use Rattle.cw_jobs.proofs.first.first_rest.Given as goal

abbrev pub invariant-loop-i : goal.invariant-loop-i
invariant-loop-i l = l.cells.items ≡ l.args ++ replicate l._i (pos 0)

abbrev pub invariant-loop-k : goal.invariant-loop-k
invariant-loop-k l = record {
  as_many : length l.slices.items ≡ l._k;
  empty : (k : ℕ) → k < l._k → ((placed l.slices.items k).items ≡ []) × IsOwn (placed l.slices.items k);
}
