use Rattle.std.proofs.Common.{◌≡◌, ℕ, ◌<◌, ◌≤◌, [], length}
use Rattle.std.specs.Vec.{vec_capacity}
use Rattle.cw_jobs.specs.Calls.{placed}
use Rattle.cw_machine.specs.Arrays.{block}
use Rattle.cw_machine.specs.JobRuns.{lodged}
use Rattle.cw_machine.proofs.job.move_in.Given as goal

abbrev pub invariant-loop-k : goal.invariant-loop-k
invariant-loop-k l = record {
  many : length l.made.items ≡ l.k;
  room : length l.initial.rest.slices.items ≤ vec_capacity l.made;
  lodges : (a : ℕ) → a < l.k → block l.made.items a ≡ lodged (placed l.initial.rest.slices.items a);
  still : (a : ℕ) → l.k ≤ a → placed l.rest.slices.items a ≡ placed l.initial.rest.slices.items a;
  emptied : (a : ℕ) → a < l.k → (placed l.rest.slices.items a).items ≡ [];
  place : l.rest.place ≡ l.initial.rest.place;
  depth : l.rest.depth ≡ l.initial.rest.depth;
  cells : l.rest.cells.items ≡ l.initial.rest.cells.items;
  as_many : length l.rest.slices.items ≡ length l.initial.rest.slices.items;
}
