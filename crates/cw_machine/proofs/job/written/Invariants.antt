use Rattle.std.proofs.Common.{◌≡◌, ℕ, ◌<◌, length}
use Rattle.std.specs.Prelude.{slice_get}
use Rattle.cw_machine.proofs.job.written.Given as goal

abbrev pub invariant-loop-i : goal.invariant-loop-i
invariant-loop-i l = record {
  spot : l.written.spot ≡ l.initial.written.spot;
  len : length l.written.items ≡ length l.initial.written.items;
  are : (k : ℕ) → k < l.i → slice_get l.written.items k ≡ slice_get l.array.items k;
}
