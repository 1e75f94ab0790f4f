use Rattle.std.proofs.Common.{◌≡◌, ℕ, ◌<◌, ℤ, List, length}
use Rattle.std.specs.Prelude.{slice_get}
use Rattle.cw_slices.specs.Placed.{IsOwn}
use Rattle.cw_slices.specs.Blocks.{Have}
use Rattle.cw_machine.proofs.job.copied.Given as goal

abbrev pub invariant-loop-i : goal.invariant-loop-i
invariant-loop-i l = record {
  own : IsOwn l.slice;
  len : length l.slice.items ≡ l.len;
  are : (xs : List ℤ) → length xs ≡ l.len → Have l.block.cells l.from xs → (k : ℕ) → k < l.i → slice_get l.slice.items k ≡ slice_get xs k;
}
