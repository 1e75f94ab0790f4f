use Rattle.std.proofs.Common.{◌≡◌, ◌-◌, ◌≤◌, ◌++◌, pos, replicate, true, false}
use Rattle.core.specs.Mem.Slots.{slots_items, slots_filled, slots_ptr, slots_len}
use Rattle.cw_slices.proofs.slice.filled_with_zeros.Given as goal

abbrev pub invariant-loop-i : goal.invariant-loop-i
invariant-loop-i l = record {
  items : slots_items l.row ≡ replicate l.count (pos 0);
  filled : slots_filled l.row ≡ replicate l.i true ++ replicate (l.count - l.i) false;
  ptr : slots_ptr l.row ≡ slots_ptr l.initial.row;
  len : slots_len l.row ≡ l.count;
  within : l.i ≤ l.count;
}

abbrev pub decreases-loop-i : goal.decreases-loop-i
decreases-loop-i l = l.count - l.i
