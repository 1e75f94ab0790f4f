use Rattle.std.proofs.Common.{◌≡◌, length}
use Rattle.cw_machine.specs.Hands.{HasMoreBare}
use Rattle.cw_machine.proofs.hands.make_slices.Given as goal

abbrev pub invariant-loop-k : goal.invariant-loop-k
invariant-loop-k l = record {
  more : HasMoreBare l.initial.slices.items l.slices.items;
  many : length l.slices.items ≡ l._k;
}
