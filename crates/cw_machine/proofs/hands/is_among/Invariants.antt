use Rattle.std.proofs.Common.{◌≡◌, drop}
use Rattle.cw_machine.specs.Arrays.{is_among}
use Rattle.cw_machine.proofs.hands.is_among.Given as goal

abbrev pub invariant-loop-slot : goal.invariant-loop-slot
invariant-loop-slot l = is_among l.a (drop l.slot-index l.slots) ≡ is_among l.a l.slots
