use Rattle.std.proofs.Common.{◌≡◌, ◌++◌}
use Rattle.std.specs.Prelude.{drop, map}
use Rattle.cw_gen.specs.Marks.{array_at}
use Rattle.cw_gen.proofs.lists.numbers_in.Given as goal

abbrev pub invariant-loop-slot : goal.invariant-loop-slot
invariant-loop-slot l = l.numbers.items ++ map (array_at l.places) (drop l.slot-index l.slots) ≡ map (array_at l.places) l.slots
