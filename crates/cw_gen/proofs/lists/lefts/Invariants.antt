use Rattle.std.proofs.Common.{◌≡◌, ◌++◌, ◌-◌, map}
use Rattle.cw_loops.specs.Expanded.{left_slot, numbers}
use Rattle.cw_gen.proofs.lists.lefts.Given as goal

abbrev pub invariant-loop-array : goal.invariant-loop-array
invariant-loop-array l = l.slots.items ++ map (left_slot l.l.over) (numbers l.array (l.l.over - l.array)) ≡ map (left_slot l.l.over) (numbers 0 l.l.over)
