use Rattle.std.proofs.Common.{◌≡◌, ◌++◌, ◌-◌, map}
use Rattle.cw_loops.specs.Expanded.{right_slot, numbers}
use Rattle.cw_gen.proofs.lists.rights.Given as goal

abbrev pub invariant-loop-array : goal.invariant-loop-array
invariant-loop-array l = l.slots.items ++ map (right_slot l.l.over) (numbers l.array (l.l.over - l.array)) ≡ map (right_slot l.l.over) (numbers 0 l.l.over)
