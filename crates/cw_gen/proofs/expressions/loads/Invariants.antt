use Rattle.std.proofs.Common.{◌≡◌, ◌++◌}
use Rattle.std.specs.Prelude.{drop}
use Rattle.cw_gen.specs.Emit as spec
use Rattle.cw_gen.proofs.expressions.loads.Given as goal

abbrev pub invariant-loop-slot : goal.invariant-loop-slot
invariant-loop-slot l = l.instrs.items ++ spec.emitted_loads (drop l.slot-index l.slots) ≡ l.initial.instrs.items ++ spec.emitted_loads l.slots
