use Rattle.cw_machine.proofs.JobSlots.{MovedTo}
use Rattle.cw_machine.proofs.machine.Machine.move_all.Given as goal

abbrev pub invariant-loop-a : goal.invariant-loop-a
invariant-loop-a l = MovedTo l.initial.self l.initial.slices.items l.initial.replaced.items l.a l.self l.slices.items l.replaced.items
