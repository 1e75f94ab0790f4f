use Rattle.std.proofs.Common.{length}
use Rattle.cw_machine.proofs.Handed.{HandsSome}
use Rattle.cw_machine.proofs.machine.Machine.hand_each.Given as goal

abbrev pub invariant-loop-a : goal.invariant-loop-a
invariant-loop-a l = HandsSome l.initial.self l.lender.first l.passed l.lent l.lender.slots (length l.initial.slices.items) l.a l.self l.slices.items
