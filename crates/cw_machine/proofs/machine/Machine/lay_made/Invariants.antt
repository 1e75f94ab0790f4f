use Rattle.cw_machine.proofs.GivesNew.{Making}
use Rattle.cw_machine.proofs.machine.Machine.lay_made.Given as goal

abbrev pub invariant-loop-a : goal.invariant-loop-a
invariant-loop-a l = record { made : Making l.initial.self l.initial.made.items l.fn.count l.a l.self l.made.items }
