use Rattle.cw_machine.specs.JobRuns.{HasCopies}
use Rattle.cw_machine.proofs.machine.Machine.copy_out.Given as goal

abbrev pub invariant-loop-a : goal.invariant-loop-a
invariant-loop-a l = HasCopies l.self l.count l.a l.copies.items
