use Rattle.cw_machine.proofs.Lending.{LiesFrom}
use Rattle.cw_machine.proofs.machine.Machine.lies_within.Given as goal

abbrev pub invariant-loop-k : goal.invariant-loop-k
invariant-loop-k l = record { lies : LiesFrom l.fn.self l.fn.passed l.fn.low l.fn.high l.k }
