use Rattle.cw_machine.proofs.Lending.{ReadUp}
use Rattle.cw_machine.proofs.machine.Machine.lend_read.Given as goal

abbrev pub invariant-loop-k : goal.invariant-loop-k
invariant-loop-k l = record { read : ReadUp l.fn.self l.fn.top l.fn.loans l.k l.self }
