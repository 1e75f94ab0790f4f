use Rattle.cw_machine.specs.RepresentsState.{part_view}
use Rattle.cw_machine.proofs.Lending.{LentUp}
use Rattle.cw_machine.proofs.machine.Machine.lend.Given as goal

abbrev pub invariant-loop-k : goal.invariant-loop-k
invariant-loop-k l = record { lent : LentUp l.fn.self l.fn.passed (part_view l.fn.part) l.k l.self }
