use Rattle.std.proofs.Common.{◌≤◌, length}
use Rattle.cw_machine.specs.declared.trap_state.TheConstants.{MOST_ROUND}
use Rattle.cw_machine.proofs.machine.Machine.round.Given as goal

abbrev pub invariant-loop-frame : goal.invariant-loop-frame
invariant-loop-frame l = length l.round.items ≤ MOST_ROUND
