use Rattle.cw_machine.proofs.Unwinds.{outs_lie_apart, rests_are_kept, shown_remain}
use Rattle.cw_machine.proofs.laws.machines_that_stop_remain.Goals as goal

pub returns-clause-remain : goal.returns-clause-remain
returns-clause-remain c = shown_remain

pub returns-clause-apart : goal.returns-clause-apart
returns-clause-apart c = outs_lie_apart

pub returns-clause-kept : goal.returns-clause-kept
returns-clause-kept c = rests_are_kept
