use Rattle.cw_sched.proofs.core.Executions.{failing_walks}
use Rattle.cw_sched.proofs.laws.failing_is_serial.Goals as goal

pub returns : goal.returns
returns c = failing_walks
