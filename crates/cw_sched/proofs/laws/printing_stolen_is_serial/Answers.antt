use Rattle.cw_sched.proofs.core.Executions.{stolen_walk}
use Rattle.cw_sched.proofs.laws.printing_stolen_is_serial.Goals as goal

pub returns : goal.returns
returns c = stolen_walk
