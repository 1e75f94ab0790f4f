use Rattle.cw_sched.proofs.core.Executions.{inlined_walk}
use Rattle.cw_sched.proofs.laws.printing_inlined_is_serial.Goals as goal

pub returns : goal.returns
returns c = inlined_walk
