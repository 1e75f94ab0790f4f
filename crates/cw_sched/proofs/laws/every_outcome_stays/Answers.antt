use Rattle.cw_sched.proofs.core.Root.{outcomes_stay}
use Rattle.cw_sched.proofs.laws.every_outcome_stays.Goals as goal

pub returns : goal.returns
returns c = outcomes_stay
