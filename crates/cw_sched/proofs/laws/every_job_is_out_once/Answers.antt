use Rattle.cw_sched.proofs.core.Outcomes.{jobs_are_single}
use Rattle.cw_sched.proofs.laws.every_job_is_out_once.Goals as goal

pub returns : goal.returns
returns c = jobs_are_single c.every_job_is_out_once.ensures
