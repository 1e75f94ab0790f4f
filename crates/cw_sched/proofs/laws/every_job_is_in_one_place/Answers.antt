use Rattle.cw_sched.proofs.core.Events.{each_in_one_place}
use Rattle.cw_sched.proofs.laws.every_job_is_in_one_place.Goals as goal

pub returns : goal.returns
returns c = each_in_one_place
