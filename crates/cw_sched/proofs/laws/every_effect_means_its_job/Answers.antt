use Rattle.cw_sched.proofs.core.Outcomes.{effects_mean_their_jobs}
use Rattle.cw_sched.proofs.laws.every_effect_means_its_job.Goals as goal

pub returns : goal.returns
returns c = effects_mean_their_jobs c.every_effect_of_a_world_means_its_job.ensures
