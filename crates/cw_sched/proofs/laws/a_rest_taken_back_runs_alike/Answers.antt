use Rattle.cw_sched.proofs.core.TakeBack.{runs_alike}
use Rattle.cw_sched.proofs.laws.a_rest_taken_back_runs_alike.Goals as goal

pub returns : goal.returns
returns c = runs_alike
