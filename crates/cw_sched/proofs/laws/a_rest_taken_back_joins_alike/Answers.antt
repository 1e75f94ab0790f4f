use Rattle.cw_sched.proofs.core.TakeBack.{joins_alike}
use Rattle.cw_sched.proofs.laws.a_rest_taken_back_joins_alike.Goals as goal

pub returns : goal.returns
returns c = joins_alike c.serial_run_is_cut_at_a_spawn.ensures
