use Rattle.cw_freed.proofs.Moves.{ticks}
use Rattle.cw_freed.proofs.laws.instructions_need_no_call.Goals as goal

pub returns : goal.returns
returns c = ticks c.late_paths_wait.ensures
