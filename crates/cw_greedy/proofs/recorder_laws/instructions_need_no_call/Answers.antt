use Rattle.cw_greedy.proofs.Moves.{ticks}
use Rattle.cw_greedy.proofs.recorder_laws.instructions_need_no_call.Goals as goal

pub returns : goal.returns
returns c = ticks
