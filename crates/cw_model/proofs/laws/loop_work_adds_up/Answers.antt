use Rattle.cw_model.proofs.LoopTrees.{loop_work}
use Rattle.cw_model.proofs.laws.loop_work_adds_up.Goals as goal

pub returns : goal.returns
returns c = loop_work
