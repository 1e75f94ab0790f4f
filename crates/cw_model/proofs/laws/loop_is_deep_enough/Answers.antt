use Rattle.cw_model.proofs.LoopTrees.{deep_enough}
use Rattle.cw_model.proofs.laws.loop_is_deep_enough.Goals as goal

pub returns : goal.returns
returns c = deep_enough
