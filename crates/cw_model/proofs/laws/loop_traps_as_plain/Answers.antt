use Rattle.cw_model.proofs.Halves.{traps_as_plain}
use Rattle.cw_model.proofs.laws.loop_traps_as_plain.Goals as goal

pub returns : goal.returns
returns c = traps_as_plain
