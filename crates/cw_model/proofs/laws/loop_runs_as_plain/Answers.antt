use Rattle.cw_model.proofs.Halves.{runs_as_plain}
use Rattle.cw_model.proofs.laws.loop_runs_as_plain.Goals as goal

pub returns : goal.returns
returns c = runs_as_plain
