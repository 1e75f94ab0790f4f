use Rattle.cw_measure.proofs.StrandWeightLaws.{late_waits}
use Rattle.cw_measure.proofs.laws.late_paths_wait.Goals as goal

pub returns : goal.returns
returns c = late_waits
