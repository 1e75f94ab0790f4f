use Rattle.cw_code.proofs.Taken.{settles}
use Rattle.cw_code.proofs.laws.results_may_go_back.Goals as goal

pub returns : goal.returns
returns c = settles
