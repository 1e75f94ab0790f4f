use Rattle.cw_model.proofs.Closure.{while_is_least}
use Rattle.cw_model.proofs.laws.while_is_least.Goals as goal

pub returns : goal.returns
returns c = while_is_least
