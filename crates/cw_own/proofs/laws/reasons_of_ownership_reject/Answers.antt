use Rattle.cw_own.proofs.Refusing.{disowned_refused}
use Rattle.cw_own.proofs.laws.reasons_of_ownership_reject.Goals as goal

pub returns : goal.returns
returns c = disowned_refused
