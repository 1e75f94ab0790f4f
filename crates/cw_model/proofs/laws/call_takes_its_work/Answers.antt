use Rattle.cw_model.proofs.Spending.{call_is_paid}
use Rattle.cw_model.proofs.laws.call_takes_its_work.Goals as goal

pub returns : goal.returns
returns c = call_is_paid
