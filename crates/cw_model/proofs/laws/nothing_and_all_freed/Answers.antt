use Rattle.cw_model.proofs.FreedSpans.{nothing_freed, all_freed}
use Rattle.cw_model.proofs.laws.nothing_and_all_freed.Goals as goal

pub returns : goal.returns
returns c = record { nothing = nothing_freed; all = all_freed }
