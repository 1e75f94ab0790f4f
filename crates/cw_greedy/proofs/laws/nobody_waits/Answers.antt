use Rattle.cw_greedy.proofs.Bounds as bounds
use Rattle.cw_greedy.proofs.laws.nobody_waits.Goals as goal

pub returns : goal.returns
returns c = bounds.nobody_waits
