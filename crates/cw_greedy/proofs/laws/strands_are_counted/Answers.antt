use Rattle.cw_greedy.proofs.Counts as counts
use Rattle.cw_greedy.proofs.laws.strands_are_counted.Goals as goal

pub returns : goal.returns
returns c = counts.strands_are_counted
