use Rattle.cw_greedy.proofs.Rounds as rounds
use Rattle.cw_greedy.proofs.laws.rounds_preserve_length.Goals as goal

pub returns : goal.returns
returns c = rounds.rounds_keep
