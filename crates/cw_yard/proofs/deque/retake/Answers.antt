use Rattle.cw_yard.proofs.Moves.{pops}
use Rattle.cw_yard.proofs.deque.retake.Goals as goal

pub pop_as-requires-clause-lifo : goal.pop_as-requires-clause-lifo
pop_as-requires-clause-lifo c = λ _. pops _ _ c.requires.0
