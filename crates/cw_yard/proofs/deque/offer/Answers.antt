use Rattle.cw_yard.proofs.Moves.{pushes}
use Rattle.cw_yard.proofs.deque.offer.Goals as goal

pub push_as-requires-clause-pushes : goal.push_as-requires-clause-pushes
push_as-requires-clause-pushes c = pushes _ _ _ c.requires
