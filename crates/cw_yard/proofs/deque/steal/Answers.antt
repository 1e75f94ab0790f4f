use Rattle.cw_yard.proofs.Moves.{thieves}
use Rattle.cw_yard.proofs.deque.steal.Goals as goal

pub steal_as-requires-clause-takes : goal.steal_as-requires-clause-takes
steal_as-requires-clause-takes c = thieves _ _ c.requires.1
