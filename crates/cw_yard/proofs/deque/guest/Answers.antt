use Rattle.cw_yard.proofs.Moves.{guests}
use Rattle.cw_yard.proofs.deque.guest.Goals as goal

pub another-requires : goal.another-requires
another-requires c = rw c.requires.1 (guests _ _)
