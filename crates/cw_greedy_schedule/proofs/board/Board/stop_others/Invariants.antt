use Rattle.cw_greedy_schedule.specs.Boards.{Moves}
use Rattle.cw_greedy_schedule.proofs.board.Board.stop_others.Given as goal

abbrev pub invariant-loop-self : goal.invariant-loop-self
invariant-loop-self l = Moves l.fn.self l.self

abbrev pub decreases-loop-self : goal.decreases-loop-self
decreases-loop-self l = l.self.count
