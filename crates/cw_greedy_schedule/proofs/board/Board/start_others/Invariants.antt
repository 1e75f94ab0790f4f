use Rattle.std.proofs.Common.{◌≤◌}
use Rattle.cw_greedy.specs.Slots.{ready_slots}
use Rattle.cw_greedy_schedule.specs.Boards.{Moves}
use Rattle.cw_greedy_schedule.proofs.board.Board.start_others.Given as goal

abbrev pub invariant-loop-self : goal.invariant-loop-self
invariant-loop-self l = Moves l.fn.self l.self × (l.self.count ≤ l.processors)

abbrev pub decreases-loop-self : goal.decreases-loop-self
decreases-loop-self l = ready_slots l.self.waiting
