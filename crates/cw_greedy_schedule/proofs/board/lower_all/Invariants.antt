use Rattle.cw_greedy_schedule.proofs.Boards.{Lowers}
use Rattle.cw_greedy_schedule.proofs.board.lower_all.Given as goal

abbrev pub invariant-loop-place : goal.invariant-loop-place
invariant-loop-place l = Lowers l.by l.place l.fn.running l.running
