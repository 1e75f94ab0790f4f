use Rattle.std.proofs.Common.{◌+◌, ◌<◌, length}
use Rattle.cw_greedy_schedule.specs.Boards.{NoneFrom}
use Rattle.cw_greedy_schedule.proofs.rows.last_before.Given as goal

abbrev pub invariant-loop-place : goal.invariant-loop-place
invariant-loop-place l = (l.place < length l.row) × NoneFrom (1 + l.place) l.row

abbrev pub decreases-loop-place : goal.decreases-loop-place
decreases-loop-place l = l.place
