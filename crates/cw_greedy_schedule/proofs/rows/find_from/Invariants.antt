use Rattle.std.proofs.Common.{◌-◌, length}
use Rattle.cw_greedy_schedule.specs.MinTrees.{HasFrom}
use Rattle.cw_greedy_schedule.proofs.rows.find_from.Given as goal

abbrev pub invariant-loop-place : goal.invariant-loop-place
invariant-loop-place l = HasFrom l.place l.number l.row

abbrev pub decreases-loop-place : goal.decreases-loop-place
decreases-loop-place l = length l.row - l.place
