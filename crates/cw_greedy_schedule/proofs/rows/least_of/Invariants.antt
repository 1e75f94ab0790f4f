use Rattle.std.proofs.Common.{◌≡◌, drop}
use Rattle.cw_greedy_schedule.specs.Boards.{least_slot, lesser}
use Rattle.cw_greedy_schedule.proofs.rows.least_of.Given as goal

abbrev pub invariant-loop-number : goal.invariant-loop-number
invariant-loop-number l = lesser l.least (least_slot (drop l.number-index l.row)) ≡ least_slot l.row
