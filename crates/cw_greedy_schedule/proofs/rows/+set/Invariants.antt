use Rattle.std.proofs.Common.{◌-◌, ◌*◌, length}
use Rattle.cw_greedy_schedule.proofs.rows.+set.Given as goal

-- the measures of two functions that call each other: a call on rows, then a call on one row and the rows above it
abbrev pub decreases-MinTree::set : goal.decreases-MinTree::set
decreases-MinTree::set l = 2 * length l.self.now

abbrev pub decreases-set_in_rows : goal.decreases-set_in_rows
decreases-set_in_rows l = 2 * length l.row.now - 1
