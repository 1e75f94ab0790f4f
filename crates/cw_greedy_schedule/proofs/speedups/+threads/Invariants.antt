use Rattle.std.proofs.Common.{◌+◌, ◌*◌}
use Rattle.cw_greedy_schedule.proofs.speedups.+threads.Given as goal

abbrev pub decreases-rows_with : goal.decreases-rows_with
decreases-rows_with g l = 2 * l.threads

abbrev pub decreases-others : goal.decreases-others
decreases-others g l = 2 * l.left + 1
