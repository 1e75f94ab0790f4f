use Rattle.std.proofs.Common.{◌+◌, ◌*◌}
use Rattle.cw_gains.proofs.gains.+threads.Given as goal

abbrev pub decreases-freed_with : goal.decreases-freed_with
decreases-freed_with g l = 2 * l.threads

abbrev pub decreases-others : goal.decreases-others
decreases-others g l = 2 * l.left + 1
