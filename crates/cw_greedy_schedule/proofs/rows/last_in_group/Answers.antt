use Rattle.std.proofs.Common.{arith}
use Rattle.cw_greedy_schedule.proofs.Groups.{last_of_group, some_of_group}
use Rattle.cw_greedy_schedule.proofs.rows.last_in_group.Goals as goal

pub last_before-place-requires-clause-some : goal.last_before-place-requires-clause-some
last_before-place-requires-clause-some c = some_of_group c.args.row.now c.args.at c.requires.some

pub last_before-place-requires-clause-none : goal.last_before-place-requires-clause-none
last_before-place-requires-clause-none c = last_of_group c.args.row.now c.args.at _ (omega arith) c.requires.none
