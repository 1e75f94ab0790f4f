use Rattle.std.proofs.Common.{◌/◌, arith, ap, ◌∙◌}
use Rattle.cw_greedy_schedule.specs.Boards.{least_slot}
use Rattle.cw_greedy_schedule.proofs.Groups.{group_slice}
use Rattle.cw_greedy_schedule.proofs.rows.least_near.Goals as goal

pub returns : goal.returns
returns c = c.least_of.ensures ∙ ap least_slot (group_slice c.args.row.now _ _ (c.args.place / 8) (omega arith) (omega arith))
