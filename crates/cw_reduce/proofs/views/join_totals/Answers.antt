use Rattle.std.proofs.Common.{map, ◌∙◌}
use Rattle.cw_reduce.specs.ReducerState.{held}
use Rattle.cw_reduce.specs.ShownLaws.{totals-comm}
use Rattle.cw_reduce.proofs.views.join_totals.Goals as goal

pub returns-else-len : goal.returns-else-len
returns-else-len c = c.join_all-else-len.ensures ∙ totals-comm (map held c.args.right.items) (map held c.args.left.items)
