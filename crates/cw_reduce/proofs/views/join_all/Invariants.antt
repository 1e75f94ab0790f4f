use Rattle.cw_reduce.proofs.ShownTellLaws.{JoinedTo}
use Rattle.cw_reduce.proofs.views.join_all.Given as goal

abbrev pub invariant-loop-i : goal.invariant-loop-i
invariant-loop-i l = JoinedTo l.from.items l.fn.into.items l.i l.into.items
