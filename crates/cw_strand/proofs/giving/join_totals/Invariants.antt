use Rattle.cw_strand.proofs.Joining.{JoinedTo}
use Rattle.cw_strand.proofs.giving.join_totals.Given as goal

abbrev pub invariant-loop-k : goal.invariant-loop-k
invariant-loop-k l = JoinedTo l.initial.totals.items l.more l.k l.totals.items
