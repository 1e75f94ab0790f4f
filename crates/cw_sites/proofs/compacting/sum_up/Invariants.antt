use Rattle.cw_sites.proofs.CompactingLaws.{SummedTo}
use Rattle.cw_sites.proofs.compacting.sum_up.Given as goal

abbrev pub invariant-loop-i : goal.invariant-loop-i
invariant-loop-i l = SummedTo l.from l.to l.steps.items l.i l.sums.items
