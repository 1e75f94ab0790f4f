use Rattle.std.proofs.Common.{◌≡◌, ◌++◌, length}
use Rattle.cw_strand.proofs.giving.put_in_front.Given as goal

abbrev pub invariant-loop-line : goal.invariant-loop-line
invariant-loop-line l = l.first.items ++ l.more.items ≡ l.initial.first.items ++ l.initial.more.items

abbrev pub decreases-loop-line : goal.decreases-loop-line
decreases-loop-line l = length l.first.items
