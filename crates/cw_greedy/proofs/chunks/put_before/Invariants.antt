use Rattle.std.proofs.Common.{◌≡◌, ◌++◌, length}
use Rattle.cw_greedy.proofs.chunks.put_before.Given as goal

abbrev pub invariant-loop-chunk : goal.invariant-loop-chunk
invariant-loop-chunk l = l.first.items ++ l.more.items ≡ l.initial.first.items ++ l.initial.more.items

abbrev pub decreases-loop-chunk : goal.decreases-loop-chunk
decreases-loop-chunk l = length l.first.items
