use Rattle.std.proofs.Common.{◌≡◌, ◌≤◌, ◌-◌, length}
use Rattle.cw_yard.proofs.Openings.{Stolen}
use Rattle.cw_yard.proofs.open.stealers.Given as goal

abbrev pub invariant-loop-k : goal.invariant-loop-k
invariant-loop-k l =
    (length l.made.items ≡ l.k) × (l.k ≤ length l.owns.items) × Stolen l.owns.items l.made.items

abbrev pub decreases-loop-k : goal.decreases-loop-k
decreases-loop-k l = length l.owns.items - l.k
