use Rattle.std.proofs.Common.{◌≡◌, ◌≤◌, ◌-◌, [], length}
use Rattle.crossbeam_deque.specs.Handles.{view}
use Rattle.cw_yard.specs.Words.{stolen}
use Rattle.cw_yard.specs.Ledger.{Each}
use Rattle.cw_yard.specs.Opens.{ServesDeques, HasPasses}
use Rattle.cw_yard.proofs.open.passes.Given as goal

abbrev pub invariant-loop-k : goal.invariant-loop-k
invariant-loop-k l =
    ServesDeques l.yard l.owns.items × (length l.made.items ≡ l.k) × (l.k ≤ length l.owns.items)
    × HasPasses l.yard l.made.items × Each (λ e. stolen (view e) ≡ []) l.made.items

abbrev pub decreases-loop-k : goal.decreases-loop-k
decreases-loop-k l = length l.owns.items - l.k
