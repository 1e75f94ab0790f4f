use Rattle.std.proofs.Common.{◌≡◌, ◌≤◌, ◌-◌, length}
use Rattle.cw_yard.specs.Ledger.{Each}
use Rattle.cw_yard.specs.Opens.{AllRest, IsFresh}
use Rattle.cw_yard.proofs.open.deques.Given as goal

abbrev pub invariant-loop-k : goal.invariant-loop-k
invariant-loop-k l =
    AllRest l.table.table_id l.all l.k × (length l.owns.items ≡ l.k)
    × Each (IsFresh l.table.table_id) l.owns.items × (l.k ≤ l.workers)

abbrev pub decreases-loop-k : goal.decreases-loop-k
decreases-loop-k l = l.workers - l.k
