use Rattle.std.proofs.Common.{◌≡◌, ◌≤◌, ◌+◌, ◌-◌, length}
use Rattle.cw_yard.specs.Ledger.{Each}
use Rattle.cw_yard.specs.Opens.{AllRest}
use Rattle.cw_yard.proofs.open.free_cells.Given as goal

abbrev pub invariant-loop-k : goal.invariant-loop-k
invariant-loop-k l =
    AllRest l.table.table_id l.all (l.from + l.k) × (length l.cells.items ≡ l.k)
    × Each (λ f. f.token.table_id ≡ l.table.table_id) l.cells.items × (l.k ≤ l.count)

abbrev pub decreases-loop-k : goal.decreases-loop-k
decreases-loop-k l = l.count - l.k
