use Rattle.std.proofs.Common.{◌≤◌, ◌-◌}
use Rattle.cw_yard.specs.Opens.{AllRest}
use Rattle.cw_yard.proofs.open.pass_by.Given as goal

abbrev pub invariant-loop-k : goal.invariant-loop-k
invariant-loop-k l = AllRest l.table.table_id l.all l.k × (l.k ≤ l.to)

abbrev pub decreases-loop-k : goal.decreases-loop-k
decreases-loop-k l = l.to - l.k
