use Rattle.std.proofs.Common.{◌≡◌, ◌≤◌, ◌+◌, ◌-◌, ◌*◌, length}
use Rattle.cw_yard.specs.Ledger.{Each}
use Rattle.cw_yard.specs.Opens.{AllRest, IsPart, ServesDeques}
use Rattle.cw_yard.specs.Marks.{IsWatchOf}
use Rattle.cw_yard.specs.Seats.{table_of, workers_of}
use Rattle.cw_yard.proofs.open.parts.Given as goal

abbrev pub invariant-loop-k : goal.invariant-loop-k
invariant-loop-k l =
    ServesDeques l.yard l.owns.items × AllRest (table_of l.yard) l.all l.from
    × (l.from ≡ 64 + l.k * l.cells) × (l.workers ≡ workers_of l.yard) × (l.k ≤ l.workers)
    × IsWatchOf l.yard.mark.shared.table_id l.watch × (length l.made.items ≡ l.k)
    × Each (IsPart l.yard l.cells) l.made.items

abbrev pub decreases-loop-k : goal.decreases-loop-k
decreases-loop-k l = l.workers - l.k
