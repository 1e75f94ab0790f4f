use Rattle.std.proofs.Common.{◌≡◌, ◌+◌, length}
use Rattle.cw_yard.specs.Ledger.{Each}
use Rattle.cw_yard.specs.Opens.{IsFresh, IsPart}
use Rattle.cw_yard.specs.Seats.{table_of, workers_of}
use Rattle.cw_yard.proofs.Openings.{Lead, Made}
use Rattle.cw_yard.proofs.open.seats.Given as goal

abbrev pub invariant-loop-own : goal.invariant-loop-own
invariant-loop-own l =
    (length l.made.items + length l.owns.items ≡ workers_of l.yard)
    × (length l.parts.items ≡ length l.owns.items)
    × Lead l.yard l.owns.items × Each (IsFresh (table_of l.yard)) l.owns.items
    × Each (IsPart l.yard l._cells) l.parts.items × Made l.yard l._cells l.made.items

abbrev pub decreases-loop-own : goal.decreases-loop-own
decreases-loop-own l = length l.owns.items
