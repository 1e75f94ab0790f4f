use Rattle.std.proofs.Common.{◌≤◌, ◌+◌, length}
use Rattle.std.specs.Prelude.{vec_capacity}
use Rattle.std.specs.Arc.{arc_value}
use Rattle.cw_pool.specs.Driven.{AreSeatsFor}
use Rattle.cw_pool.proofs.run.start_all.Given as goal

abbrev pub invariant-loop-body : goal.invariant-loop-body
invariant-loop-body g l =
    AreSeatsFor (arc_value l.yard) (length l.crew.items) l.seats.items
    × (length l.handles.items + length l.crew.items ≤ vec_capacity l.handles)
    × (l.me + length l.crew.items ≤ 64)

abbrev pub decreases-loop-body : goal.decreases-loop-body
decreases-loop-body g l = length l.crew.items
