use Rattle.std.proofs.Common.{◌-◌}
use Rattle.cw_yard.specs.Seats.{IsSeatOf, workers_of}
use Rattle.cw_pool.proofs.work.doze.Given as goal

abbrev pub invariant-loop-victim : goal.invariant-loop-victim
invariant-loop-victim g l = IsSeatOf l.yard l.seat

abbrev pub decreases-loop-victim : goal.decreases-loop-victim
decreases-loop-victim g l = workers_of l.yard - l.victim
