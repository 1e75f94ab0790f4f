use Rattle.cw_yard.specs.Seats.{IsSeatOf}
use Rattle.cw_part_tests.proofs.race.own.Given as goal

abbrev pub invariant-loop-left : goal.invariant-loop-left
invariant-loop-left g l = IsSeatOf l.yard l.seat

abbrev pub decreases-loop-left : goal.decreases-loop-left
decreases-loop-left g l = l.left
