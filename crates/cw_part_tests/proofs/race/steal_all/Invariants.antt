use Rattle.std.proofs.Common.{◌<◌}
use Rattle.cw_yard.specs.Seats.{IsSeatOf, workers_of}
use Rattle.cw_part_tests.proofs.race.steal_all.Given as goal

abbrev pub invariant-loop : goal.invariant-loop
invariant-loop g l =
    (goal.iterator-loop g).can_next l.iterator' × (goal.iterator-loop g).is_finite l.iterator' × IsSeatOf l.yard l.seat × (0 < workers_of l.yard)
