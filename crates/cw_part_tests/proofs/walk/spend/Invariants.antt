use Rattle.cw_yard.specs.Seats.{IsSeatOf, IsTicketOf}
use Rattle.cw_part_tests.proofs.walk.spend.Given as goal

abbrev pub invariant-loop : goal.invariant-loop
invariant-loop g l =
    (goal.iterator-loop g).can_next l.iterator' × (goal.iterator-loop g).is_finite l.iterator' × IsSeatOf l.yard l.seat × IsTicketOf l.yard l.left
