use Rattle.cw_yard.specs.Seats.{IsSeatOf}
use Rattle.cw_pool.specs.StrandStacks.{FormsChain}
use Rattle.cw_pool.proofs.work.work.Given as goal

abbrev pub invariant-loop : goal.invariant-loop
invariant-loop g l =
    (goal.iterator-loop g).can_next l.iterator' × (goal.iterator-loop g).is_finite l.iterator'
    × IsSeatOf l.yard l.seat × FormsChain l.yard l.fn.job l.post l.below.items
