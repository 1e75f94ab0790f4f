use Rattle.cw_sites.specs.Compacting.{Gathered}
use Rattle.cw_sites.proofs.compacting.gather.Given as goal

abbrev pub invariant-loop-i : goal.invariant-loop-i
invariant-loop-i l = Gathered l.from l.to l.fn.steps.items l.steps.items l.i l.places l.end
