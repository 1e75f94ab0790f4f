use Rattle.cw_sites.proofs.AppendLaws.{SteppedTo}
use Rattle.cw_sites.proofs.paths.Paths.extend_by.Given as goal

abbrev pub invariant-loop-i : goal.invariant-loop-i
invariant-loop-i l = SteppedTo l.fn.self l.self l.steps.items l.from l.i
