use Rattle.cw_yard.proofs.Thefts.{thieved}
use Rattle.cw_yard.proofs.handoff.steal.Goals as goal

pub returns-in-Some-clause-some : goal.returns-in-Some-clause-some
returns-in-Some-clause-some c = thieved _ _ _ c.in-Some.field-0 c.requires.thief.1 c.in-Some.ensures.some
