use Rattle.std.proofs.Common.{refl}
use Rattle.cw_strand.proofs.RunsOn.{waiting_some}
use Rattle.cw_strand.proofs.strand.Strand.end.Goals as goal

pub returns-in-Waiting-clause-ends : goal.returns-in-Waiting-clause-ends
returns-in-Waiting-clause-ends c = (c.requires, refl, refl, λ none. absurd (waiting_some c.args.self.now c.requires c.in-Waiting.is none))
