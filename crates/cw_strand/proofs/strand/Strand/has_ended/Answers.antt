use Rattle.cw_strand.proofs.Gave.{else_stopped}
use Rattle.cw_strand.proofs.RunsOn.{waiting_some}
use Rattle.cw_strand.proofs.strand.Strand.has_ended.Goals as goal

pub returns-in-Waiting-clause-no : goal.returns-in-Waiting-clause-no
returns-in-Waiting-clause-no c = λ _. waiting_some c.args.self.now c.requires.running c.in-Waiting.is

pub returns-in_default-clause-stopped : goal.returns-in_default-clause-stopped
returns-in_default-clause-stopped c = λ _. else_stopped c.args.self.now.mode c.requires.at_sync c.in_default.not-Waiting
