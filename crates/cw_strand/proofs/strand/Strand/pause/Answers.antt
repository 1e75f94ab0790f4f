use Rattle.std.proofs.Common.{refl, inl, inr}
use Rattle.cw_strand.proofs.Advanced.{ends_now}
use Rattle.cw_strand.proofs.strand.Strand.pause.Goals as goal

pub returns-then-has_ended-clause-counts : goal.returns-then-has_ended-clause-counts
returns-then-has_ended-clause-counts c = ends_now c.stop_effect.result c.args.self.now (λ going. absurd (c.requires.at_sync going)) c.stop_effect.ensures.counts

pub returns-clause-counts : goal.returns-clause-counts
returns-clause-counts c = record { none = refl; stands = inl refl }

pub returns-clause-keeps : goal.returns-clause-keeps
returns-clause-keeps c = (c.requires.running, refl, c.has_ended.ensures.no c.if-has_ended.false, c.requires.at_sync)

pub returns-clause-leaves : goal.returns-clause-leaves
returns-clause-leaves c = inr refl
