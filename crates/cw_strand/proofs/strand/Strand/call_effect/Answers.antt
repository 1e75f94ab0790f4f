use Rattle.std.proofs.Common.{refl}
use Rattle.cw_jobs.specs.declared.effect.Effect.TheVariants as effect
use Rattle.cw_strand.proofs.Joins.{gave_none, end_means}
use Rattle.cw_strand.proofs.strand.Strand.call_effect.Goals as goal

pub returns-clause-means : goal.returns-clause-means
returns-clause-means c =
    end_means c.calls_preserve_strand_job.ensures c.args.self.now c.args.end c.args.value c.requires.comes
    (effect.Ended c.args.value c.shown.result) (refl, c.shown.ensures)

pub returns-clause-none : goal.returns-clause-none
returns-clause-none c = gave_none c.calls_preserve_strand_job.ensures c.args.self.now c.args.end c.args.value c.requires.comes

pub returns-clause-comes : goal.returns-clause-comes
returns-clause-comes c = c.requires.comes.going

pub returns-clause-counts : goal.returns-clause-counts
returns-clause-counts c = c.shown.ensures.counted
