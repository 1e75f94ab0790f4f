use Rattle.std.proofs.Common.{length, refl, sym, ap, subst, inl, inr}
use Rattle.cw_jobs.specs.declared.call.Parts.{Parts}
use Rattle.cw_jobs.specs.declared.effect.Effect.TheVariants as effect
use Rattle.cw_machine.specs.JobRuns as runs
use Rattle.cw_strand.specs.Holds.{its_job}
use Rattle.cw_strand.proofs.Ends.{may_with, gives_with, may_trapped, may_over, may_give_up, trap_means, over_means, up_means, memory_means}
use Rattle.cw_strand.proofs.Losing.{stopped_lost}
use Rattle.cw_strand.proofs.strand.Strand.stop_effect.Goals as goal

pub given_up-back-requires : goal.given_up-back-requires
given_up-back-requires c =
    let self = c.args.self.now in
    subst (λ (q : Parts). runs.MayGiveUp (record self.run.machine { lines = c.replace-lines.new.dest }) (length q.rest.slices.items)) (sym c.deref_mut.ensures.value)
    (may_with self.run.machine (record self.run.machine { lines = c.replace-lines.new.dest }) refl (length self.parts.value.rest.slices.items)
    (may_trapped c.calls_preserve_strand_job.ensures c.machines_that_stop_remain.ensures.kept self c.requires.running c.requires.none c.in-Trapped.trap c.in-Trapped.line c.in-Trapped.is))

pub given_up-requires : goal.given_up-requires
given_up-requires c =
    let self = c.args.self.now in
    subst (λ (q : Parts). runs.MayGiveUp self.run.machine (length q.rest.slices.items)) (sym c.deref_mut-in-Over.ensures.value)
    (may_over c.calls_preserve_strand_job.ensures c.machines_that_stop_remain.ensures.kept self c.requires.running c.requires.none c.in-Over.is)

pub given_up-requires-in-GivenUp : goal.given_up-requires-in-GivenUp
given_up-requires-in-GivenUp c =
    let self = c.args.self.now in
    subst (λ (q : Parts). runs.MayGiveUp self.run.machine (length q.rest.slices.items)) (sym c.deref_mut-in-GivenUp.ensures.value)
    (may_give_up c.calls_preserve_strand_job.ensures c.machines_that_stop_remain.ensures.kept self c.requires.running c.requires.none c.in-GivenUp.is)

pub returns-in-Trapped-clause-means : goal.returns-in-Trapped-clause-means
returns-in-Trapped-clause-means c =
    let self = c.args.self.now in
    let n = length self.parts.value.rest.slices.items in
    trap_means c.calls_preserve_strand_job.ensures c.machines_that_stop_remain.ensures.kept self c.requires.running c.requires.none c.in-Trapped.trap c.in-Trapped.line
    (effect.Trapped c.in-Trapped.trap c.in-Trapped.line c.replace-lines.result self.count c.given_up-back.result) c.in-Trapped.is (
      refl,
      refl,
      ap (λ l. l.items) c.replace-lines.ensures.value,
      refl,
      gives_with self.run.machine (record self.run.machine { lines = c.replace-lines.new.dest }) refl n c.given_up-back.result.items
          (subst (λ (q : Parts). runs.GivesUp (record self.run.machine { lines = c.replace-lines.new.dest }) (length q.rest.slices.items) c.given_up-back.result.items) c.deref_mut.ensures.value c.given_up-back.ensures),
    )

pub returns-in-Over-clause-means : goal.returns-in-Over-clause-means
returns-in-Over-clause-means c =
    let self = c.args.self.now in
    over_means c.calls_preserve_strand_job.ensures c.machines_that_stop_remain.ensures.kept self c.requires.running c.requires.none
    (effect.OverLimit c.given_up.result) c.in-Over.is
    (subst (λ (q : Parts). runs.GivesUp self.run.machine (length q.rest.slices.items) c.given_up.result.items) c.deref_mut-in-Over.ensures.value c.given_up.ensures)

pub returns-in-GivenUp-clause-means : goal.returns-in-GivenUp-clause-means
returns-in-GivenUp-clause-means c =
    let self = c.args.self.now in
    up_means c.calls_preserve_strand_job.ensures c.machines_that_stop_remain.ensures.kept self c.requires.running c.requires.none
    (effect.GivenUp c.given_up-in-GivenUp.result) c.in-GivenUp.is
    (subst (λ (q : Parts). runs.GivesUp self.run.machine (length q.rest.slices.items) c.given_up-in-GivenUp.result.items) c.deref_mut-in-GivenUp.ensures.value c.given_up-in-GivenUp.ensures)

pub returns-in-Trapped-clause-comes : goal.returns-in-Trapped-clause-comes
returns-in-Trapped-clause-comes c = inr c.in-Trapped.is

pub returns-in-Over-clause-comes : goal.returns-in-Over-clause-comes
returns-in-Over-clause-comes c = inr c.in-Over.is

pub returns-in-GivenUp-clause-comes : goal.returns-in-GivenUp-clause-comes
returns-in-GivenUp-clause-comes c = c.in-GivenUp.is

pub returns-in_default-clause-means : goal.returns-in_default-clause-means
returns-in_default-clause-means c = memory_means (its_job c.args.self.now) (effect.Memory c.new-in_default.result) tt

pub returns-in_default-clause-comes : goal.returns-in_default-clause-comes
returns-in_default-clause-comes c = inr (stopped_lost c.args.self.now.mode c.requires.stopped c.in_default.not-Trapped c.in_default.not-Over c.in_default.not-GivenUp)

pub returns-in-Trapped-clause-counts : goal.returns-in-Trapped-clause-counts
returns-in-Trapped-clause-counts c = refl

pub returns-in-Over-clause-counts : goal.returns-in-Over-clause-counts
returns-in-Over-clause-counts c = c.in-Over.is

pub returns-in_default-clause-counts : goal.returns-in_default-clause-counts
returns-in_default-clause-counts c = inl (stopped_lost c.args.self.now.mode c.requires.stopped c.in_default.not-Trapped c.in_default.not-Over c.in_default.not-GivenUp)
