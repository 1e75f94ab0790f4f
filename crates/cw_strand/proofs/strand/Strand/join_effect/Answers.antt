use Rattle.std.proofs.Common.{◌≡◌, length, refl, sym, ap, ◌∙◌, subst, inl, inr}
use Rattle.cw_jobs.specs.declared.call.Parts.{Parts}
use Rattle.cw_jobs.specs.declared.call.Rest.{Rest}
use Rattle.cw_jobs.specs.declared.effect.Effect.TheVariants as effect
use Rattle.cw_jobs.specs.Jobs.{code_of}
use Rattle.cw_machine.specs.JobRuns as runs
use Rattle.cw_strand.specs.Holds.{its_code, its_job, its_parts}
use Rattle.cw_strand.proofs.Ends.{memory_means}
use Rattle.cw_strand.proofs.Joins.{can_end, join_none, join_means}
use Rattle.cw_strand.proofs.strand.Strand.join_effect.Goals as goal

pub finish-requires-clause-can : goal.finish-requires-clause-can
finish-requires-clause-can c =
    can_end c.calls_preserve_strand_job.ensures c.args.self.now c.args.end c.rests_stay_in_their_functions.ensures c.runs_stay_in_their_functions.ensures.seats c.requires.comes
    (length c.replace-frame.result.slices.items) (ap (λ (r : Rest). length r.slices.items) (sym (c.replace-frame.ensures.value ∙ ap (λ (q : Parts). q.rest) c.deref_mut.ensures.value)))

pub returns-in-Ok-clause-means : goal.returns-in-Ok-clause-means
returns-in-Ok-clause-means c =
    let self = c.args.self.now in
    let stay = c.rests_stay_in_their_functions.ensures in
    let seats = c.runs_stay_in_their_functions.ensures.seats in
    let many : length c.replace-frame.result.slices.items ≡ length (its_parts self).rest.slices.items =
    ap (λ (r : Rest). length r.slices.items) (c.replace-frame.ensures.value ∙ ap (λ (q : Parts). q.rest) c.deref_mut.ensures.value) ∙ c.requires.comes.keeps.rest.as_many in
    let code : c.deref-2.result.now ≡ its_code self =
    c.deref-2.ensures ∙ ap (λ q. code_of q) c.deref.ensures ∙ ap (λ q. code_of q) c.deref_mut.ensures.value ∙ c.requires.comes.keeps.code in
    join_means c.calls_preserve_strand_job.ensures self c.args.end stay seats c.requires.comes c.calls_keep_meter_records.ensures
    (record { machine = c.finish.new.self; meter = c.trim.new.self }) c.trim.ensures c.finish.ensures.lines c.finish.ensures.totals
    (effect.Joined c.finish.new.rest c.finish.new.replaced c.shown.result) (
      subst (λ n. runs.EndsJob (its_code self) self.run.machine n c.finish.new.rest c.finish.new.replaced.items) many
          (subst (λ v. runs.EndsJob v self.run.machine (length c.replace-frame.result.slices.items) c.finish.new.rest c.finish.new.replaced.items) code c.in-Ok.ensures.ends),
      c.shown.ensures,
    )

pub returns-in-Ok-clause-none : goal.returns-in-Ok-clause-none
returns-in-Ok-clause-none c = join_none c.calls_preserve_strand_job.ensures c.args.self.now c.args.end c.rests_stay_in_their_functions.ensures c.runs_stay_in_their_functions.ensures.seats c.requires.comes

pub returns-in-Err-clause-means : goal.returns-in-Err-clause-means
returns-in-Err-clause-means c = memory_means (its_job c.args.self.now) (effect.Memory c.new.result) tt

pub returns-in-Err-clause-none : goal.returns-in-Err-clause-none
returns-in-Err-clause-none c = join_none c.calls_preserve_strand_job.ensures c.args.self.now c.args.end c.rests_stay_in_their_functions.ensures c.runs_stay_in_their_functions.ensures.seats c.requires.comes

pub returns-in-Err-clause-comes : goal.returns-in-Err-clause-comes
returns-in-Err-clause-comes c = inl c.requires.comes.going

pub returns-in-Ok-clause-counts : goal.returns-in-Ok-clause-counts
returns-in-Ok-clause-counts c = c.shown.ensures.counted

pub returns-in-Ok-clause-comes : goal.returns-in-Ok-clause-comes
returns-in-Ok-clause-comes c = c.requires.comes.going

pub returns-in-Err-clause-counts : goal.returns-in-Err-clause-counts
returns-in-Err-clause-counts c = inr c.requires.comes.going
