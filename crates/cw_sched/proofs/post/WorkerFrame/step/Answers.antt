use Rattle.std.proofs.Common.{◌≡◌, ◌∙◌, ◌++◌, ◌<◌, true, List, [], ◌∷◌, refl, sym, ap, subst, length}
use Rattle.std.specs.Prelude.{map}
use Rattle.cw_jobs.specs.declared.job.Job as jobs
use Rattle.cw_strand.specs.declared.strand.Advance.TheVariants as advance
use Rattle.cw_strand.specs.declared.strand.Step.TheVariants as step
use Rattle.cw_strand.specs.Holds.{its_end, its_job, outs}
use Rattle.cw_strand.specs.Losing.{Leaves}
use Rattle.cw_strand.specs.Moves.{AdvancesBy, DoesOne, KeptBy}
use Rattle.cw_sched.specs.declared.post.Out.TheVariants as out
use Rattle.cw_sched.specs.Scenes.{FrameView, jobs_of, posted}
use Rattle.cw_sched.proofs.Lacking.{goes_not_lost}
use Rattle.cw_sched.proofs.Exceeding.{ended_below, goes_not_over, not_lost_paused, over_ended, over_paused, ran_below}
use Rattle.cw_sched.proofs.WorkerFrames.{ended_one, none_out, paused_one, some_not_none, steps_on, steps_to_join, steps_to_spawn}
use Rattle.cw_sched.proofs.post.WorkerFrame.step.Goals as goal

pub returns-in-Ran-clause-does : goal.returns-in-Ran-clause-does
returns-in-Ran-clause-does c =
    let p = c.args.self.now in
    let mid : FrameView = record { number = p.number; strand = c.advance.new.self; at_join = p.at_join; outs = c.reserve-2.new.self.items } in
    steps_on c.stand.result (posted p) mid (posted c.stand.new.self) (jobs_of c.args.jobs.now) (jobs_of c.reserve.new.self) refl c.reserve-2.ensures.items
    (ap (λ o. o.value) c.advance.ensures.of) c.in-Ran.ensures.advances c.stand.ensures.comes c.stand.ensures.counts (ap (map (λ j. j.value)) c.reserve.ensures.items)

pub returns-in-Came-Spawned-clause-does : goal.returns-in-Came-Spawned-clause-does
returns-in-Came-Spawned-clause-does c =
    let p = c.args.self.now in
    let job = c.in-Came-Spawned.job in
    let same : jobs_of c.reserve.new.self ≡ jobs_of c.args.jobs.now = ap (map (λ j. j.value)) c.reserve.ensures.items in
    let by = subst (λ e. AdvancesBy (advance.Came e) p.strand c.advance.new.self) c.in-Came-Spawned.field-0-is c.in-Came-Spawned.ensures.advances in
    steps_to_spawn (posted p) (posted c.hand_out.new.self) (jobs_of c.args.jobs.now) (jobs_of c.hand_out.new.jobs) job c.hand_out.ensures.numbered
    (c.hand_out.ensures.outs
    ∙ (ap (λ l. l ++ out.Undecided (length (jobs_of c.reserve.new.self)) job ∷ []) c.reserve-2.ensures.items
    ∙ ap (λ (k : List jobs.Job). p.outs.items ++ out.Undecided (length k) job ∷ []) same))
    (ap its_job c.hand_out.ensures.strand ∙ ap (λ o. o.value) c.advance.ensures.of)
    c.hand_out.ensures.stands
    (subst (λ s. KeptBy (step.Spawned job) p.strand s) (sym c.hand_out.ensures.strand) by.0)
    (ap (λ t. t.mode) c.hand_out.ensures.strand ∙ subst (λ e. Leaves e p.strand c.advance.new.self) c.in-Came-Spawned.field-0-is c.in-Came-Spawned.ensures.leaves)
    (ap (λ t. t.count) c.hand_out.ensures.strand ∙ by.1)
    (c.hand_out.ensures.jobs ∙ ap (λ (k : List jobs.Job). k ++ job ∷ []) same)

pub returns-in-Came-AtSync-clause-does : goal.returns-in-Came-AtSync-clause-does
returns-in-Came-AtSync-clause-does c =
    let p = c.args.self.now in
    let new : FrameView = record { number = p.number; strand = c.advance.new.self; at_join = true; outs = c.reserve-2.new.self.items } in
    let by = subst (λ e. AdvancesBy (advance.Came e) p.strand c.advance.new.self) c.in-Came-AtSync.field-0-is c.in-Came-AtSync.ensures.advances in
    let does : p.strand.count < its_end p.strand → ⊥ = λ lt.
    subst (λ e. DoesOne (advance.Came e)) c.in-Came-AtSync.field-0-is (subst DoesOne c.in-Came-AtSync.is (c.advance.ensures.does c.requires.ready.0 c.requires.ready.1 lt)) in
    steps_to_join (posted p) new (jobs_of c.args.jobs.now) (jobs_of c.reserve.new.self) refl c.reserve-2.ensures.items
    (ap (λ o. o.value) c.advance.ensures.of) c.requires.even refl by.0
    (paused_one p.strand c.advance.new.self c.requires.running by.1.none does)
    (ap (map (λ j. j.value)) c.reserve.ensures.items)

pub returns-in-Came-Ended-clause-does : goal.returns-in-Came-Ended-clause-does
returns-in-Came-Ended-clause-does c =
    let p = c.args.self.now in
    let e = c.in-Came-Ended.effect in
    let by = subst (λ s. AdvancesBy (advance.Came s) p.strand c.advance.new.self) c.in-Came-Ended.field-0-is c.in-Came-Ended.ensures.advances in
    let does : p.strand.count < its_end p.strand → DoesOne (advance.Came (step.Ended e)) = λ lt.
    subst (λ s. DoesOne (advance.Came s)) c.in-Came-Ended.field-0-is (subst DoesOne c.in-Came-Ended.is (c.advance.ensures.does c.requires.ready.0 c.requires.ready.1 lt)) in (
      (refl, by.0.0, none_out p.outs.items (outs p.strand) c.requires.even by.0.1),
      ap (map (λ j. j.value)) c.reserve.ensures.items,
      ended_one e p.strand c.advance.new.self c.requires.running by.1 does,
    )

pub hand_out-requires-clause-out : goal.hand_out-requires-clause-out
hand_out-requires-clause-out c = λ none.
    let by = subst (λ e. AdvancesBy (advance.Came e) c.args.self.now.strand c.advance.new.self) c.in-Came-Spawned.field-0-is c.in-Came-Spawned.ensures.advances in
    some_not_none c.in-Came-Spawned.job (outs c.args.self.now.strand) (sym by.0.1 ∙ none)

pub hand_out-requires-clause-goes : goal.hand_out-requires-clause-goes
hand_out-requires-clause-goes c = subst (λ e. Leaves e c.args.self.now.strand c.advance.new.self) c.in-Came-Spawned.field-0-is c.in-Came-Spawned.ensures.leaves

pub returns-in-Ran-clause-over : goal.returns-in-Ran-clause-over
returns-in-Ran-clause-over c = λ over. absurd (c.in-Ran.ensures.advances.3 (c.stand.ensures.over over))

pub returns-in-Came-Spawned-clause-over : goal.returns-in-Came-Spawned-clause-over
returns-in-Came-Spawned-clause-over c =
    let goes = subst (λ e. Leaves e c.args.self.now.strand c.advance.new.self) c.in-Came-Spawned.field-0-is c.in-Came-Spawned.ensures.leaves in
    λ over. absurd (goes_not_over c.hand_out.new.self.strand.mode (ap (λ t. t.mode) c.hand_out.ensures.strand ∙ goes) over)

pub returns-in-Came-AtSync-clause-over : goal.returns-in-Came-AtSync-clause-over
returns-in-Came-AtSync-clause-over c =
    let p = c.args.self.now in
    let by = subst (λ e. AdvancesBy (advance.Came e) p.strand c.advance.new.self) c.in-Came-AtSync.field-0-is c.in-Came-AtSync.ensures.advances in
    over_paused p.strand c.advance.new.self c.requires.ready.0 by.1

pub returns-in-Came-Ended-clause-over : goal.returns-in-Came-Ended-clause-over
returns-in-Came-Ended-clause-over c =
    let p = c.args.self.now in
    let by = subst (λ s. AdvancesBy (advance.Came s) p.strand c.advance.new.self) c.in-Came-Ended.field-0-is c.in-Came-Ended.ensures.advances in
    over_ended c.in-Came-Ended.effect p.strand c.requires.ready.0 by.1

pub returns-in-Ran-clause-lacks : goal.returns-in-Ran-clause-lacks
returns-in-Ran-clause-lacks c = λ _. ran_below c.args.self.now.strand c.advance.new.self c.advance.ensures.of c.in-Ran.ensures.advances

pub returns-in-Came-Spawned-clause-lacks : goal.returns-in-Came-Spawned-clause-lacks
returns-in-Came-Spawned-clause-lacks c =
    let goes = subst (λ e. Leaves e c.args.self.now.strand c.advance.new.self) c.in-Came-Spawned.field-0-is c.in-Came-Spawned.ensures.leaves in
    λ lost. absurd (goes_not_lost c.hand_out.new.self.strand.mode (ap (λ t. t.mode) c.hand_out.ensures.strand ∙ goes) lost)

pub returns-in-Came-AtSync-clause-lacks : goal.returns-in-Came-AtSync-clause-lacks
returns-in-Came-AtSync-clause-lacks c =
    let p = c.args.self.now in
    let by = subst (λ e. AdvancesBy (advance.Came e) p.strand c.advance.new.self) c.in-Came-AtSync.field-0-is c.in-Came-AtSync.ensures.advances in
    λ lost. absurd (not_lost_paused p.strand c.advance.new.self c.requires.ready.0 by.1 lost)

pub returns-in-Came-Ended-clause-lacks : goal.returns-in-Came-Ended-clause-lacks
returns-in-Came-Ended-clause-lacks c =
    let p = c.args.self.now in
    let by = subst (λ s. AdvancesBy (advance.Came s) p.strand c.advance.new.self) c.in-Came-Ended.field-0-is c.in-Came-Ended.ensures.advances in
    let comes = subst (λ e. Leaves e p.strand c.advance.new.self) c.in-Came-Ended.field-0-is c.in-Came-Ended.ensures.leaves in
    ended_below c.in-Came-Ended.effect p.strand c.requires.ready.0 c.requires.ready.1 by.0.1 by.1 comes
