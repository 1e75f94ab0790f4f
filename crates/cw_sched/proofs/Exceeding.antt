-- When a strand exceeds its limit, by what the parts of an event tell.
use Rattle.std.proofs.Common.{◌≡◌, ◌∙◌, ◌+◌, ◌<◌, ◌⊎◌, true, [], Option, Some, None, sym, ap, subst, inl, inr, arith}
use Rattle.std.specs.Prelude.{◌-◌, Result, Err}
use Rattle.std.proofs.lemmas.Bool.{true≢false}
use Rattle.cw_text.specs.declared.fault.Fault.TheVariants as fault
use Rattle.cw_runnable.specs.declared.verified.Verified.{Verified}
use Rattle.cw_jobs.specs.declared.effect.Effect.{Effect}
use Rattle.cw_jobs.specs.declared.effect.Effect.TheVariants as effect
use Rattle.cw_machine.specs.declared.alone.Ended as alone
use Rattle.cw_text.specs.declared.fault.Fault.{Fault}
use Rattle.cw_machine.specs.Answering.{IsAnswerOf}
use Rattle.cw_strand.specs.declared.strand.Mode.{Mode}
use Rattle.cw_strand.specs.declared.strand.Mode.TheVariants as mode
use Rattle.cw_strand.specs.declared.strand.Strand.{Strand}
use Rattle.cw_strand.specs.declared.strand.Advance.TheVariants as advance
use Rattle.cw_strand.specs.Holds.{its_end, outs, stops, has_failed, IsGoing, HasFailed}
use Rattle.cw_strand.specs.Losing.{ComesFrom, LeavesEnd, ReportsOverLimit}
use Rattle.cw_strand.specs.Moves.{AdvancesBy, EndsAfter, EndsBy, EndsStill, IsAtLimit, IsUnended, PausesBy}
use Rattle.cw_sched.specs.Scenes.{FrameView, Stage, Goes, Made, Answered}
use Rattle.cw_sched.specs.WorkerFrames.{IsBackIn}
use Rattle.cw_sched.specs.Events.{IsBegun}
use Rattle.cw_sched.specs.Lacking.{IsAnsweredMemory}
use Rattle.cw_sched.specs.Exceeding.{Exceeds, ExceedsAfter}
use Rattle.cw_sched.proofs.Lacking.{goes_not_lost}
use Rattle.cw_sched.proofs.WorkerFrames.{within_end}

-- a strand that goes on has not exceeded its limit
pub goes_not_over : (m : Mode) → m ≡ mode.Going → m ≡ mode.Over → ⊥
goes_not_over m going over = true≢false (sym (ap stops over) ∙ ap stops going)

over_not_lost : (m : Mode) → m ≡ mode.Over → has_failed m ≡ true → ⊥
over_not_lost m over lost = true≢false (sym lost ∙ ap has_failed over)

going_not_memory : (m : Mode) → m ≡ mode.Going → m ≡ mode.Memory → ⊥
going_not_memory m going memory = true≢false (sym (ap stops memory) ∙ ap stops going)

-- an effect over the limit, of a strand that executed nothing more
over_still : (e : Effect) (self : Strand) → EndsStill e self → ReportsOverLimit e → self.mode ≡ mode.Over
over_still (effect.Ended value shown) self h told = absurd told
over_still (effect.Joined frame replaced shown) self h told = absurd told
over_still (effect.Trapped trap line lines cost back) self h told = absurd told
over_still (effect.OverLimit back) self h told = h
over_still (effect.Memory back) self h told = absurd told
over_still (effect.GivenUp back) self h told = absurd told

pub ends_over : (r : Option Effect) (old new : Strand) → EndsBy r old new → LeavesEnd r old new → ExceedsAfter r new → old.mode ≡ mode.Over
ends_over None old new ends leaves over = sym leaves ∙ over
ends_over (Some e) old new ends leaves told = over_still e old ends.2 told

-- by an instruction a strand that goes on exceeds its limit only if it has executed as many as it may
pub over_paused : (old new : Strand) → IsGoing old → PausesBy old new → new.mode ≡ mode.Over → old.count ≡ its_end old
over_paused old new going pauses over = told pauses.stands
  where
    told : (new.mode ≡ old.mode) ⊎ ((new.mode ≡ mode.Over) × IsAtLimit old) → old.count ≡ its_end old
    told (inl same) = absurd (goes_not_over new.mode (same ∙ going) over)
    told (inr at) = at.1.1

pub over_ended : (e : Effect) (old : Strand) → IsGoing old → EndsAfter e old → ReportsOverLimit e → old.count ≡ its_end old
over_ended (effect.Ended value shown) old going after told = absurd told
over_ended (effect.Joined frame replaced shown) old going after told = absurd told
over_ended (effect.Trapped trap line lines cost back) old going after told = absurd told
over_ended (effect.OverLimit back) old going (inl over) told = absurd (goes_not_over old.mode going over)
over_ended (effect.OverLimit back) old going (inr full) told = full.1
over_ended (effect.Memory back) old going after told = absurd told
over_ended (effect.GivenUp back) old going after told = absurd told

-- and lacks memory only if its limit leaves it one
pub ran_below : (old mid : Strand) → mid.of ≡ old.of → AdvancesBy advance.Ran old mid → old.count < its_end old
ran_below old mid of ran =
    let le = within_end mid ran.0 in
    let one = ran.2 in
    let same : its_end mid ≡ its_end old = ap (λ o. (o.value.parts.value).limit - (o.value.parts.value).before) of in
    omega (arith, le, one, same)

pub not_lost_paused : (old new : Strand) → IsGoing old → PausesBy old new → HasFailed new → ⊥
not_lost_paused old new going pauses lost = told pauses.stands
  where
    told : (new.mode ≡ old.mode) ⊎ ((new.mode ≡ mode.Over) × IsAtLimit old) → ⊥
    told (inl same) = goes_not_lost new.mode (same ∙ going) lost
    told (inr at) = over_not_lost new.mode at.0 lost

pub ended_below : (e : Effect) (old : Strand) → IsGoing old → IsUnended old → outs old ≡ [] → EndsAfter e old → ComesFrom e old → IsAnsweredMemory e → old.count < its_end old
ended_below (effect.Ended value shown) old going unended none after comes told = after.below
ended_below (effect.Joined frame replaced shown) old going unended none after comes told = absurd told
ended_below (effect.Trapped trap line lines cost back) old going unended none after comes told = absurd told
ended_below (effect.OverLimit back) old going unended none after comes told = absurd told
ended_below (effect.Memory back) old going unended none (inl lost) comes told = absurd (going_not_memory old.mode going lost)
ended_below (effect.Memory back) old going unended none (inr joins) comes told = absurd (joins.1 (unended none))
ended_below (effect.GivenUp back) old going unended none after comes told = absurd (goes_not_lost old.mode going (ap has_failed comes))

-- a strand whose newest job came back unrun
pub over_back : (old mid : Strand) → IsBackIn old mid → mid.mode ≡ mode.Over → old.mode ≡ mode.Over
over_back old mid (inl back) over = absurd (goes_not_over mid.mode back.1 over)
over_back old mid (inr stopped) over = sym stopped.1 ∙ over

-- what a run answers
answer_over : (e : Effect) (r : Result alone.Ended Fault) → IsAnswerOf e r → r ≡ Err fault.OverLimit → ReportsOverLimit e
answer_over (effect.Ended value shown) r is over = absurd (subst (λ x. IsAnswerOf (effect.Ended value shown) x → ⊥) (sym over) (λ h. cc) is)
answer_over (effect.Joined frame replaced shown) r is over = absurd is
answer_over (effect.Trapped trap line lines cost back) r is over = absurd (let same = sym over ∙ is.1 in cc)
answer_over (effect.OverLimit back) r is over = tt
answer_over (effect.Memory back) r is over = absurd (let same = sym over ∙ is in cc)
answer_over (effect.GivenUp back) r is over = absurd (let same = sym over ∙ is in cc)

-- what is laid on a worker's list exceeds the limit only if the post does
pub stage_exceeds : (v : Verified) (q : FrameView) (ended : Option Effect) (x : Stage) → IsBegun v q ended x → Exceeds x → ExceedsAfter ended q.strand
stage_exceeds v q None x b over = subst (λ y. Exceeds y) b over
stage_exceeds v q (Some e) (Goes k) b over = absurd b
stage_exceeds v q (Some e) (Made n d) b over = subst ReportsOverLimit b.2 over
stage_exceeds v q (Some e) (Answered r) b over = answer_over e r b.1 over
