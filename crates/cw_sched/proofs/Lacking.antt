-- Where memory was wanting, by what the parts of an event tell.
use Rattle.std.proofs.Common.{◌≡◌, ◌⊎◌, ◌∙◌, Bool, true, false, Option, Some, None, refl, sym, ap, inl, inr}
use Rattle.std.specs.Prelude.{Result, IsSome}
use Rattle.std.proofs.lemmas.Bool.{true≢false}
use Rattle.cw_text.specs.declared.fault.Fault.{Fault}
use Rattle.cw_runnable.specs.declared.verified.Verified.{Verified}
use Rattle.cw_jobs.specs.declared.effect.Effect.{Effect}
use Rattle.cw_jobs.specs.declared.effect.Effect.TheVariants as effect
use Rattle.cw_machine.specs.declared.alone.Ended as alone
use Rattle.cw_machine.specs.Answering.{IsAnswerOf}
use Rattle.cw_strand.specs.declared.strand.Mode.{Mode}
use Rattle.cw_strand.specs.declared.strand.Mode.TheVariants as mode
use Rattle.cw_strand.specs.declared.strand.Strand.{Strand}
use Rattle.cw_strand.specs.Holds.{stops, has_failed, IsGoing, IsWaiting, HasFailed}
use Rattle.cw_strand.specs.Losing.{MayLack, MayStop, KeepsMode, ComesFrom, LeavesEnd, ReportsFailure}
use Rattle.cw_sched.specs.Scenes.{FrameView, Stage, Goes, Made, Answered}
use Rattle.cw_sched.specs.WorkerFrames.{IsBackIn}
use Rattle.cw_sched.specs.Events.{IsBegun}
use Rattle.cw_sched.specs.Lacking.{is_memory, answers_memory, lacks_memory, HasEnded, IsAnsweredMemory, LacksAfter}

pub bool_cases : (b : Bool) → (b ≡ false) ⊎ (b ≡ true)
bool_cases false = inl refl
bool_cases true = inr refl

-- a strand that goes on has lost nothing, and does not wait
pub goes_not_lost : (m : Mode) → m ≡ mode.Going → has_failed m ≡ true → ⊥
goes_not_lost m going lost = true≢false (sym lost ∙ ap has_failed going)

ran_out : (self : Strand) → MayStop mode.Memory self → MayLack self
ran_out self (inl going) = inl going
ran_out self (inr lost) = inr (ap has_failed lost)

-- a strand, after it was looked whether it has ended
pub after_end : (r : Option Effect) (mid new : Strand) → LeavesEnd r mid new → LacksAfter r new → MayLack mid
after_end None mid new same lost = inr (ap has_failed (sym same) ∙ lost)
after_end (Some (effect.Ended value shown)) mid new comes told = inl comes
after_end (Some (effect.Joined frame replaced shown)) mid new comes told = absurd told
after_end (Some (effect.Trapped trap line lines cost back)) mid new comes told = absurd told
after_end (Some (effect.OverLimit back)) mid new comes told = absurd told
after_end (Some (effect.Memory back)) mid new comes told = ran_out mid comes
after_end (Some (effect.GivenUp back)) mid new comes told = inr (ap has_failed comes)

pub after_event : (e : Effect) (old : Strand) → ComesFrom e old → IsAnsweredMemory e → MayLack old
after_event (effect.Ended value shown) old comes told = inl comes
after_event (effect.Joined frame replaced shown) old comes told = absurd told
after_event (effect.Trapped trap line lines cost back) old comes told = absurd told
after_event (effect.OverLimit back) old comes told = absurd told
after_event (effect.Memory back) old comes told = ran_out old comes
after_event (effect.GivenUp back) old comes told = inr (ap has_failed comes)

pub after_stop : (old new : Strand) → KeepsMode old new → HasFailed new → MayLack old
after_stop old new (inl going) lost = inl going.0
after_stop old new (inr same) lost = inr (ap has_failed (sym same) ∙ lost)

-- one whose newest job came back unrun
pub after_back : (r : Option Effect) (old mid new : Strand) → IsBackIn old mid → LeavesEnd r mid new → LacksAfter r new → HasFailed old ⊎ (IsWaiting old × IsSome r)
after_back None old mid new (inl b) same lost = absurd (goes_not_lost new.mode (same ∙ b.1) lost)
after_back None old mid new (inr b) same lost = inl (ap has_failed (sym (same ∙ b.1)) ∙ lost)
after_back (Some e) old mid new (inl b) comes told = inr (b.0, refl)
after_back (Some e) old mid new (inr b) comes told = inl (lost_in (after_end (Some e) mid new comes told))
  where
    lost_in : MayLack mid → HasFailed old
    lost_in (inl going) = absurd (true≢false (sym (ap stops b.1 ∙ b.0) ∙ ap stops going))
    lost_in (inr lost) = ap has_failed (sym b.1) ∙ lost

-- what is laid down lacks memory only where the post may have
memory_told : (e : Effect) → is_memory e ≡ true → IsAnsweredMemory e
memory_told (effect.Ended value shown) l = tt
memory_told (effect.Joined frame replaced shown) l = absurd (true≢false (sym l))
memory_told (effect.Trapped trap line lines cost back) l = absurd (true≢false (sym l))
memory_told (effect.OverLimit back) l = absurd (true≢false (sym l))
memory_told (effect.Memory back) l = tt
memory_told (effect.GivenUp back) l = tt

answer_told : (e : Effect) (r : Result alone.Ended Fault) → IsAnswerOf e r → answers_memory r ≡ true → IsAnsweredMemory e
answer_told (effect.Ended value shown) r is l = tt
answer_told (effect.Joined frame replaced shown) r is l = absurd is
answer_told (effect.Trapped trap line lines cost back) r is l = absurd (true≢false (sym (sym (ap answers_memory is.1) ∙ l)))
answer_told (effect.OverLimit back) r is l = absurd (true≢false (sym (sym (ap answers_memory is) ∙ l)))
answer_told (effect.Memory back) r is l = tt
answer_told (effect.GivenUp back) r is l = tt

pub stage_lacks : (v : Verified) (q : FrameView) (ended : Option Effect) (x : Stage) → IsBegun v q ended x → lacks_memory x ≡ true → LacksAfter ended q.strand
stage_lacks v q None x b l = sym (ap lacks_memory b) ∙ l
stage_lacks v q (Some e) (Goes k) b l = absurd b
stage_lacks v q (Some e) (Made n d) b l = memory_told e (sym (ap is_memory b.2) ∙ l)
stage_lacks v q (Some e) (Answered r) b l = answer_told e r b.1 l

ended_is : (v : Verified) (q : FrameView) (ended : Option Effect) (x : Stage) → IsBegun v q ended x → IsSome ended → HasEnded x
ended_is v q None x b some = absurd (true≢false (sym some))
ended_is v q (Some e) (Goes k) b some = absurd b
ended_is v q (Some e) (Made n d) b some = tt
ended_is v q (Some e) (Answered r) b some = tt

-- of one that has its newest job back
pub back_lacks : (v : Verified) (p : Strand) (q : FrameView) (ended : Option Effect) (x : Stage) → IsBegun v q ended x → (LacksAfter ended q.strand → HasFailed p ⊎ (IsWaiting p × IsSome ended))
    → lacks_memory x ≡ true → HasFailed p ⊎ (IsWaiting p × HasEnded x)
back_lacks v p q ended x b f l = told (f (stage_lacks v q ended x b l))
  where
    told : HasFailed p ⊎ (IsWaiting p × IsSome ended) → HasFailed p ⊎ (IsWaiting p × HasEnded x)
    told (inl lost) = inl lost
    told (inr at) = inr (at.0, ended_is v q ended x b at.1)

-- of one that has begun
pub fresh_lacks : (v : Verified) (p : Strand) (q : FrameView) (ended : Option Effect) (x : Stage) → IsGoing p → LeavesEnd ended p q.strand → IsBegun v q ended x → lacks_memory x ≡ true → HasEnded x
fresh_lacks v p q None x going same b l = absurd (goes_not_lost q.strand.mode (same ∙ going) (stage_lacks v q None x b l))
fresh_lacks v p q (Some e) x going comes b l = ended_is v q (Some e) x b refl

pub memory_is : (e : Effect) → ReportsFailure e → is_memory e ≡ true
memory_is (effect.Ended value shown) m = absurd m
memory_is (effect.Joined frame replaced shown) m = absurd m
memory_is (effect.Trapped trap line lines cost back) m = absurd m
memory_is (effect.OverLimit back) m = absurd m
memory_is (effect.Memory back) m = refl
memory_is (effect.GivenUp back) m = refl
