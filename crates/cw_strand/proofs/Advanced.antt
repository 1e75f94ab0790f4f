-- A strand has gone on by one instruction.
use Rattle.std.proofs.Common.{◌≡◌, ◌≢◌, ◌⊎◌, Bool, true, ◌+◌, ◌<◌, ◌≤◌, ℕ, ℤ, Option, ◌∷◌, refl, sym, ap, subst, ◌∙◌, inl, inr, arith}
use Rattle.std.specs.Prelude.{◌-◌}
use native.Mathlib.Nat.{ℕ_set}
use Rattle.std.proofs.Math.Logic.{∥∥₁_elim}
use Rattle.cw_machine.specs.declared.run.Stop.{Stop}
use Rattle.cw_machine.specs.declared.run.Stop.TheVariants as stop
use Rattle.cw_jobs.specs.declared.effect.Effect.{Effect}
use Rattle.cw_jobs.specs.declared.effect.Effect.TheVariants as effect
use Rattle.cw_jobs.specs.Means.{IsMeaningOf}
use Rattle.cw_strand.specs.declared.strand.Mode.TheVariants as mode
use Rattle.cw_strand.specs.declared.strand.Strand.{Strand}
use Rattle.cw_strand.specs.declared.strand.Advance.{Advance}
use Rattle.cw_strand.specs.declared.strand.Advance.TheVariants as advance
use Rattle.cw_strand.specs.declared.strand.End.{End}
use Rattle.cw_strand.specs.declared.strand.End.TheVariants as end
use Rattle.cw_strand.specs.declared.strand.Event.{Event}
use Rattle.cw_strand.specs.declared.strand.Event.TheVariants as event
use Rattle.cw_strand.specs.declared.strand.Spawns.{Spawns}
use Rattle.cw_strand.specs.declared.strand.Step.{Step}
use Rattle.cw_strand.specs.declared.strand.Step.TheVariants as step
use Rattle.cw_strand.specs.Holds.{its_end, outs, IsAtSync, IsGoing, IsRunning}
use Rattle.cw_strand.specs.Losing.{LeavesBy, KeepsMode, WasGivenUp}
use Rattle.cw_strand.specs.Moves.{HasCome, hands_out, HandsOutAt, ComesOr, ComesWithin, AdvancesBy, CountsBy, EndsAfter, EndsAt, EndsCall, EndsStill, IsAtLimit, IsBefore, IsStill, KeptBy, LeadsTo}
use Rattle.cw_strand.specs.Moves.{PausesBy, RunsOn, StaysWithin, StopsFor}
use Rattle.cw_strand.proofs.Losing.{comes_from, going_not_memory, going_not_over, over_not_going, over_not_memory}
use Rattle.cw_strand.proofs.RunsOn.{sound_of, join_goes, over_goes}

-- a run that stopped at its limit has executed that number of instructions
pub over_count : (self : Strand) (limit : ℕ) → HasCome self limit stop.Over → self.count ≡ limit
over_count self limit h =
    ∥∥₁_elim (sound_of self) (ℕ_set _ _) (λ s. ∥∥₁_elim (h.comes s.ok s.job s.is) (ℕ_set _ _) (λ c. c.at.1))

-- a run before an instruction, with room for one, executes it
stirs : (old new : Strand) (stops : Bool) (to : Stop) → RunsOn old new (old.count + 1) stops to → IsBefore old → HasCome new (old.count + 1) to → new.count ≡ old.count → ⊥
stirs old new stops (stop.Spawned spawn) ran before came same = ran.still same
stirs old new stops stop.CameBack ran before came same = ran.still same
stirs old new stops stop.Joined ran before came same = ran.before before same refl
stirs old new stops (stop.Gave x) ran before came same = ran.still same
stirs old new stops (stop.Trapped c l) ran before came same = ran.still same
stirs old new stops stop.Over ran before came same = let far = over_count new (old.count + 1) came in omega (arith, far, same)
stirs old new stops stop.NoMemory ran before came same = ran.still same

pub one_done : (old new : Strand) (stops : Bool) (to : Stop) → RunsOn old new (old.count + 1) stops to → IsBefore old → HasCome new (old.count + 1) to → new.count ≡ old.count + 1
one_done old new stops to ran before came =
    let stirred : new.count ≢ old.count = stirs old new stops to ran before came in
    let from = ran.from in
    let within = ran.within in
    omega (arith, stirred, from, within)

pub stays : (old new : Strand) (stops : Bool) (to : Stop) → RunsOn old new old.count stops to → new.count ≡ old.count
stays old new stops to ran = let from = ran.from in let within = ran.within in omega (arith, from, within)

-- a run with room for no instruction, and not at the join, stops at its limit
pub over_of : (old new : Strand) (stops : Bool) (to : Stop) → RunsOn old new old.count stops to → to ≢ stop.Joined → to ≡ stop.Over
over_of old new stops (stop.Spawned spawn) ran not = absurd (ran.still (stays old new stops (stop.Spawned spawn) ran))
over_of old new stops stop.CameBack ran not = absurd (ran.still (stays old new stops stop.CameBack ran))
over_of old new stops stop.Joined ran not = absurd (not refl)
over_of old new stops (stop.Gave x) ran not = absurd (ran.still (stays old new stops (stop.Gave x) ran))
over_of old new stops (stop.Trapped c l) ran not = absurd (ran.still (stays old new stops (stop.Trapped c l) ran))
over_of old new stops stop.Over ran not = refl
over_of old new stops stop.NoMemory ran not = absurd (ran.still (stays old new stops stop.NoMemory ran))

-- the effect of a strand that executed nothing more
pub ends_now : (e : Effect) (self : Strand) → (IsGoing self → IsBefore self → ⊥) → EndsStill e self → EndsAfter e self
ends_now (effect.Ended value shown) self not h = absurd h
ends_now (effect.Joined frame replaced shown) self not h = h
ends_now (effect.Trapped trap line lines cost back) self not h = h
ends_now (effect.OverLimit back) self not h = inl h
ends_now (effect.Memory back) self not (inl lost) = inl lost
ends_now (effect.Memory back) self not (inr going) = inr (going, not going)
ends_now (effect.GivenUp back) self not h = h

-- told of the strand as it was before, when it was in the same state
pub still_from : (e : Effect) (old mid : Strand) → mid.mode ≡ old.mode → mid.count ≡ old.count → EndsStill e mid → EndsStill e old
still_from (effect.Ended value shown) old mid same still h = h
still_from (effect.Joined frame replaced shown) old mid same still h = h ∙ still
still_from (effect.Trapped trap line lines cost back) old mid same still h = h ∙ still
still_from (effect.OverLimit back) old mid same still h = sym same ∙ h
still_from (effect.Memory back) old mid same still (inl lost) = inl (sym same ∙ lost)
still_from (effect.Memory back) old mid same still (inr going) = inr (sym same ∙ going)
still_from (effect.GivenUp back) old mid same still h = h

-- at every end except the end of its call, a strand proceeds to its effect without an instruction
pub end_goes : (e : End) (self : Strand) → EndsAt e self → ((value : Option ℤ) (limit : ℕ) → e ≢ end.Gave value limit) → IsRunning self
end_goes end.Stopped self h not = h.0
end_goes (end.Joined limit) self h not = join_goes self limit h
end_goes (end.Gave value limit) self h not = absurd (not value limit refl)

-- the end of the job, by another strand of it
end_is : (old mid : Strand) → mid.of ≡ old.of → its_end mid ≡ its_end old
end_is old mid of = ap (λ o. (o.value.parts.value).limit - (o.value.parts.value).before) of

-- at the limit, or not
limit_from : (old mid : Strand) → mid.of ≡ old.of → mid.mode ≡ old.mode → mid.count ≡ old.count → IsAtLimit mid → IsAtLimit old
limit_from old mid of same still h = (sym same ∙ h.0, sym still ∙ h.1 ∙ end_is old mid of)

after_from : (e : Effect) (old mid : Strand) → mid.of ≡ old.of → mid.mode ≡ old.mode → mid.count ≡ old.count → IsBefore mid → EndsAfter e mid → EndsAfter e old
after_from (effect.Ended value shown) old mid of same still before h =
    record { counted = h.counted ∙ ap (λ n. n + 1) still; below = subst (λ n. old.count < n) (end_is old mid of) (subst (λ n. n < its_end mid) still h.below) }
after_from (effect.Joined frame replaced shown) old mid of same still before h = h ∙ still
after_from (effect.Trapped trap line lines cost back) old mid of same still before h = h ∙ still
after_from (effect.OverLimit back) old mid of same still before (inl over) = inl (sym same ∙ over)
after_from (effect.OverLimit back) old mid of same still before (inr full) = inr (limit_from old mid of same still full)
after_from (effect.Memory back) old mid of same still before (inl lost) = inl (sym same ∙ lost)
after_from (effect.Memory back) old mid of same still before (inr joins) = absurd (joins.1 before)
after_from (effect.GivenUp back) old mid of same still before h = h

stands_from : (old mid new : Strand) → mid.of ≡ old.of → mid.mode ≡ old.mode → mid.count ≡ old.count
    → (new.mode ≡ mid.mode) ⊎ ((new.mode ≡ mode.Over) × IsAtLimit mid) → (new.mode ≡ old.mode) ⊎ ((new.mode ≡ mode.Over) × IsAtLimit old)
stands_from old mid new of same still (inl kept) = inl (kept ∙ same)
stands_from old mid new of same still (inr over) = inr (over.0, limit_from old mid of same still over.1)

-- an advance of a strand that was as far and is before an instruction, told of how it was before
pub advances_from : (a : Advance) (old mid new : Strand) → mid.of ≡ old.of → outs mid ≡ outs old → mid.mode ≡ old.mode → mid.count ≡ old.count → IsBefore mid → AdvancesBy a mid new
    → AdvancesBy a old new
advances_from advance.Ran old mid new of same stood still before h = (h.0, h.1 ∙ same, h.2 ∙ ap (λ n. n + 1) still, h.3)
advances_from (advance.Came (step.Spawned job)) old mid new of same stood still before h = ((h.0.0, h.0.1 ∙ ap (λ l. job ∷ l) same), h.1 ∙ ap (λ n. n + 1) still)
advances_from (advance.Came step.AtSync) old mid new of same stood still before h = (
  (h.0.0, h.0.1 ∙ same, λ none. h.0.2 (same ∙ none), h.0.3),
  record { none = h.1.none ∙ still; stands = stands_from old mid new of stood still h.1.stands },
)
advances_from (advance.Came (step.Ended e)) old mid new of same stood still before h = (
  (subst (λ o. IsMeaningOf o.value e) of h.0.0, sym same ∙ h.0.1),
  after_from e old mid of stood still before h.1,
)

-- a strand whose limit leaves it no instruction exceeds it
over_after : (e : Effect) (old : Strand) → IsAtLimit old → EndsAfter e (record old { mode = mode.Over }) → EndsAfter e old
over_after (effect.Ended value shown) old full h = record { counted = h.counted; below = h.below }
over_after (effect.Joined frame replaced shown) old full h = h
over_after (effect.Trapped trap line lines cost back) old full h = h
over_after (effect.OverLimit back) old full h = inr full
over_after (effect.Memory back) old full (inl lost) = absurd (over_not_memory lost)
over_after (effect.Memory back) old full (inr joins) = absurd (over_not_going joins.0)
over_after (effect.GivenUp back) old full h = h

over_stands : (old new : Strand) → IsAtLimit old → (new.mode ≡ mode.Over) ⊎ ((new.mode ≡ mode.Over) × IsAtLimit (record old { mode = mode.Over }))
    → (new.mode ≡ old.mode) ⊎ ((new.mode ≡ mode.Over) × IsAtLimit old)
over_stands old new full (inl over) = inr (over, full)
over_stands old new full (inr over) = inr (over.0, full)

pub kept_over : (s : Step) (old new : Strand) → KeptBy s (record old { mode = mode.Over }) new → KeptBy s old new
kept_over (step.Spawned job) old new h = h
kept_over step.AtSync old new h = h
kept_over (step.Ended e) old new h = h

pub counts_over : (s : Step) (old new : Strand) → IsAtLimit old → CountsBy s (record old { mode = mode.Over }) new → CountsBy s old new
counts_over (step.Spawned job) old new full h = h
counts_over step.AtSync old new full h = record { none = h.none; stands = over_stands old new full h.stands }
counts_over (step.Ended e) old new full h = over_after e old full h

-- a strand that executed an instruction was led to its end
call_after : (e : Effect) (old : Strand) (n : ℕ) → n ≡ old.count + 1 → old.count < its_end old → EndsCall e n → EndsAfter e old
call_after (effect.Ended value shown) old n one below h = record { counted = h ∙ one; below = below }
call_after (effect.Joined frame replaced shown) old n one below h = absurd h
call_after (effect.Trapped trap line lines cost back) old n one below h = absurd h
call_after (effect.OverLimit back) old n one below h = absurd h
call_after (effect.Memory back) old n one below h = absurd h
call_after (effect.GivenUp back) old n one below h = absurd h

pub reached : (a : Advance) (old mid new : Strand) → mid.of ≡ old.of → outs mid ≡ outs old → mid.count ≡ old.count + 1 → old.count < its_end old → mid.mode ≢ mode.Over → LeadsTo a mid new
    → AdvancesBy a old new
reached advance.Ran old mid new of same one below not h = (h.0, h.1 ∙ same, h.2 ∙ one, λ over. not (sym h.3 ∙ over))
reached (advance.Came (step.Spawned job)) old mid new of same one below not h = absurd h
reached (advance.Came step.AtSync) old mid new of same one below not h = absurd h
reached (advance.Came (step.Ended e)) old mid new of same one below not h = (
  (subst (λ o. IsMeaningOf o.value e) of h.0.0, sym same ∙ h.0.1),
  call_after e old mid.count one below h.1,
)

pub leaves_from : (a : Advance) (old mid new : Strand) → IsGoing old → (WasGivenUp mid → ⊥) → LeavesBy a mid new → LeavesBy a old new
leaves_from advance.Ran old mid new going not h = going
leaves_from (advance.Came (step.Spawned job)) old mid new going not h = h
leaves_from (advance.Came step.AtSync) old mid new going not h = inl (going, not_after h)
  where
    not_after : KeepsMode mid new → WasGivenUp new → ⊥
    not_after (inl went) = went.1
    not_after (inr same) = λ up. not (sym same ∙ up)
leaves_from (advance.Came (step.Ended e)) old mid new going not h = comes_from e old mid (inl (going, not)) h

-- what a strand that went on behind an instruction came to, beside its end
pub came_on : (reason : Type 0) (old mid new : Strand) → outs mid ≡ outs old → mid.count ≡ old.count + 1 → new.count ≡ mid.count → new.mode ≢ mode.Over → ComesOr reason event.AtSync mid new
    → AdvancesBy advance.Ran old new
came_on reason old mid new same one still not h = (h.0, h.1 ∙ same, still ∙ one, not)

-- the event of a strand that continued up to this stop
pub comes_within : (most to end : ℕ) (s : Stop) (e : Event) (old mid new : Strand) → outs mid ≡ outs old → (to < end → to ≡ old.count + most)
    → HasCome mid to s → (spawns : Spawns) → RunsOn old mid to (hands_out spawns) s → HandsOutAt s e → ComesOr ((to < end) × (s ≡ stop.Over)) e mid new
    → ComesWithin most spawns e old new
comes_within most to end s (event.Spawned job) old mid new same by came spawns ran at h = (asked_at s refl at, (h.0, h.1 ∙ ap (λ l. job ∷ l) same))
  where
    asked_at : (x : Stop) → s ≡ x → HandsOutAt x (event.Spawned job) → hands_out spawns ≡ true
    asked_at (stop.Spawned spawn) e k = ran.asked spawn e
    asked_at stop.CameBack e k = absurd k
    asked_at stop.Joined e k = absurd k
    asked_at (stop.Gave x) e k = absurd k
    asked_at (stop.Trapped c l) e k = absurd k
    asked_at stop.Over e k = absurd k
    asked_at stop.NoMemory e k = absurd k
comes_within most to end s event.AtSync old mid new same by came spawns ran at h = (h.0, h.1 ∙ same, λ none. h.2 (same ∙ none), h.3)
comes_within most to end s (event.AtEnd e) old mid new same by came spawns ran at h = (h.0, h.1 ∙ same)
comes_within most to end s event.Ran old mid new same by came spawns ran at h =
    let over = subst (HasCome mid to) h.0.1 came in
    subst (λ x. IsRunning x × (outs x ≡ outs old) × (x.count ≡ old.count + most)) (sym h.1) (
      over_goes mid to over,
      same,
      over_count mid to over ∙ by h.0.0,
    )

-- why a strand stopped: by an instruction, and not for its limit
pub stops_moving : (stopped : Stop) (limit most : ℕ) (new : Strand) → (IsStill stopped → ⊥) → new.mode ≢ mode.Over → StopsFor stopped limit most new
stops_moving stopped limit most new moved not = record { over = λ over. absurd (not over); memory = λ _. moved }

-- for nothing, since it goes on
pub stops_not : (stopped : Stop) (limit most : ℕ) (new : Strand) → new.mode ≡ mode.Going → StopsFor stopped limit most new
stops_not stopped limit most new going =
    record { over = λ over. absurd (going_not_over new.mode going over); memory = λ memory. absurd (going_not_memory new.mode going memory) }

-- for its limit
pub stops_over : (stopped : Stop) (limit most : ℕ) (new : Strand) → new.mode ≡ mode.Over → stopped ≡ stop.Over → limit ≡ most → StopsFor stopped limit most new
stops_over stopped limit most new over is full = record { over = λ _. (is, full); memory = λ memory. absurd (over_not_memory (sym over ∙ memory)) }

-- so a strand stays within what it may execute
pub within_run : (most to last : ℕ) (s : Stop) (stops : Bool) (old mid new : Strand) → HasCome mid to s → RunsOn old mid to stops s → to ≤ old.count + most → last ≡ its_end old
    → new.count ≡ mid.count → StopsFor s to last new → StaysWithin most old new
within_run most to last s stops old mid new come ran le end still halts =
    let from = ran.from in
    let within = ran.within in
    record {
      above = omega (arith, from, still);
      below = omega (arith, within, le, still);
      over = λ over.
          let h = halts.over over in
          inr (still ∙ over_count mid to (subst (HasCome mid to) h.0 come) ∙ h.1 ∙ end);
      memory = λ memory.
          let stirred : mid.count ≢ old.count = λ same. halts.memory memory (ran.still same) in
          inr (omega (arith, from, still, stirred));
    }

pub within_still : (most : ℕ) (self : Strand) → StaysWithin most self self
within_still most self = record { above = omega arith; below = omega arith; over = λ over. inl over; memory = λ memory. inl memory }
