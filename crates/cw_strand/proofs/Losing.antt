-- The modes of strands, and the ones in which memory may have run out.
use Rattle.std.proofs.Common.{◌≡◌, ◌≢◌, ℕ, true, false, refl, sym, ap, ◌∙◌, inl, inr}
use Rattle.std.specs.Prelude.{◌⊎◌}
use Rattle.std.proofs.lemmas.Bool.{true≢false}
use Rattle.cw_model.specs.declared.trap.Trap.{Trap}
use Rattle.cw_jobs.specs.declared.effect.Effect.{Effect}
use Rattle.cw_jobs.specs.declared.effect.Effect.TheVariants as effect
use Rattle.cw_strand.specs.declared.strand.Event.{Event}
use Rattle.cw_strand.specs.declared.strand.Event.TheVariants as event
use Rattle.cw_strand.specs.declared.strand.Mode.{Mode}
use Rattle.cw_strand.specs.declared.strand.Mode.TheVariants as mode
use Rattle.cw_strand.specs.declared.strand.Strand.{Strand}
use Rattle.cw_strand.specs.Giving.{IsMemory}
use Rattle.cw_strand.specs.Holds.{stops, has_failed, IsGoing}
use Rattle.cw_strand.specs.Losing.{MayStop, WasGivenUp, KeepsMode, ComesFrom, LeavesAt, GoesOn, ReportsFailure}

-- a strand that has stopped for another reason did not run out of memory
pub lacks_not : (m : Mode) → stops m ≡ true → has_failed m ≡ false → (m ≡ mode.Going) ⊎ (has_failed m ≡ true) → ⊥
lacks_not m s known (inl going) = true≢false (sym s ∙ ap stops going)
lacks_not m s known (inr lost) = true≢false (sym lost ∙ known)

-- a strand that has stopped ran out of memory only if it stopped for this reason, and it does not wait
pub lost_before : (m m' : Mode) → m' ≡ m → stops m ≡ true → (m' ≡ mode.Going) ⊎ (has_failed m' ≡ true) → has_failed m ≡ true
lost_before m m' same s (inl going) = absurd (true≢false (sym s ∙ ap stops (sym same ∙ going)))
lost_before m m' same s (inr lost) = ap has_failed (sym same) ∙ lost

pub waits_not : (m : Mode) → stops m ≡ true → m ≡ mode.Waiting → ⊥
waits_not m s waits = true≢false (sym s ∙ ap stops waits)

pub goes_not_waits : mode.Going ≡ mode.Waiting → ⊥
goes_not_waits e = cc

-- a strand that has stopped, and for none of these reasons, ran out of memory
pub stopped_lost : (m : Mode) → stops m ≡ true → ((trap : Trap) (line : ℕ) → m ≢ mode.Trapped trap line) → m ≢ mode.Over → m ≢ mode.GivenUp → m ≡ mode.Memory
stopped_lost mode.Going s t o g = absurd (true≢false (sym s))
stopped_lost mode.Waiting s t o g = absurd (true≢false (sym s))
stopped_lost (mode.Trapped trap line) s t o g = absurd (t trap line refl)
stopped_lost mode.Over s t o g = absurd (o refl)
stopped_lost mode.Memory s t o g = refl
stopped_lost mode.GivenUp s t o g = absurd (g refl)

-- a strand that is running, waits or has stopped for another reason was not given up
pub going_not_up : (m : Mode) → m ≡ mode.Going → m ≡ mode.GivenUp → ⊥
going_not_up m going up = true≢false (sym (ap has_failed up) ∙ ap has_failed going)

pub waiting_not_up : mode.Waiting ≡ mode.GivenUp → ⊥
waiting_not_up e = cc

pub trapped_not_up : (trap : Trap) (line : ℕ) → mode.Trapped trap line ≡ mode.GivenUp → ⊥
trapped_not_up trap line e = cc

pub over_not_up : mode.Over ≡ mode.GivenUp → ⊥
over_not_up e = cc

pub memory_not_up : mode.Memory ≡ mode.GivenUp → ⊥
memory_not_up e = cc

-- one that is in another state has not exceeded its limit
pub going_not_over : (m : Mode) → m ≡ mode.Going → m ≡ mode.Over → ⊥
going_not_over m going over = true≢false (sym (ap stops over) ∙ ap stops going)

pub failed_not_over : (m : Mode) → has_failed m ≡ true → m ≡ mode.Over → ⊥
failed_not_over m failed over = true≢false (sym failed ∙ ap has_failed over)

pub waiting_not_over : mode.Waiting ≡ mode.Over → ⊥
waiting_not_over e = cc

pub trapped_not_over : (m : Mode) (trap : Trap) (line : ℕ) → m ≡ mode.Trapped trap line → m ≡ mode.Over → ⊥
trapped_not_over m trap line is over = differ (sym is ∙ over)
  where
    differ : mode.Trapped trap line ≡ mode.Over → ⊥
    differ e = cc

pub going_not_memory : (m : Mode) → m ≡ mode.Going → m ≡ mode.Memory → ⊥
going_not_memory m going memory = true≢false (sym (ap stops memory) ∙ ap stops going)

pub over_not_memory : mode.Over ≡ mode.Memory → ⊥
over_not_memory e = cc

pub over_not_going : mode.Over ≡ mode.Going → ⊥
over_not_going e = cc

-- memory that was wanting is a failure
pub memory_fails : (e : Effect) → IsMemory e → ReportsFailure e
memory_fails (effect.Ended value shown) m = absurd m
memory_fails (effect.Joined frame replaced shown) m = absurd m
memory_fails (effect.Trapped trap line lines cost back) m = absurd m
memory_fails (effect.OverLimit back) m = absurd m
memory_fails (effect.Memory back) m = tt
memory_fails (effect.GivenUp back) m = absurd m

went_before : (old mid : Strand) → KeepsMode old mid → IsGoing mid → IsGoing old
went_before old mid (inl going) g = going.0
went_before old mid (inr same) g = sym same ∙ g

stopped_before : (m : Mode) (old mid : Strand) → KeepsMode old mid → MayStop m mid → MayStop m old
stopped_before m old mid (inl going) l = inl going.0
stopped_before m old mid (inr same) (inl g) = inl (sym same ∙ g)
stopped_before m old mid (inr same) (inr stopped) = inr (sym same ∙ stopped)

given_up_before : (old mid : Strand) → KeepsMode old mid → WasGivenUp mid → WasGivenUp old
given_up_before old mid (inl going) up = absurd (going.1 up)
given_up_before old mid (inr same) up = sym same ∙ up

-- an effect, stated for the strand before
pub comes_from : (e : Effect) (old mid : Strand) → KeepsMode old mid → ComesFrom e mid → ComesFrom e old
comes_from (effect.Ended value shown) old mid s c = went_before old mid s c
comes_from (effect.Joined frame replaced shown) old mid s c = went_before old mid s c
comes_from (effect.Trapped trap line lines cost back) old mid s c = stopped_before (mode.Trapped trap line) old mid s c
comes_from (effect.OverLimit back) old mid s c = stopped_before mode.Over old mid s c
comes_from (effect.Memory back) old mid s c = stopped_before mode.Memory old mid s c
comes_from (effect.GivenUp back) old mid s c = given_up_before old mid s c

-- an event of a strand that continued
pub leaves_going : (e : Event) (old new : Strand) → IsGoing old → GoesOn e new → LeavesAt e old new
leaves_going (event.Spawned job) old new going on = on
leaves_going event.AtSync old new going on = inl (going, on)
leaves_going (event.AtEnd end) old new going on = inl (going, on)
leaves_going event.Ran old new going on = (going, on)
