-- Where memory may be wanting in a strand.
use Rattle.std.specs.Prelude.{◌≡◌, ◌⊎◌, ℕ, ◌+◌, true, false, Option, Some, None}
use Rattle.cw_jobs.specs.declared.effect.Effect.{Effect}
use Rattle.cw_jobs.specs.declared.effect.Effect.TheVariants as effect
use Rattle.cw_strand.specs.declared.strand.Advance.{Advance}
use Rattle.cw_strand.specs.declared.strand.Advance.TheVariants as advance
use Rattle.cw_strand.specs.declared.strand.Event.{Event}
use Rattle.cw_strand.specs.declared.strand.Event.TheVariants as event
use Rattle.cw_strand.specs.declared.strand.Step.{Step}
use Rattle.cw_strand.specs.declared.strand.Step.TheVariants as step
use Rattle.cw_strand.specs.declared.strand.Mode.{Mode}
use Rattle.cw_strand.specs.declared.strand.Mode.TheVariants as mode
use Rattle.cw_strand.specs.declared.strand.Strand.{Strand}
use Rattle.cw_strand.specs.Holds.{IsGoing, IsWaiting, HasFailed}
use Rattle.cw_strand.specs.Giving.{passes_limit}

-- MEMORY MAY BE WANTING IN A STRAND: it goes on, or has stopped for that, or was given up
abbrev pub MayLack : Strand → Type 0
MayLack self = IsGoing self ⊎ HasFailed self

-- it goes on, or has stopped so; it was given up
abbrev pub MayStop : Mode → Strand → Type 0
MayStop m self = IsGoing self ⊎ (self.mode ≡ m)

abbrev pub WasGivenUp : Strand → Type 0
WasGivenUp self = self.mode ≡ mode.GivenUp

-- how a strand stands has changed only if it went on, and then it was not given up
abbrev pub KeepsMode : (old new : Strand) → Type 0
KeepsMode old new = (IsGoing old × (WasGivenUp new → ⊥)) ⊎ (new.mode ≡ old.mode)

-- A STRAND THAT STOOD SO HAS THIS EFFECT: its call has ended, or it is at its join, only if it went on; it says that it was
-- given up only if it was; and of one that had stopped it says what it had stopped for
abbrev pub ComesFrom : Effect → Strand → Type 0
ComesFrom (effect.Ended value shown) self = IsGoing self
ComesFrom (effect.Joined frame replaced shown) self = IsGoing self
ComesFrom (effect.Trapped trap line lines cost back) self = MayStop (mode.Trapped trap line) self
ComesFrom (effect.OverLimit back) self = MayStop mode.Over self
ComesFrom (effect.Memory back) self = MayStop mode.Memory self
ComesFrom (effect.GivenUp back) self = WasGivenUp self

-- SO IT STANDS AFTER AN EVENT: it goes on where it handed a job out; else it has changed only if it went on
abbrev pub Leaves : Step → (old new : Strand) → Type 0
Leaves (step.Spawned job) old new = IsGoing new
Leaves step.AtSync old new = KeepsMode old new
Leaves (step.Ended e) old new = ComesFrom e old

abbrev pub LeavesAt : Event → (old new : Strand) → Type 0
LeavesAt (event.Spawned job) old new = IsGoing new
LeavesAt event.Ran old new = IsGoing old × IsGoing new
LeavesAt _ old new = KeepsMode old new

-- after one instruction, which only one that goes on does, or an event
abbrev pub LeavesBy : Advance → (old new : Strand) → Type 0
LeavesBy advance.Ran old new = IsGoing old
LeavesBy (advance.Came s) old new = Leaves s old new

-- after it was looked whether it has ended
abbrev pub LeavesEnd : Option Effect → (old new : Strand) → Type 0
LeavesEnd None old new = new.mode ≡ old.mode
LeavesEnd (Some e) old new = ComesFrom e old

-- it goes on where it handed a job out, or where nothing came; else it may have stopped, but was not given up
abbrev pub GoesOn : Event → Strand → Type 0
GoesOn (event.Spawned job) new = IsGoing new
GoesOn event.Ran new = IsGoing new
GoesOn _ new = WasGivenUp new → ⊥

-- what a rest has shown is taken in: by a strand that waits, within the limit
abbrev pub TakesIn : Strand → Effect → Type 0
TakesIn self (effect.Joined frame replaced shown) = IsWaiting self × (passes_limit self shown.cost ≡ false)
TakesIn self (effect.Trapped trap line lines cost back) = IsWaiting self × (passes_limit self cost ≡ false)
TakesIn self _ = ⊥

-- memory was wanting in a rest, or it was given up
abbrev pub ReportsFailure : Effect → Type 0
ReportsFailure (effect.Memory back) = Unit {0}
ReportsFailure (effect.GivenUp back) = Unit {0}
ReportsFailure _ = ⊥

-- AN EFFECT MAY LOSE THE STRAND THAT IT IS GIVEN TO: memory was wanting in the strand, or in the rest, or one of them was
-- given up; or what the rest has shown is taken in
abbrev pub MayLose : Strand → Effect → Type 0
MayLose self e = HasFailed self ⊎ ReportsFailure e ⊎ TakesIn self e

-- what an effect counts of a rest that is taken in
abbrev pub cost_in : Effect → ℕ
cost_in (effect.Joined frame replaced shown) = shown.cost
cost_in (effect.Trapped trap line lines cost back) = cost
cost_in _ = 0

-- A STRAND THAT IS GIVEN AN EFFECT counts what it counted; and what the rest did, where that is taken in
abbrev pub CountsGiven : Effect → (old new : Strand) → Type 0
CountsGiven e old new = (new.count ≡ old.count) ⊎ (TakesIn old e × (new.count ≡ old.count + cost_in e))

-- an effect states that its job exceeded the limit
abbrev pub ReportsOverLimit : Effect → Type 0
ReportsOverLimit (effect.OverLimit back) = Unit {0}
ReportsOverLimit _ = ⊥

-- A STRAND EXCEEDS ITS LIMIT BY AN EFFECT that it receives only if it waits, and the rest exceeded the limit or both
-- together do; otherwise it had exceeded the limit before
abbrev pub MayExceed : Strand → Effect → Type 0
MayExceed self e =
    (self.mode ≡ mode.Over) ⊎ (IsWaiting self × (ReportsOverLimit e ⊎ (passes_limit self (cost_in e) ≡ true)))
