-- What the calls on a strand keep.
use Rattle.std.specs.Prelude.{◌≡◌, ◌≢◌, ◌⊎◌, ℕ, ◌+◌, ◌≤◌, ◌<◌, Bool, true, false, List, [], ◌∷◌, reverse, Option, Some}
use Rattle.std.specs.Prelude.{None}
use Rattle.cw_code.specs.Code.{code_view}
use Rattle.cw_code.specs.Run.{State}
use Rattle.cw_slices.specs.Placed.{Placed}
use Rattle.cw_code.specs.Jobs as jobs
use Rattle.cw_code.specs.Strands.{Going}
use Rattle.cw_code.specs.Promises.{IsStrandOf}
use Rattle.cw_jobs.specs.Strands.{StartsFrom}
use Rattle.cw_jobs.specs.declared.call.Parts.{Parts}
use Rattle.cw_jobs.specs.declared.call.Extent.TheVariants as extent
use Rattle.cw_jobs.specs.declared.effect.Effect.{Effect}
use Rattle.cw_jobs.specs.declared.effect.Effect.TheVariants as effect
use Rattle.cw_jobs.specs.declared.effect.PieceOutput.{PieceOutput}
use Rattle.cw_jobs.specs.declared.job.Job.{Job}
use Rattle.cw_jobs.specs.Jobs.{code_of, origin_of, IsJob}
use Rattle.cw_jobs.specs.Means.{IsMeaningOf}
use Rattle.cw_machine.specs.declared.run.Run.{Run}
use Rattle.cw_machine.specs.declared.run.Spawn.{Spawn}
use Rattle.cw_machine.specs.declared.run.Stop.{Stop}
use Rattle.cw_machine.specs.declared.run.Stop.TheVariants as stop
use Rattle.cw_machine.specs.Arrays.{Out, IsFit}
use Rattle.cw_code.specs.Fits.{slots_lent}
use Rattle.cw_machine.specs.declared.hands.Lender.{Lender}
use Rattle.cw_machine.specs.declared.machine.Machine.{Machine}
use Rattle.cw_runnable.specs.declared.verified.Verified.{Verified}
use Rattle.cw_machine.specs.Calls.{listed, loans_of}
use Rattle.cw_machine.specs.RepresentsState.{StaysBut}
use Rattle.cw_machine.specs.Hands.{HandsOut}
use Rattle.cw_machine.specs.JobRuns.{BeginsJob, IsEmptied}
use Rattle.cw_machine.specs.Unwinding.{HasReturnedSlices, MayReturnSlices}
use Rattle.cw_machine.specs.Segments.{StopsAt}
use Rattle.cw_strand.specs.declared.strand.Advance.{Advance}
use Rattle.cw_strand.specs.declared.strand.Advance.TheVariants as advance
use Rattle.cw_strand.specs.declared.strand.End.{End}
use Rattle.cw_strand.specs.declared.strand.End.TheVariants as end
use Rattle.cw_strand.specs.declared.strand.Event.{Event}
use Rattle.cw_strand.specs.declared.strand.Event.TheVariants as event
use Rattle.cw_strand.specs.declared.strand.Home.{Home}
use Rattle.cw_strand.specs.declared.strand.Lent.{Lent}
use Rattle.cw_strand.specs.declared.strand.Mode.TheVariants as mode
use Rattle.cw_strand.specs.declared.strand.Spawns.{Spawns}
use Rattle.cw_strand.specs.declared.strand.Spawns.TheVariants as spawns
use Rattle.cw_strand.specs.declared.strand.Step.{Step}
use Rattle.cw_strand.specs.declared.strand.Step.TheVariants as step
use Rattle.cw_strand.specs.declared.strand.Strand.{Strand}
use Rattle.cw_strand.specs.Levels.{Level, levels_of}
use Rattle.cw_strand.specs.Holds.{its_job, its_parts, its_code, its_end, outs, floor_of, Ground, setting_of, ok_with, Lends, AreOut}
use Rattle.cw_strand.specs.Holds.{KeepsJob, AreSpare, AreRests, IsRunning, IsGoing, IsAtSync, HasStopped, is_lost}

-- a run begins a job, whose arrays moved into it
pub record BeginsRun (p p' : Parts) (r : Run) : Type 0 where
  pub meter : StartsFrom (origin_of p) p.detail r.meter
  pub machine : BeginsJob (code_of p) p.rest r.machine
  pub code : code_of p' ≡ code_of p
  pub extent : p'.extent ≡ p.extent
  pub site : p'.site ≡ p.site
  pub detail : p'.detail ≡ p.detail
  pub limit : p'.limit ≡ p.limit
  pub before : p'.before ≡ p.before
  pub rest : IsEmptied p.rest p'.rest

-- WHAT AN EVENT OF A STRAND KEEPS: it handed a job out; or it waits for the newest one out; or it ended with nothing
-- out, with an effect that means its job
abbrev pub KeptBy : Step → (old new : Strand) → Type 0
KeptBy (step.Spawned job) old new = IsRunning new × (outs new ≡ job ∷ outs old)
KeptBy step.AtSync old new = IsRunning new × (outs new ≡ outs old) × (outs old ≢ []) × IsAtSync new
KeptBy (step.Ended e) old new = IsMeaningOf (its_job old) e × (outs old ≡ [])

-- the strand goes on from where its run came to a stop: from a state of the serial run, by the instruction there
pub record CameTo (self : Strand) (limit : ℕ) (stop : Stop) (is : IsFit (its_code self)) (j : jobs.Job) : Type 0 where
  pub ground : Ground (its_code self) is (its_parts self) j
  pub state : State
  pub later : ℕ
  pub stops : Bool
  pub levels : List Level
  pub outs : List Out
  pub jobs_out : List jobs.Job
  pub lends : Lends (its_code self) is (its_parts self) ground.base levels outs (reverse self.lent.items)
  pub are : AreOut (its_parts self) (levels_of state.around) jobs_out levels (reverse self.lent.items)
  pub is_of : IsStrandOf (code_view (its_code self).code) j (Going state later jobs_out)
  pub at : StopsAt (its_code self) (ok_with ground outs) (setting_of ground) (floor_of self) stops limit stop self.count
      self.run later state

-- whichever of the definitions the job is
pub record HasCome (self : Strand) (limit : ℕ) (stop : Stop) : Type 0 where
  pub going : self.mode ≡ mode.Going
  pub keeps : KeepsJob self
  pub spares : AreSpare self
  pub rests : AreRests self
  pub comes : (is : IsFit (its_code self)) (j : jobs.Job) → IsJob (its_code self) is (its_parts self) j
      → ∥ CameTo self limit stop is j ∥₁

-- A STRAND IS BEFORE AN INSTRUCTION: it goes on, and is not at the join of its job
abbrev pub IsBefore : Strand → Type 0
IsBefore self = HasCome self self.count stop.Over

-- a strand with nothing out has not come to its end
abbrev pub IsUnended : Strand → Type 0
IsUnended self = outs self ≡ [] → IsBefore self

-- a strand begins its job, with no instruction done; a whole call has one to do
pub record Begins (job : Job) (self : Strand) : Type 0 where
  pub of : its_job self ≡ job
  pub outs : outs self ≡ []
  pub running : IsRunning self
  pub goes : IsGoing self
  pub count : self.count ≡ 0
  pub whole : job.parts.value.extent ≡ extent.WholeCall → IsBefore self

-- A STRAND HAS COME TO AN END: it has stopped, with nothing out, or its run is at the end of its job
abbrev pub EndsAt : End → Strand → Type 0
EndsAt end.Stopped self = IsRunning self × HasStopped self × (outs self ≡ [])
EndsAt (end.Joined limit) self = HasCome self limit stop.Joined
EndsAt (end.Gave value limit) self = HasCome self limit (stop.Gave value)

-- an event, as above, but that the effect is not made yet
abbrev pub ComesTo : Event → (old new : Strand) → Type 0
ComesTo (event.Spawned job) old new = KeptBy (step.Spawned job) old new
ComesTo event.AtSync old new = KeptBy step.AtSync old new
ComesTo (event.AtEnd e) old new = EndsAt e new × (outs new ≡ outs old)
ComesTo event.Ran old new = ⊥

-- an event; or none, and the strand is as it was, for this reason
abbrev pub ComesOr : (reason : Type 0) → Event → (old new : Strand) → Type 0
ComesOr reason event.Ran old new = reason × (new ≡ old)
ComesOr reason e old new = ComesTo e old new

-- a strand hands the rests of its blocks out
abbrev pub hands_out : Spawns → Bool
hands_out spawns.HandedOut = true
hands_out spawns.InPlace = false

-- AN EVENT WITHIN SO MANY INSTRUCTIONS; or these were done, and all else is as it was. With its spawns in place a strand
-- hands nothing out
abbrev pub ComesWithin : (most : ℕ) → Spawns → Event → (old new : Strand) → Type 0
ComesWithin most spawns event.Ran old new = IsRunning new × (outs new ≡ outs old) × (new.count ≡ old.count + most)
ComesWithin most spawns (event.Spawned job) old new =
    (hands_out spawns ≡ true) × ComesTo (event.Spawned job) old new
ComesWithin most spawns e old new = ComesTo e old new

-- A STRAND EXECUTES AT MOST THIS MANY INSTRUCTIONS, whatever the event. It exceeds its limit only after it has executed
-- as many as its job may, and it stops for lack of memory only by an instruction
pub record StaysWithin (most : ℕ) (old new : Strand) : Type 0 where
  pub above : old.count ≤ new.count
  pub below : new.count ≤ old.count + most
  pub over : new.mode ≡ mode.Over → (old.mode ≡ mode.Over) ⊎ (new.count ≡ its_end old)
  pub memory : new.mode ≡ mode.Memory → (old.mode ≡ mode.Memory) ⊎ (old.count < new.count)

-- no job is handed out, but where the run stopped at a spawn
abbrev pub HandsNothing : Event → Type 0
HandsNothing (event.Spawned job) = ⊥
HandsNothing e = Unit {0}

abbrev pub HandsOutAt : Stop → Event → Type 0
HandsOutAt (stop.Spawned spawn) e = Unit {0}
HandsOutAt _ e = HandsNothing e

-- the number of instructions of its job that an effect states; an effect over the limit, for lack of memory or of a job
-- given up states none
abbrev pub CountsIn : Effect → (n : ℕ) → Type 0
CountsIn (effect.Ended value shown) n = shown.cost ≡ n
CountsIn (effect.Joined frame replaced shown) n = shown.cost ≡ n
CountsIn (effect.Trapped trap line lines cost back) n = cost ≡ n
CountsIn _ n = Unit {0}

-- the call of a job ends by the last of this many instructions
abbrev pub EndsCall : Effect → (n : ℕ) → Type 0
EndsCall (effect.Ended value shown) n = shown.cost ≡ n
EndsCall _ n = ⊥

-- the effect of a strand that executes nothing more: no call ends, the effect is over the limit only if the strand had
-- exceeded it, and lack of memory is that of the strand, or of the join of a strand that goes on
abbrev pub EndsStill : Effect → Strand → Type 0
EndsStill (effect.Ended value shown) self = ⊥
EndsStill (effect.OverLimit back) self = self.mode ≡ mode.Over
EndsStill (effect.Memory back) self = (self.mode ≡ mode.Memory) ⊎ IsGoing self
EndsStill e self = CountsIn e self.count

-- a strand exceeds its limit: it goes on, and has executed as many instructions as its job may
abbrev pub IsAtLimit : Strand → Type 0
IsAtLimit self = IsGoing self × (self.count ≡ its_end self)

-- the call of a job ends by its next instruction, within the limit
pub record EndsNext (cost : ℕ) (old : Strand) : Type 0 where
  pub counted : cost ≡ old.count + 1
  pub below : old.count < its_end old

-- the effect by which a strand ends: that of a call takes one instruction, any other one none
abbrev pub EndsAfter : Effect → Strand → Type 0
EndsAfter (effect.Ended value shown) old = EndsNext shown.cost old
EndsAfter (effect.OverLimit back) old = (old.mode ≡ mode.Over) ⊎ IsAtLimit old
EndsAfter (effect.Memory back) old = (old.mode ≡ mode.Memory) ⊎ (IsGoing old × (IsBefore old → ⊥))
EndsAfter e old = CountsIn e old.count

-- a strand waits, or has stopped, and executes no instruction: it is as it was, or it exceeds its limit
pub record PausesBy (old new : Strand) : Type 0 where
  pub none : new.count ≡ old.count
  pub stands : (new.mode ≡ old.mode) ⊎ ((new.mode ≡ mode.Over) × IsAtLimit old)

-- a spawn is one instruction; a strand comes to a join, or ends there, by none
abbrev pub CountsBy : Step → (old new : Strand) → Type 0
CountsBy (step.Spawned job) old new = new.count ≡ old.count + 1
CountsBy step.AtSync old new = PausesBy old new
CountsBy (step.Ended e) old new = EndsAfter e old

-- ONE INSTRUCTION OF A STRAND: it was executed, within the limit, and the same jobs are out; or the strand came to an event
abbrev pub AdvancesBy : Advance → (old new : Strand) → Type 0
AdvancesBy advance.Ran old new =
    IsRunning new × (outs new ≡ outs old) × (new.count ≡ old.count + 1) × (new.mode ≢ mode.Over)
AdvancesBy (advance.Came s) old new = KeptBy s old new × CountsBy s old new

-- an instruction was done: it goes on or has stopped behind it, it was a spawn, or its call has ended by it
abbrev pub DoesOne : Advance → Type 0
DoesOne (advance.Came step.AtSync) = ⊥
DoesOne (advance.Came (step.Ended (effect.Ended value shown))) = Unit {0}
DoesOne (advance.Came (step.Ended e)) = ⊥
DoesOne _ = Unit {0}

-- the same job, and the same jobs out
abbrev pub IsSame : (old new : Strand) → Type 0
IsSame old new = (new.of ≡ old.of) × (new.lent ≡ old.lent)

-- a strand that ends, with an effect that means its job and counts what it did; or has not come to its end
abbrev pub EndsBy : Option Effect → (old new : Strand) → Type 0
EndsBy None old new = IsRunning new × (outs new ≡ outs old) × (new.count ≡ old.count) × IsUnended new
EndsBy (Some e) old new = IsMeaningOf (its_job old) e × (outs old ≡ []) × EndsStill e old

-- one that goes on and is at the join of its job, or is before an instruction
abbrev pub JoinsBy : Option Effect → (old new : Strand) → Type 0
JoinsBy None old new = IsRunning new × (outs new ≡ outs old) × (new.count ≡ old.count) × IsBefore new
JoinsBy (Some e) old new = KeptBy (step.Ended e) old new × EndsStill e old × (IsBefore old → ⊥)

-- a strand that was led to its end: that of its call, or one that it comes to next
abbrev pub LeadsTo : Advance → (old new : Strand) → Type 0
LeadsTo advance.Ran old new = IsRunning new × (outs new ≡ outs old) × (new.count ≡ old.count) × (new.mode ≡ old.mode)
LeadsTo (advance.Came (step.Ended e)) old new = KeptBy (step.Ended e) old new × EndsCall e old.count × IsGoing old
LeadsTo _ old new = ⊥

-- what a run has shown and counted
pub record IsOutput (r : Run) (cost : ℕ) (shown : PieceOutput) : Type 0 where
  pub lines : shown.lines ≡ r.machine.lines
  pub totals : shown.totals ≡ r.machine.totals
  pub meter : shown.meter ≡ r.meter
  pub counted : shown.cost ≡ cost

-- all but the spare boxes is as it was, and these are as they must be
pub record HasSpared (old new : Strand) : Type 0 where
  pub of : new.of ≡ old.of
  pub parts : new.parts ≡ old.parts
  pub run : new.run ≡ old.run
  pub count : new.count ≡ old.count
  pub lent : new.lent.items ≡ old.lent.items
  pub mode : new.mode ≡ old.mode
  pub spares : AreSpare new

-- the parts of a rest know where they were cut out
abbrev pub IsAddressed : Parts → (of : Parts) → (site count : ℕ) → Parts → Type 0
IsAddressed p of site count p' = p' ≡ record {
  code = p.code;
  extent = extent.ToJoin;
  rest = p.rest;
  site = site;
  detail = of.detail;
  limit = of.limit;
  before = of.before + count;
}

-- the rest of the block that has spawned a call was cut out of a strand as these parts of a job, and all else is as it
-- was
pub record HasCut (old new : Strand) (spawn : Spawn) (p : Parts) (l : Lender) : Type 0 where
  pub of : new.of ≡ old.of
  pub parts : new.parts ≡ old.parts
  pub meter : new.run.meter ≡ old.run.meter
  pub count : new.count ≡ old.count
  pub lent : new.lent.items ≡ old.lent.items
  pub mode : new.mode ≡ old.mode
  pub spares : AreSpare new
  pub out : HandsOut (its_code old) old.run.machine (listed (its_code old) spawn.passed)
      (loans_of (its_code old) spawn.lent) l.first
      l.slots new.run.machine p.rest
  pub stays : StaysBut old.run.machine new.run.machine
  pub code : code_of p ≡ its_code old
  pub joins : p.extent ≡ extent.ToJoin
  pub site : p.site ≡ spawn.site
  pub detail : p.detail ≡ (its_parts old).detail
  pub limit : p.limit ≡ (its_parts old).limit
  pub before : p.before ≡ (its_parts old).before + old.count

-- where a job that was out comes back to
abbrev pub home_of : Option Lent → Home
home_of (Some h) = h.home
home_of None = record { lender = record { first = 0; slots = 0 }; lent = None; target = None; floor = 0 }

-- slices may come home to where a job comes back to, in a machine of such code
abbrev pub MayReach : Machine → Verified → Home → List Placed → List (Option Placed) → Type 0
MayReach m v h back replaced =
    MayReturnSlices m h.lender.first h.lender.slots (slots_lent (loans_of v h.lent)) back replaced

-- and they did
abbrev pub Reaches : Machine → Verified → Home → List Placed → List (Option Placed) → Machine → Type 0
Reaches m v h back replaced m' =
    HasReturnedSlices m h.lender.first h.lender.slots (slots_lent (loans_of v h.lent)) back replaced m'

-- a run that did nothing: it is at the join, or at its limit
abbrev pub IsStill : Stop → Type 0
IsStill stop.Joined = Unit {0}
IsStill stop.Over = Unit {0}
IsStill _ = ⊥

-- a strand ran on, up to this limit of its count, to such a stop; it stops at a spawn only if it hands continuations out.
-- If it executed nothing, it is at its limit or at the join, and not at the join if it was before an instruction
pub record RunsOn (old new : Strand) (limit : ℕ) (stops : Bool) (to : Stop) : Type 0 where
  pub asked : (spawn : Spawn) → to ≡ stop.Spawned spawn → stops ≡ true
  pub from : old.count ≤ new.count
  pub within : new.count ≤ limit
  pub still : new.count ≡ old.count → IsStill to
  pub before : IsBefore old → new.count ≡ old.count → to ≢ stop.Joined

-- why a strand stopped, by the stop of its run up to there: for its limit only at the end of its job, and for lack of
-- memory only by an instruction
pub record StopsFor (stopped : Stop) (limit most : ℕ) (new : Strand) : Type 0 where
  pub over : new.mode ≡ mode.Over → (stopped ≡ stop.Over) × (limit ≡ most)
  pub memory : new.mode ≡ mode.Memory → IsStill stopped → ⊥

-- slices may come home to the newest job out, of a machine of which anything is known
pub record MayReturnNewest (self : Strand) (back : List Placed) (replaced : List (Option Placed)) : Type 0 where
  pub newest : Lent
  pub older : List Lent
  pub are : reverse self.lent.items ≡ newest ∷ older
  pub code : code_of self.parts.value ≡ its_code self
  pub home : is_lost self.mode ≡ false → ∥ MayReach self.run.machine (its_code self) newest.home back replaced ∥₁

-- they did, and the job is out no more; all else is as it was, but for the blocks of the machine
pub record HasReturnedNewest (old : Strand) (back : List Placed) (replaced : List (Option Placed)) (new : Strand) : Type 0
  where
    pub of : new.of ≡ old.of
    pub parts : new.parts ≡ old.parts
    pub count : new.count ≡ old.count
    pub spares : new.spares ≡ old.spares
    pub mode : new.mode ≡ old.mode
    pub lines : new.run.machine.lines.items ≡ old.run.machine.lines.items
    pub left : (x : Lent) (xs : List Lent) → reverse old.lent.items ≡ x ∷ xs → reverse new.lent.items ≡ xs
    pub home : (x : Lent) (xs : List Lent) → reverse old.lent.items ≡ x ∷ xs → is_lost old.mode ≡ false
        → Reaches old.run.machine (its_code old) x.home back replaced new.run.machine

-- the newest job is out no more, and memory was wanting
pub record HasLost (old new : Strand) : Type 0 where
  pub of : new.of ≡ old.of
  pub parts : new.parts ≡ old.parts
  pub count : new.count ≡ old.count
  pub spares : new.spares ≡ old.spares
  pub mode : new.mode ≡ mode.Memory
  pub left : (x : Lent) (xs : List Lent) → reverse old.lent.items ≡ x ∷ xs → reverse new.lent.items ≡ xs
