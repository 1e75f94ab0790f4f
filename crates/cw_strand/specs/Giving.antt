-- The effect of the newest job out is given to the strand.
use Rattle.std.specs.Prelude.{◌≡◌, ◌≢◌, ℕ, ◌-◌, ℤ, Bool, nat_lt, List, [], ◌∷◌, ◌++◌, length, Option, Some}
use Rattle.std.specs.Prelude.{slice_get}
use Rattle.cw_model.specs.declared.total.Total.{Total}
use Rattle.cw_slices.specs.Placed.{Placed}
use Rattle.cw_meter.specs.Meters.{Rests}
use Rattle.cw_jobs.specs.declared.call.Rest.{Rest}
use Rattle.cw_jobs.specs.declared.effect.Effect.{Effect}
use Rattle.cw_jobs.specs.declared.effect.Effect.TheVariants as effect
use Rattle.cw_jobs.specs.declared.effect.PieceOutput.{PieceOutput}
use Rattle.cw_jobs.specs.declared.job.Job.{Job}
use Rattle.cw_jobs.specs.Means.{IsMeaningOf}
use Rattle.cw_jobs.specs.Totals.{joined_total}
use Rattle.cw_runnable.specs.declared.verified.Verified.{Verified}
use Rattle.cw_machine.specs.declared.machine.Machine.{Machine}
use Rattle.cw_machine.specs.declared.run.Run.{Run}
use Rattle.cw_machine.specs.Gives.{Gives, MayGive}
use Rattle.cw_machine.specs.Calls.{loans_of}
use Rattle.cw_code.specs.Fits.{slots_lent}
use Rattle.cw_strand.specs.declared.strand.Home.{Home}
use Rattle.cw_strand.specs.declared.strand.Strand.{Strand}
use Rattle.cw_strand.specs.Holds.{its_parts, outs}

-- the newest job out returned, with an effect that means it
pub record IsGiven (self : Strand) (e : Effect) : Type 0 where
  pub out : Job
  pub others : List Job
  pub are : outs self ≡ out ∷ others
  pub means : IsMeaningOf out e

-- the newest job is no longer out
abbrev pub LeavesOthers : (old new : Strand) → Type 0
LeavesOthers old new = (out : Job) (others : List Job) → outs old ≡ out ∷ others → outs new ≡ others

-- this number of further instructions would exceed the limit
abbrev pub passes_limit : Strand → (cost : ℕ) → Bool
passes_limit self cost = nat_lt (((its_parts self).limit - (its_parts self).before) - self.count) cost

-- an effect of a continuation, which does not end its call
abbrev pub IsOfRest : Effect → Type 0
IsOfRest (effect.Ended value shown) = ⊥
IsOfRest _ = Unit {0}

-- the arrays that an effect of a continuation returns
abbrev pub GivesBack : Effect → List Placed → List (Option Placed) → Type 0
GivesBack (effect.Joined frame rep shown) back replaced = (frame.slices.items ≡ back) × (rep.items ≡ replaced)
GivesBack (effect.Trapped c l lines cost b) back replaced = (b.items ≡ back) × ([] ≡ replaced)
GivesBack (effect.OverLimit b) back replaced = (b.items ≡ back) × ([] ≡ replaced)
GivesBack (effect.GivenUp b) back replaced = (b.items ≡ back) × ([] ≡ replaced)
GivesBack _ back replaced = ⊥

-- memory ran out, and the effect returns no arrays
abbrev pub IsMemory : Effect → Type 0
IsMemory (effect.Memory b) = Unit {0}
IsMemory _ = ⊥

-- a continuation may return to a machine of this code, to this home
abbrev pub MayJoin : Machine → Verified → Rest → List (Option Placed) → Home → Type 0
MayJoin m v frame replaced h =
    MayGive m frame replaced h.lender.slots (slots_lent (loans_of v h.lent)) h.target

-- each total has another one joined to it
pub record AreJoined (old more new : List Total) : Type 0 where
  pub as_many : length new ≡ length old
  pub each : (k : ℕ) (x y : Total) → slice_get old k ≡ Some x → slice_get more k ≡ Some y
      → slice_get new k ≡ Some (joined_total x y)

-- one total has another one joined to it
pub record IsJoinedAt (old more : List Total) (k : ℕ) (new : List Total) : Type 0 where
  pub as_many : length new ≡ length old
  pub here : (x y : Total) → slice_get old k ≡ Some x → slice_get more k ≡ Some y
      → slice_get new k ≡ Some (joined_total x y)
  pub others : (i : ℕ) → i ≢ k → slice_get new i ≡ slice_get old i

-- a machine has these lines after its own, and is otherwise unchanged
pub record HasPrinted (m : Machine) (lines : List ℤ) (m' : Machine) : Type 0 where
  pub lines_are : m'.lines.items ≡ m.lines.items ++ lines
  pub rest : m' ≡ record m { lines = m'.lines }

-- a machine has taken over what another machine has shown
pub record HasTaken (m : Machine) (lines : List ℤ) (totals : List Total) (m' : Machine) : Type 0 where
  pub lines_are : m'.lines.items ≡ m.lines.items ++ lines
  pub totals_are : AreJoined m.totals.items totals m'.totals.items
  pub rest : m' ≡ record m { lines = m'.lines; totals = m'.totals }

-- the continuation of a block returned to a run: the machine continues at the join and has taken over what the
-- continuation has shown, and the meter includes what the other meter counted
pub record HasJoined (r : Run) (v : Verified) (count : ℕ) (frame : Rest) (replaced : List (Option Placed)) (h : Home)
    (shown : PieceOutput) (r' : Run) : Type 0 where
  pub given : Machine
  pub gives : Gives r.machine frame replaced h.lender.slots (slots_lent (loans_of v h.lent)) h.target given
  pub takes : HasTaken given shown.lines.items shown.totals.items r'.machine
  pub rests : Rests r.meter shown.meter r'.meter count shown.cost
