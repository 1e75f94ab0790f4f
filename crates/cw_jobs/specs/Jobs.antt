-- The job of the definitions that a job represents.
use Rattle.std.specs.Prelude.{◌≡◌, ◌≢◌, ◌⊎◌, ℕ, ◌-◌, ◌<◌, ◌≤◌, ℤ, pos, Bool, true, false, ◌&&◌, nat_eq, nat_le, List}
use Rattle.std.specs.Prelude.{[], ◌∷◌, ◌++◌, length, replicate, Option, Some, None, slice_get}
use Rattle.std.specs.Arc.{arc_value}
use Rattle.cw_slices.specs.Placed.{Placed, IsOwn}
use Rattle.cw_model.specs.declared.burden.Burden.{Burden}
use Rattle.cw_model.specs.declared.limits.TheConstants.{MOST_LIMIT, MOST_BURDEN}
use Rattle.cw_model.specs.Outcome.{quiet}
use Rattle.cw_code.specs.declared.code.Func.{Func}
use Rattle.cw_code.specs.declared.code.Halves.{Halves}
use Rattle.cw_code.specs.Code.{Code, code_view}
use Rattle.cw_code.specs.Run.{Slots, State, is_full}
use Rattle.cw_code.specs.Fits.{Outer, Shape, main_params}
use Rattle.cw_code.specs.Frozen.{all_frozen, IsFrozenIn}
use Rattle.cw_code.specs.Good.{Seat, GoodState}
use Rattle.cw_runnable.specs.declared.verified.Verified.{Verified}
use Rattle.cw_runnable.specs.Resolved.{IsVerified}
use Rattle.cw_meter.specs.declared.detail.Detail.{Detail}
use Rattle.cw_meter.specs.declared.detail.Detail.TheVariants.{Measures}
use Rattle.cw_meter.specs.Details.{IsLight}
use Rattle.cw_meter.specs.Origins.{Origin, Main, Rest}
use Rattle.cw_code.specs.Jobs.{Extent, WholeCall, ToJoin, Job, job_start, root_job}
use Rattle.cw_code.specs.Over.{under}
use Rattle.cw_jobs.specs.declared.call.Extent as declared
use Rattle.cw_jobs.specs.declared.call.Extent.TheVariants as extent
use Rattle.cw_jobs.specs.declared.call.Parts.{Parts}
use Rattle.cw_jobs.specs.declared.call.Rest.{Rest as Frame}
use Rattle.cw_text.specs.declared.fault.Fault.{Fault}
use Rattle.cw_text.specs.declared.fault.Fault.TheVariants as fault
use Rattle.cw_jobs.specs.Calls.{cell, placed, LiesAs, HoldsCall}
use Rattle.cw_jobs.specs.Cuts.{cut_slots, AreCutsValid, AreNone, AreThere, RoundThere}
-- only sync blocks of the same call are open, no call
pub use Rattle.cw_code.specs.Frozen.{AreBlocks}

-- the code is well-formed, and its decoded instructions represent it
abbrev pub Ok : Verified → Type 0
Ok v = IsVerified (code_view v.code) v.ops.items v.rooms.items

-- the extent of a job
abbrev pub extent_of : declared.Extent → Extent
extent_of extent.WholeCall = WholeCall
extent_of extent.ToJoin = ToJoin

-- the origin of the meter of a job's run
abbrev pub begins_at : declared.Extent → (site : ℕ) → Origin
begins_at extent.WholeCall site = Main
begins_at extent.ToJoin site = Rest site

abbrev pub origin_of : Parts → Origin
origin_of p = begins_at p.extent p.site

-- the code of a job
abbrev pub code_of : Parts → Verified
code_of p = arc_value p.code

-- nothing encloses a state, and nothing waits for its join
pub record IsOutermost (s : State) : Type 0 where
  pub around : s.around ≡ []
  pub results : s.results ≡ []
  pub arrived : s.arrived ≡ []

-- some sync block of a call in this state marks the slot as frozen
abbrev pub IsFrozenBy : Shape → (slot : ℕ) → Type 0
IsFrozenBy shape a = IsFrozenIn (length shape.outer) (all_frozen shape) a

-- the slot has its array, and is frozen in a call at this pc
abbrev pub IsKeptAt : (v : Verified) → Ok v → (place : ℕ) → Slots (List ℤ) → (slot : ℕ) → Type 0
IsKeptAt v ok place arrays a =
    (is_full (slice_get arrays a) ≡ true) × (seat : Seat (code_view v.code) ok.fits place) × IsFrozenBy seat.shape a

-- a slice has numbers, and the call only reads them until a join
abbrev pub IsReadAt : (v : Verified) → Ok v → (place : ℕ) → List Placed → Slots (List ℤ) → (slot : ℕ) → Type 0
IsReadAt v ok place slices arrays a = (0 < length (placed slices a).items) × IsKeptAt v ok place arrays a

-- the slice of each slot has one owner, or is only read
abbrev pub OwnsSlots : (v : Verified) → Ok v → (place : ℕ) → List Placed → Slots (List ℤ) → Type 0
OwnsSlots v ok place slices arrays =
    (a : ℕ) → a < length arrays → IsOwn (placed slices a) ⊎ IsReadAt v ok place slices arrays a

-- a job represents one of the definitions: its frame holds the call of that job, and in some enclosing block in which
-- the values for the empty slots have arrived, the run of that job begins in a good state. The slice of each slot has
-- one owner or is only read, a cut array is only in its parts, and a whole call has no enclosing block and no share
pub record IsJob (v : Verified) (ok : Ok v) (p : Parts) (j : Job) : Type 0 where
  pub extent : j.extent ≡ extent_of p.extent
  pub limit : j.limit ≡ p.limit
  pub before : j.before ≡ p.before
  pub holds : HoldsCall p.rest j
  pub base : State
  pub begins : base.trace ≡ quiet
  pub blocks : AreBlocks base.around
  pub good : GoodState (code_view v.code) ok.fits (under base (job_start j))
  pub own : OwnsSlots v ok j.place p.rest.slices.items j.arrays
  pub bare : AreNone p.rest.slices.items (cut_slots base.around)
  pub cuts : (seat : Seat (code_view v.code) ok.fits j.place) →
      AreCutsValid (length j.arrays) seat.func.array_params base.around
  pub there : AreThere (length j.slots) base.results × AreThere (length j.arrays) base.arrived
      × RoundThere (length j.slots) (length j.arrays) base.around
  pub outermost : j.extent ≡ WholeCall → IsOutermost base
  pub unshared : j.extent ≡ WholeCall → (a : ℕ) → IsOwn (placed p.rest.slices.items a)

-- the slot has a part of the array of this cut
abbrev pub IsPartOf : ℕ → Option Halves → Type 0
IsPartOf a None = ⊥
IsPartOf a (Some h) = (a ≡ h.left) ⊎ (a ≡ h.right)

-- the slot has a part of the array of a cut that is open here
abbrev pub IsPartIn : ℕ → List Outer → Type 0
IsPartIn a [] = ⊥
IsPartIn a (o ∷ outer) = IsPartOf a o.cut ⊎ IsPartIn a outer

-- an array that must come back to its place: the array of a parameter, or a part of an open cut
abbrev pub IsFixed : (v : Verified) → Ok v → (place slot : ℕ) → Type 0
IsFixed v ok place a =
    (seat : Seat (code_view v.code) ok.fits place) × ((a < seat.func.array_params) ⊎ IsPartIn a seat.shape.outer)

-- the array that comes back for a slot: the job's own array, if a new one was made in the slot
abbrev pub own_or : Option (Option Placed) → Placed → Placed
own_or (Some (Some own)) p = own
own_or (Some None) p = p
own_or None p = p

abbrev pub home_of : (back : List Placed) → (replaced : List (Option Placed)) → (slot : ℕ) → Placed
home_of back replaced a = own_or (slice_get replaced a) (placed back a)

-- a new array that was made in a slot has one owner
abbrev pub NewAreOwn : (back : List Placed) → (replaced : List (Option Placed)) → Type 0
NewAreOwn back replaced = (a : ℕ) (own : Placed) → slice_get replaced a ≡ Some (Some own) → IsOwn (placed back a)

-- no new array is made in a slot
abbrev pub IsOwnIn : List (Option Placed) → (slot : ℕ) → Type 0
IsOwnIn replaced a = (p : Placed) → slice_get replaced a ≢ Some (Some p)

-- no new array is made in a slot of which the job had a share
abbrev pub KeepsShares : (slices : List Placed) → (replaced : List (Option Placed)) → Type 0
KeepsShares slices replaced = (a : ℕ) → 0 < (placed slices a).spot.halved → IsOwnIn replaced a

-- the arrays of a job come back to their places
abbrev pub KeepsHomes : (slices back : List Placed) → (replaced : List (Option Placed)) → Type 0
KeepsHomes slices back replaced =
    (length back ≡ length slices) × ((a : ℕ) → LiesAs (home_of back replaced a) (placed slices a))
    × NewAreOwn back replaced × KeepsShares slices replaced

-- the slots that are empty in a job keep their content and its place
pub record KeepsEmpty (j : Job) (r back : Frame) (replaced : List (Option Placed)) : Type 0 where
  pub cells : (a : ℕ) → slice_get j.slots a ≡ Some None → cell back.cells.items a ≡ cell r.cells.items a
  pub slices : (a : ℕ) → slice_get j.arrays a ≡ Some None →
      (placed back.slices.items a).items ≡ (placed r.slices.items a).items
  pub own : (a : ℕ) → slice_get j.arrays a ≡ Some None → IsOwnIn replaced a

-- no new array is made in a slot whose array must come back to its place
abbrev pub KeepsFixed : (v : Verified) → Ok v → (place : ℕ) → (replaced : List (Option Placed)) → Type 0
KeepsFixed v ok place replaced = (a : ℕ) → IsFixed v ok place a → IsOwnIn replaced a

-- a job that can be executed: it represents one of the definitions, and its numbers are in their ranges
pub record IsSound (p : Parts) : Type 0 where
  pub ok : Ok (code_of p)
  pub job : Job
  pub is : IsJob (code_of p) ok p job
  pub within : p.before ≤ p.limit
  pub range : p.limit ≤ MOST_LIMIT
  pub light : IsLight p.detail

-- the number of arguments is the number of parameters, and the limit and the burden are in their ranges
abbrev pub is_asked : (params count n : ℕ) → Burden → Bool
is_asked params count n burden =
    nat_eq count params && (nat_le 1 n && (nat_le n MOST_LIMIT && nat_le burden.charge MOST_BURDEN))

-- this run of the code may be requested
abbrev pub is_request : Code → List ℤ → (n : ℕ) → Burden → Bool
is_request code args n burden = is_asked (main_params code) (length args) n burden

-- the job of a whole run that records what `d` says: `main` on these arguments
pub record IsRootOf (v : Verified) (args : List ℤ) (n : ℕ) (b : Burden) (d : Detail) (p : Parts) : Type 0 where
  pub asked : is_request (code_view v.code) args n b ≡ true
  pub code : code_of p ≡ v
  pub detail : p.detail ≡ d
  pub whole : p.extent ≡ extent.WholeCall
  pub is : (ok : Ok v) (f : Func) → slice_get (code_view v.code).funcs v.code.main ≡ Some f
      → IsJob v ok p (root_job f args n)

-- the job of a whole run that counts everything
abbrev pub IsRoot : Verified → List ℤ → (n : ℕ) → Burden → Parts → Type 0
IsRoot v args n b p = IsRootOf v args n b (Measures b) p

-- why there is no such job: the request is out of range, or memory ran out
abbrev pub IsRejected : Code → List ℤ → (n : ℕ) → Burden → Fault → Type 0
IsRejected code args n burden fault.Arguments = is_request code args n burden ≡ false
IsRejected code args n burden fault.Memory = is_request code args n burden ≡ true
IsRejected code args n burden _ = ⊥

-- `main` begins: its arguments and zeros are in its cells, its arrays are empty
pub record IsFirst (f : Func) (args : List ℤ) (r : Frame) : Type 0 where
  pub at : r.place ≡ f.start
  pub deep : r.depth ≡ 1
  pub cells : r.cells.items ≡ args ++ replicate (f.slots - length args) (pos 0)
  pub as_many : length r.slices.items ≡ f.arrays
  pub empty : (k : ℕ) → k < f.arrays → ((placed r.slices.items k).items ≡ []) × IsOwn (placed r.slices.items k)
