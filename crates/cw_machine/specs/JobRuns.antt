-- The machine of a job: how it begins, and what it returns at its end.
use Rattle.std.specs.Prelude.{◌≡◌, ◌≢◌, ◌⊎◌, ℕ, ◌+◌, ◌-◌, ◌^◌, ◌<◌, ◌≤◌, ℤ, pos, List, [], ◌∷◌, ◌++◌, length}
use Rattle.std.specs.Prelude.{replicate, Option, Some, None, slice_get}
use Rattle.cw_slices.specs.Placed.{Placed, IsOwn}
use Rattle.cw_slices.specs.Blocks.{Lodged, ins, Have, IsWhole as IsUnshared}
use Rattle.cw_model.specs.Outcome.{quiet}
use Rattle.cw_code.specs.declared.code.Reducer.{Reducer}
use Rattle.cw_code.specs.Code.{code_view}
use Rattle.cw_code.specs.Run.{Results, Around, Caller, Block, State}
use Rattle.cw_code.specs.Good.{GoodState}
use Rattle.cw_code.specs.Jobs.{WholeCall, Job, job_start, standing}
use Rattle.cw_code.specs.Over.{under}
use Rattle.cw_jobs.specs.declared.call.Parts.{Parts}
use Rattle.cw_jobs.specs.declared.call.Rest.{Rest}
use Rattle.cw_jobs.specs.Calls.{cell, placed, HoldsCall, HoldsFrame}
use Rattle.cw_jobs.specs.Cuts.{cut_slots, AreNone, AreThere, RoundThere}
use Rattle.cw_jobs.specs.Totals.{empty_totals}
use Rattle.cw_jobs.specs.Jobs.{AreBlocks, IsOutermost, IsJob, own_or, home_of, IsOwnIn, KeepsHomes, KeepsEmpty}
use Rattle.cw_jobs.specs.Jobs.{KeepsFixed, OwnsSlots}
use Rattle.cw_runnable.specs.declared.verified.Verified.{Verified}
use Rattle.cw_machine.specs.declared.machine.Machine.{Machine}
use Rattle.cw_machine.specs.declared.machine.View.{View}
use Rattle.cw_machine.specs.Arrays.{IsFit, Ok, view, block, IsBare, home_in}
use Rattle.cw_machine.specs.RepresentsState.{RepresentsState, SharesFrozen}

-- these cells, then zeros up to `room` cells
abbrev pub HasCells : (own : List ℤ) → (room : ℕ) → List ℤ → Type 0
HasCells own room cells = cells ≡ own ++ replicate (room - length own) (pos 0)

-- each slice has fewer than 2^60 numbers
abbrev pub AreSmall : List Placed → Type 0
AreSmall slices = (a : ℕ) → a < length slices → length (placed slices a).items < 2 ^ 60

-- the cells from one on, so many at most
pub record AreFrom (cells : List ℤ) (first most : ℕ) (own : List ℤ) : Type 0 where
  pub as_many : (n : ℕ) → n ≤ most → first + n ≤ length cells → n ≤ length own
  pub are : (a : ℕ) → a < most → first + a < length cells → cell own a ≡ cell cells (first + a)

-- a view is added for each slice, as a block of its own
pub record HasViews (old : List View) (slices : List Placed) (new : List View) : Type 0 where
  pub as_many : length new ≡ length old + length slices
  pub old_are : (k : ℕ) → k < length old → view new k ≡ view old k
  pub are : (a : ℕ) → a < length slices → view new (length old + a) ≡ home_in slices a
  pub small : AreSmall slices

-- a slice, as a block with all cells in
abbrev pub lodged : Placed → Lodged
lodged p = record { cells = ins p.items; rights = replicate (length p.items) p.spot.halved; spot = p.spot }

-- each slice is a block
pub record AreLodged (slices : List Placed) (blocks : List Lodged) : Type 0 where
  pub as_many : length blocks ≡ length slices
  pub are : (a : ℕ) → a < length slices → block blocks a ≡ lodged (placed slices a)

-- a machine with room for a continuation, before its slices are moved in
pub record HasRoomFor (rest : Rest) (room : ℕ) (reducers : List Reducer) (m : Machine) : Type 0 where
  pub place : m.place ≡ rest.place
  pub first : m.first ≡ 0
  pub first_array : m.first_array ≡ length rest.slices.items
  pub depth : m.depth ≡ rest.depth
  pub frames : m.frames.items ≡ []
  pub lines : m.lines.items ≡ []
  pub cuts : m.cuts.items ≡ []
  pub cells : HasCells rest.cells.items room m.cells.items
  pub views : length m.views.items ≡ length rest.slices.items + length rest.slices.items
  pub low : (a : ℕ) → a < length rest.slices.items → view m.views.items a ≡ home_in rest.slices.items a
  pub high : (a : ℕ) → a < length rest.slices.items →
      view m.views.items (length rest.slices.items + a) ≡ home_in rest.slices.items a
  pub small : AreSmall rest.slices.items
  pub blocks : length m.blocks.items ≡ length rest.slices.items + length rest.slices.items
  pub bare : (k : ℕ) → IsBare (block m.blocks.items k)
  pub totals : m.totals.items ≡ empty_totals reducers

-- slices are the first blocks of a machine, and its other blocks have no numbers
pub record HasSlices (slices : List Placed) (m : Machine) : Type 0 where
  pub lodges : (a : ℕ) → a < length slices → block m.blocks.items a ≡ lodged (placed slices a)
  pub bare : (a : ℕ) → length slices ≤ a → IsBare (block m.blocks.items a)

-- everything except the blocks is unchanged
pub record KeepsAll (m m' : Machine) : Type 0 where
  pub place : m'.place ≡ m.place
  pub first : m'.first ≡ m.first
  pub first_array : m'.first_array ≡ m.first_array
  pub depth : m'.depth ≡ m.depth
  pub frames : m'.frames.items ≡ m.frames.items
  pub lines : m'.lines.items ≡ m.lines.items
  pub cuts : m'.cuts.items ≡ m.cuts.items
  pub cells : m'.cells.items ≡ m.cells.items
  pub views : m'.views.items ≡ m.views.items
  pub totals : m'.totals.items ≡ m.totals.items
  pub blocks : length m'.blocks.items ≡ length m.blocks.items

-- a continuation whose slices were moved out has equally many slices without numbers, and is otherwise unchanged
pub record IsEmptied (r r' : Rest) : Type 0 where
  pub place : r'.place ≡ r.place
  pub depth : r'.depth ≡ r.depth
  pub cells : r'.cells.items ≡ r.cells.items
  pub as_many : length r'.slices.items ≡ length r.slices.items
  pub bare : (a : ℕ) → (placed r'.slices.items a).items ≡ []

-- the run of a job on these slices, `slots` of which belong to slots, with `params` parameters and `round` enclosing
-- blocks
abbrev pub ok_of : (v : Verified) → IsFit v → (params slots : ℕ) → List Placed → (round : ℕ) → Ok v
ok_of v is params slots slices round =
    record {
      verified = is;
      outer = round;
      params = params;
      home = home_in slices;
      given = slices;
      slots = slots;
      outs = [];
    }

-- the values that wait for slots are in their cells
abbrev pub WaitIn : List ℤ → Results ℤ → Type 0
WaitIn cells [] = Unit {0}
WaitIn cells (r ∷ results) = (cell cells r.0 ≡ r.1) × WaitIn cells results

-- the arrays that wait for slots are in their slices
abbrev pub ArraysWaitIn : List Placed → Results (List ℤ) → Type 0
ArraysWaitIn slices [] = Unit {0}
ArraysWaitIn slices (r ∷ results) = ((placed slices r.0).items ≡ r.1) × ArraysWaitIn slices results

-- `WaitIn` and `ArraysWaitIn` for all blocks of the call
abbrev pub RoundWaitsIn : Rest → List Around → Type 0
RoundWaitsIn r [] = Unit {0}
RoundWaitsIn r (Caller w ∷ around) = Unit {0}
RoundWaitsIn r (Block o ∷ around) =
    WaitIn r.cells.items o.results × ArraysWaitIn r.slices.items o.arrived × RoundWaitsIn r around

-- the block in which a job began: what waits for the empty slots is what the job's continuation has in them
pub record IsBase (v : Verified) (is : IsFit v) (j : Job) (r : Rest) (base : State) : Type 0 where
  pub holds : HoldsCall r j
  pub own : OwnsSlots v is j.place r.slices.items j.arrays
  pub good : GoodState (code_view v.code) is.fits (under base (job_start j))
  pub begins : base.trace ≡ quiet
  pub blocks : AreBlocks base.around
  pub waits : WaitIn r.cells.items base.results × ArraysWaitIn r.slices.items base.arrived × RoundWaitsIn r base.around
  pub bare : AreNone r.slices.items (cut_slots base.around)
  pub there : AreThere (length j.slots) base.results × AreThere (length j.arrays) base.arrived
      × RoundThere (length j.slots) (length j.arrays) base.around
  pub outermost : j.extent ≡ WholeCall → IsOutermost base

-- the setting of a job's run
abbrev pub job_ok : (v : Verified) (is : IsFit v) (j : Job) (r : Rest) (base : State) → IsBase v is j r base → Ok v
job_ok v is j r base b =
    ok_of v is b.good.seat.func.array_params (length j.arrays) r.slices.items (length base.around)

-- a machine represents a state of the run of a job, with nothing handed out
pub record HoldsOf (v : Verified) (is : IsFit v) (j : Job) (r : Rest) (m : Machine) (s : State) : Type 0 where
  pub base : State
  pub is_base : IsBase v is j r base
  pub shows : RepresentsState v (job_ok v is j r base is_base) m (under base s)

-- the first call of a run only reads the shares that the run was given
abbrev pub OnlyReads : (v : Verified) (is : IsFit v) (j : Job) (r : Rest) (m : Machine) (s : State)
    → HoldsOf v is j r m s → Type 0
OnlyReads v is j r m s h = SharesFrozen v (job_ok v is j r h.base h.is_base) (under h.base s)

-- the machine of a job represents its initial state, whichever job of the definitions the job represents
abbrev pub BeginsJob : Verified → Rest → Machine → Type 0
BeginsJob v rest m =
    (is : IsFit v) (p : Parts) (j : Job) → p.rest ≡ rest → IsJob v is p j
    → (h : HoldsOf v is j rest m (job_start j)) × OnlyReads v is j rest m (job_start j) h

-- all cells of a block are in
abbrev pub AllIn : List (Option ℤ) → Type 0
AllIn cells = (k : ℕ) → slice_get cells k ≡ Some None → ⊥

-- all of a block is in, and no share of it is out
abbrev pub IsAllHere : Lodged → Type 0
IsAllHere b = AllIn b.cells × IsUnshared b

-- the slices that a run was given are still its first blocks, all in, at their places
pub record KeepsGiven (given : List Placed) (m : Machine) : Type 0 where
  pub there : length given ≤ length m.blocks.items
  pub all_here : (a : ℕ) → a < length given → IsAllHere (block m.blocks.items a)
  pub spot : (a : ℕ) → a < length given → (block m.blocks.items a).spot ≡ (placed given a).spot
  pub len : (a : ℕ) → a < length given → length (block m.blocks.items a).cells ≡ length (placed given a).items
  -- a share has its numbers
  pub same : (a : ℕ) → a < length given → 0 < (placed given a).spot.halved
      → (block m.blocks.items a).cells ≡ ins (placed given a).items

-- `count` slices that a machine was given may be moved out
pub record MayGiveUp (m : Machine) (count : ℕ) : Type 0 where
  pub there : count ≤ length m.blocks.items
  pub all_here : (a : ℕ) → a < count → IsAllHere (block m.blocks.items a)

-- everything that a run was given comes back to its place
abbrev pub GivesUp : Machine → (count : ℕ) → List Placed → Type 0
GivesUp m count back = (given : List Placed) → length given ≡ count → KeepsGiven given m → KeepsHomes given back []

-- these numbers are in a view
pub record Seen (blocks : List Lodged) (w : View) (xs : List ℤ) : Type 0 where
  pub len : w.len ≡ length xs
  pub have : Have (block blocks w.block).cells w.from xs

-- a range of places is within a block
abbrev pub Within : (from len : ℕ) → List (Option ℤ) → Type 0
Within from len cells = 0 < len → from + len ≤ length cells

-- a copy of the numbers of a block from `from` on
pub record Copies (cells : List (Option ℤ)) (from len : ℕ) (p : Placed) : Type 0 where
  pub own : IsOwn p
  pub are : (xs : List ℤ) → length xs ≡ len → Have cells from xs → p.items ≡ xs

-- the view of the array in a slot of the first call, if the run was given `count` slices
abbrev pub slot_view : Machine → (count slot : ℕ) → View
slot_view m count a = view m.views.items (count + a)

-- the cells of the block of a view
abbrev pub cells_at : Machine → View → List (Option ℤ)
cells_at m w = (block m.blocks.items w.block).cells

-- the block of a view belongs to a slot: it is the slot's own slice, or was made in the slot
abbrev pub IsSlots : (count slot : ℕ) → View → Type 0
IsSlots count a w = (w.block ≡ a) ⊎ (w.block ≡ count + a)

-- the array in a slot is all of the slot's own slice
pub record IsItsOwn (m : Machine) (count a : ℕ) : Type 0 where
  pub lies : (slot_view m count a).block ≡ a
  pub from : (slot_view m count a).from ≡ 0
  pub len : (slot_view m count a).len ≡ length (cells_at m (slot_view m count a))

-- the `count` arrays of the first call of a machine are in its blocks, all in; a slot's own slice that is a share is
-- the slot's array, and what was made in a slot has one owner
pub record MaySee (m : Machine) (count : ℕ) : Type 0 where
  pub views : count + count ≤ length m.views.items
  pub blocks : count + count ≤ length m.blocks.items
  pub all_here : (b : ℕ) → IsAllHere (block m.blocks.items b)
  pub there : (a : ℕ) → a < count → (slot_view m count a).block < length m.blocks.items
  pub within : (a : ℕ) → a < count →
      let w = slot_view m count a in Within w.from w.len (cells_at m w)
  pub shares : (a : ℕ) → a < count → 0 < (block m.blocks.items a).spot.halved → IsItsOwn m count a
  pub made_own : (a : ℕ) → a < count → (block m.blocks.items (count + a)).spot.halved ≡ 0

-- an array is all of a block that belongs to its slot: the slot's own slice, or what was made in the slot
pub record IsWhole (m : Machine) (count a : ℕ) : Type 0 where
  pub from : (slot_view m count a).from ≡ 0
  pub len : (slot_view m count a).len ≡ length (cells_at m (slot_view m count a))
  pub which : IsSlots count a (slot_view m count a)

-- the array in a slot is a whole block, or else was copied
abbrev pub IsCopied : Machine → (count a : ℕ) → Option Placed → Type 0
IsCopied m count a None = IsWhole m count a
IsCopied m count a (Some p) =
    let w = slot_view m count a in Copies (cells_at m w) w.from w.len p × (IsItsOwn m count a → ⊥)

-- the first `upto` slots have their copies
pub record HasCopies (m : Machine) (count upto : ℕ) (copies : List (Option Placed)) : Type 0 where
  pub as_many : length copies ≡ upto
  pub each : (a : ℕ) (o : Option Placed) → slice_get copies a ≡ Some o → IsCopied m count a o

-- the array in a slot is the slot's own slice, and was not copied
abbrev pub IsStill : Machine → (count a : ℕ) → Option Placed → Type 0
IsStill m count a copy = (copy ≡ None) × ((slot_view m count a).block ≡ a)

-- the copy of an array may be moved out, or the block that the array is
pub record MayMove (m : Machine) (count a : ℕ) (copy : Option Placed) : Type 0 where
  pub slot : a < count
  pub views : count + count ≤ length m.views.items
  pub blocks : count + count ≤ length m.blocks.items
  pub own : IsAllHere (block m.blocks.items a)
  pub made : IsAllHere (block m.blocks.items (count + a))
  -- the array that was made in the slot has one owner, and so has the slot's own slice, unless it is the array
  pub made_own : (block m.blocks.items (count + a)).spot.halved ≡ 0
  pub written_own : IsStill m count a copy ⊎ ((block m.blocks.items a).spot.halved ≡ 0)
  pub which : copy ≡ None → IsSlots count a (slot_view m count a)
  pub owned : (p : Placed) → copy ≡ Some p → IsOwn p

-- the array in a slot was moved out: the slot's own slice comes back, and contains the array if the lengths are equal
pub record IsMoved (m : Machine) (count a : ℕ) (copy : Option Placed) (slice : Placed) (rep : Option Placed)
    : Type 0 where
  pub spot : (own_or (Some rep) slice).spot ≡ (block m.blocks.items a).spot
  pub len : length (own_or (Some rep) slice).items ≡ length (block m.blocks.items a).cells
  pub copied : (p : Placed) → copy ≡ Some p → slice.items ≡ p.items
  pub whole : copy ≡ None → ins slice.items ≡ cells_at m (slot_view m count a)
  pub own : (p : Placed) → rep ≡ Some p → IsOwn slice
  pub same : length slice.items ≡ length (block m.blocks.items a).cells → (p : Placed) → rep ≢ Some p

-- only the blocks of a slot were taken from a machine
pub record LeavesOthers (m : Machine) (count a : ℕ) (m' : Machine) : Type 0 where
  pub others : (b : ℕ) → b ≢ a → b ≢ count + a → block m'.blocks.items b ≡ block m.blocks.items b
  pub as_many : length m'.blocks.items ≡ length m.blocks.items
  pub views : m'.views.items ≡ m.views.items
  pub place : m'.place ≡ m.place
  pub depth : m'.depth ≡ m.depth
  pub lines : m'.lines.items ≡ m.lines.items
  pub totals : m'.totals.items ≡ m.totals.items

-- the outcome of the array in a slot: the slot's own slice comes back, the array's numbers are in what comes back,
-- and if the array has the length of the slot's own slice, it is in that slice
pub record SlotEnds (m : Machine) (count a : ℕ) (back : List Placed) (replaced : List (Option Placed)) : Type 0 where
  pub spot : (home_of back replaced a).spot ≡ (block m.blocks.items a).spot
  pub len : length (home_of back replaced a).items ≡ length (block m.blocks.items a).cells
  pub items : (xs : List ℤ) → Seen m.blocks.items (slot_view m count a) xs → (placed back a).items ≡ xs
  pub own : (p : Placed) → slice_get replaced a ≡ Some (Some p) → IsOwn (placed back a)
  pub same : length (placed back a).items ≡ length (block m.blocks.items a).cells → IsOwnIn replaced a

-- the outcome of the arrays of the first call
pub record SlotsEnd (m : Machine) (count : ℕ) (back : List Placed) (replaced : List (Option Placed)) : Type 0 where
  pub as_many : length back ≡ count
  pub places : length replaced ≡ count
  pub each : (a : ℕ) → a < count → SlotEnds m count a back replaced

-- a machine represents a state of a job's run at the join of its block: nothing is handed out, and nothing encloses
-- it
pub record HasCome (v : Verified) (is : IsFit v) (j : Job) (r : Rest) (m : Machine) (s : State) : Type 0 where
  pub holds : HoldsOf v is j r m s
  pub none : s.around ≡ []
  -- the call and the job's call have equally many array slots, and read equally many arrays
  pub arrays : length s.arrays ≡ length j.arrays
  pub readers : length s.readers ≡ length j.readers

-- a job reached its join
pub record CanEnd (m : Machine) (count : ℕ) : Type 0 where
  pub code : Verified
  pub is : IsFit code
  pub job : Job
  pub rest : Rest
  pub state : State
  pub come : HasCome code is job rest m state
  pub as_many : length rest.slices.items ≡ count

-- the result of the machine of a job at the join: the frame of the call, each slice at its place, the content of the
-- empty slots, and no new array where the old one must come back
pub record Ends (v : Verified) (is : IsFit v) (j : Job) (r : Rest) (s : State) (back : Rest)
    (replaced : List (Option Placed)) : Type 0 where
  pub holds : HoldsFrame back (standing s)
  pub empty : KeepsEmpty j r back replaced
  pub homes : KeepsHomes r.slices.items back.slices.items replaced
  pub fixed : KeepsFixed v is j.place replaced

abbrev pub EndsJob : Verified → Machine → (count : ℕ) → Rest → List (Option Placed) → Type 0
EndsJob v m count back replaced =
    (is : IsFit v) (j : Job) (r : Rest) (s : State) → HasCome v is j r m s →
    length r.slices.items ≡ count → Ends v is j r s back replaced
