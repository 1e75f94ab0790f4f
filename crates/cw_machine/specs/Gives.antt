-- A continuation of the running call that was executed elsewhere is given back: the machine continues from its join.
use Rattle.std.specs.Prelude.{◌≡◌, ◌≢◌, ℕ, zero, suc, ◌+◌, ◌<◌, ◌≤◌, ◌^◌, ℤ, true, if◌then◌else◌, List, [], ◌∷◌, ◌++◌}
use Rattle.std.specs.Prelude.{length, Option, Some, None, slice_get, slice_set}
use Rattle.std.specs.Option.{option_flatten}
use Rattle.cw_slices.specs.Placed.{Placed, IsOwn}
use Rattle.cw_slices.specs.Blocks.{Lodged, ins, IsWhole}
use Rattle.cw_code.specs.Code.{code_view}
use Rattle.cw_code.specs.Run.{Slots, Results, Around, Caller, Block, State, is_full, settled}
use Rattle.cw_code.specs.Frozen.{AreBlocks}
use Rattle.cw_code.specs.Good.{IsNotAmong, slots_in, Seat, GoodState}
use Rattle.cw_code.specs.declared.code.Loan.{Loan}
use Rattle.cw_code.specs.Fits.{slots_lent}
use Rattle.cw_code.specs.Jobs.{JoinFrame}
use Rattle.cw_runnable.specs.declared.verified.Verified.{Verified}
use Rattle.cw_jobs.specs.declared.call.Rest.{Rest}
use Rattle.cw_jobs.specs.Calls.{placed, HasArrays, HoldsFrame}
use Rattle.cw_jobs.specs.Jobs.{KeepsHomes, KeepsFixed, IsOwnIn, home_of}
use Rattle.cw_machine.specs.declared.machine.Machine.{Machine}
use Rattle.cw_jobs.specs.Cuts.{parts_round}
use Rattle.cw_machine.specs.Arrays.{Out, Ok, AllAbove, taken_round}
use Rattle.cw_machine.specs.RepresentsState.{cell, RepresentsState, StaysBut}
use Rattle.cw_machine.specs.Rests.{lending}

-- the entry of the list of new arrays for a slot after the slot's own array is returned: the new array, if one was
-- made
abbrev pub new_in : Option (Option Placed) → Placed → Option (Option Placed)
new_in (Some (Some own)) p = Some (Some p)
new_in (Some None) p = Some None
new_in None p = None

-- a slice is taken out of a slot
pub record IsTaken (slices : List Placed) (a : ℕ) (slices' : List Placed) : Type 0 where
  pub left : Placed
  pub bare : left.items ≡ []
  pub rest : slices' ≡ slice_set slices a left

-- the new array of a slot is taken in exchange for the slot's own array
pub record IsExchanged (slices : List Placed) (replaced : List (Option Placed)) (a : ℕ)
    (replaced' : List (Option Placed))
    : Type 0 where
  pub here : slice_get replaced' a ≡ new_in (slice_get replaced a) (placed slices a)
  pub others : (b : ℕ) → b ≢ a → slice_get replaced' b ≡ slice_get replaced b

-- each new array is taken in exchange for the own array of its slot
abbrev pub AreMade : (back : List Placed) → (replaced made : List (Option Placed)) → Type 0
AreMade back replaced made =
    (a : ℕ) → a < length back → slice_get made a ≡ new_in (slice_get replaced a) (placed back a)

-- other numbers in the array of a slot, if the slot has an array
abbrev pub refilled : Slots (List ℤ) → (slot : ℕ) → List ℤ → Slots (List ℤ)
refilled arrays a xs = if is_full (slice_get arrays a) then slice_set arrays a (Some xs) else arrays

-- the arrays of the first `count` slots have the numbers that were returned to them
abbrev pub homed : Slots (List ℤ) → (back : List Placed) → (replaced : List (Option Placed)) → (count : ℕ)
    → Slots (List ℤ)
homed arrays back replaced zero = arrays
homed arrays back replaced (suc n) = refilled (homed arrays back replaced n) n (home_of back replaced n).items

-- a slot has a new array, if there is one for it
abbrev pub with_new : Slots (List ℤ) → (slot : ℕ) → Option Placed → Slots (List ℤ)
with_new arrays a (Some p) = slice_set arrays a (Some p.items)
with_new arrays a None = arrays

-- the first `count` slots have their new arrays
abbrev pub remade : Slots (List ℤ) → (made : List (Option Placed)) → (count : ℕ) → Slots (List ℤ)
remade arrays made zero = arrays
remade arrays made (suc n) = with_new (remade arrays made n) n (option_flatten (slice_get made n))

-- a machine represents a state while slices of the running call are handed out, and these slices are returned:
-- equally many, of the same lengths and at the same places; if the call has no array there, with the same numbers
pub record ComesBack (v : Verified) (ok : Ok v) (o : Out) (m : Machine) (s : State) (back : List Placed)
    (replaced : List (Option Placed)) : Type 0 where
  pub shows : RepresentsState v (lending ok o) m s
  pub above : AllAbove ok.outs (length s.around)
  pub level : o.level ≡ length s.around
  pub first : o.first ≡ m.first_array
  pub had : HasArrays o.slices s.arrays
  pub wide : length s.arrays + length s.readers ≡ length o.slices
  pub slots_are : o.slots ≡ length s.arrays
  pub homes : KeepsHomes o.slices back replaced
  pub empty : (a : ℕ) → slice_get s.arrays a ≡ Some None → (home_of back replaced a).items ≡ (placed o.slices a).items

-- a machine represents some state while these slices are returned
pub record MayHome (m : Machine) (slots : ℕ) (lent : List ℕ) (back : List Placed) (replaced : List (Option Placed))
    : Type 0 where
  pub code : Verified
  pub ok : Ok code
  pub out : Out
  pub state : State
  pub comes : ComesBack code ok out m state back replaced
  pub slots_are : out.slots ≡ slots
  pub lent_are : out.lent ≡ lent

-- each state that the machine represented it represents with the returned numbers
abbrev pub LaysHomes : Machine → (slots : ℕ) → (lent : List ℕ) → List Placed → List (Option Placed) → Machine → Type 0
LaysHomes m slots lent back replaced m' =
    (v : Verified) (ok : Ok v) (o : Out) (s : State) → ComesBack v ok o m s back replaced → o.slots ≡ slots
    → o.lent ≡ lent → RepresentsState v ok m' (record s { arrays = homed s.arrays back replaced slots })

-- `MayHome` and `LaysHomes` for the slots that were lent by these loans
abbrev pub MayLayHomes : Machine → (slots : ℕ) → List Loan → List Placed → List (Option Placed) → Type 0
MayLayHomes m slots lent back replaced = MayHome m slots (slots_lent lent) back replaced

abbrev pub Homes : Machine → (slots : ℕ) → List Loan → List Placed → List (Option Placed) → Machine → Type 0
Homes m slots lent back replaced m' = LaysHomes m slots (slots_lent lent) back replaced m'

-- a slot of the running call may get a new array: no part of a cut is there, no array that a waiting call passed, and
-- the run was given no share for it
pub record IsFree (v : Verified) (ok : Ok v) (s : State) (a : ℕ) : Type 0 where
  pub full : is_full (slice_get s.arrays a) ≡ true
  pub apart : IsNotAmong a (parts_round s.around)
  pub past : taken_round ok.params s.around ≤ a
  pub spared : AreBlocks s.around → a < ok.slots → 0 < (placed ok.given a).spot.halved → ⊥

-- a machine represents a state with nothing handed out of the running call, which has `count` array slots and may get
-- these arrays
pub record MakesNew (v : Verified) (ok : Ok v) (m : Machine) (s : State) (made : List (Option Placed)) (count : ℕ)
    : Type 0 where
  pub shows : RepresentsState v ok m s
  pub above : AllAbove ok.outs (length s.around)
  pub wide : length s.arrays ≡ count
  pub each : (a : ℕ) (p : Placed) → slice_get made a ≡ Some (Some p) → a < count → IsFree v ok s a × IsOwn p

-- a machine represents some state that may get these new arrays
pub record MayMake (m : Machine) (made : List (Option Placed)) (count : ℕ) : Type 0 where
  pub code : Verified
  pub ok : Ok code
  pub state : State
  pub makes : MakesNew code ok m state made count

-- each state that the machine represented it represents with the new arrays
abbrev pub LaysMade : Machine → List (Option Placed) → (count : ℕ) → Machine → Type 0
LaysMade m made count m' =
    (v : Verified) (ok : Ok v) (s : State) → MakesNew v ok m s made count
    → RepresentsState v ok m' (record s { arrays = remade s.arrays made count })

-- a new array is in the block of a cell, and nothing else changed
pub record HasMade (m : Machine) (cell : ℕ) (xs : List ℤ) (m' : Machine) : Type 0 where
  pub block : Lodged
  pub are : block.cells ≡ ins xs
  pub whole : IsWhole block
  pub own : block.spot.halved ≡ 0
  pub small : length xs < 2 ^ 60
  pub blocks : m'.blocks.items ≡ slice_set m.blocks.items cell block
  pub views : m'.views.items ≡ slice_set m.views.items cell (record { block = cell; from = 0; len = length xs })
  pub rest : StaysBut m m'

-- nothing changed
pub record HasStayed (m m' : Machine) : Type 0 where
  pub blocks : m'.blocks.items ≡ m.blocks.items
  pub views : m'.views.items ≡ m.views.items
  pub rest : StaysBut m m'

-- a new array, if there is one, may become the array of a cell
abbrev pub MayTakeNew : Machine → (cell : ℕ) → Option Placed → Type 0
MayTakeNew m cell (Some p) = IsOwn p × (cell < length m.views.items) × (cell < length m.blocks.items)
MayTakeNew m cell None = Unit {0}

-- a new array, if there is one, is the array of a cell
abbrev pub HasNew : Machine → (cell : ℕ) → Option Placed → Machine → Type 0
HasNew m cell (Some p) m' = HasMade m cell p.items m'
HasNew m cell None m' = HasStayed m m'

-- a cell of a call has a value that came back, except the slot that already has the result of its call
pub record HasCell (first k : ℕ) (x : ℤ) (target : Option ℕ) (old new : List ℤ) : Type 0 where
  pub kept : target ≡ Some k → new ≡ old
  pub laid : Some k ≢ target → new ≡ slice_set old (first + k) x

abbrev pub LaysCell : Machine → (k : ℕ) → ℤ → (target : Option ℕ) → Machine → Type 0
LaysCell m k x target m' = HasCell m.first k x target m.cells.items m'.cells.items

-- the cells of a call have the values that came back, except the slot that already has the result of its call
pub record HasFilled (first : ℕ) (back : List ℤ) (target : Option ℕ) (old new : List ℤ) : Type 0 where
  pub as_many : length new ≡ length old
  pub below : (k : ℕ) → k < first → cell new k ≡ cell old k
  pub kept : (a : ℕ) → target ≡ Some a → cell new (first + a) ≡ cell old (first + a)
  pub laid : (a : ℕ) → a < length back → first + a < length old → Some a ≢ target → cell new (first + a) ≡ cell back a

abbrev pub LaysCells : Machine → (back : List ℤ) → (target : Option ℕ) → Machine → Type 0
LaysCells m back target m' = HasFilled m.first back target m.cells.items m'.cells.items

-- the values and arrays that wait for the join of a block: the newest results come from its own spawns, the others
-- waited before its run began
pub record Waits (s : State) : Type 0 where
  pub newest : Results ℤ
  pub others : Results ℤ
  pub are : s.results ≡ newest ++ others
  pub newest_arrays : Results (List ℤ)
  pub other_arrays : Results (List ℤ)
  pub are_arrays : s.arrived ≡ newest_arrays ++ other_arrays

-- the block continues after a join: the results of its own spawns go into their slots, and the others still wait
abbrev pub went_on : (s : State) → JoinFrame → Waits s → State
went_on s frame waits = record s {
  place = frame.place;
  operands = frame.operands;
  slots = settled waits.newest frame.slots;
  arrays = settled waits.newest_arrays frame.arrays;
  results = waits.others;
  arrived = waits.other_arrays;
}

-- each waiting result is in the cell of its slot, except for one slot
abbrev pub ComesBut : (target : Option ℕ) → List ℤ → Results ℤ → Type 0
ComesBut target cells [] = Unit {0}
ComesBut target cells (r ∷ results) = (Some r.0 ≢ target → cell cells r.0 ≡ r.1) × ComesBut target cells results

-- `ComesBut` for each open block of a call
abbrev pub RoundComesBut : (target : Option ℕ) → List ℤ → List Around → Type 0
RoundComesBut target cells [] = Unit {0}
RoundComesBut target cells (Caller w ∷ around) = Unit {0}
RoundComesBut target cells (Block o ∷ around) = ComesBut target cells o.results × RoundComesBut target cells around

-- two pcs are in the same function
abbrev pub AreTogether : (v : Verified) → Ok v → (place place' : ℕ) → Type 0
AreTogether v ok place place' =
    (seat : Seat (code_view v.code) ok.verified.fits place) (seat' : Seat (code_view v.code) ok.verified.fits place')
    → seat'.index ≡ seat.index

-- the array slots that were empty keep what they had, and get no new array
pub record KeepsSlots (s : State) (o : Out) (back : Rest) (replaced : List (Option Placed)) : Type 0 where
  pub own : (a : ℕ) → slice_get s.arrays a ≡ Some None → IsOwnIn replaced a
  pub items : (a : ℕ) → slice_get s.arrays a ≡ Some None
      → (placed back.slices.items a).items ≡ (placed o.slices a).items

-- a machine represents a state while slices of the running call are handed out, and the continuation has come back
-- with this frame
pub record IsGiving (v : Verified) (ok : Ok v) (o : Out) (m : Machine) (s : State) (frame : JoinFrame) (waits : Waits s)
    (back : Rest) (replaced : List (Option Placed)) (count : ℕ) (lent : List ℕ) (target : Option ℕ) : Type 0 where
  pub slots_are : o.slots ≡ count
  pub lent_are : o.lent ≡ lent
  -- `o.slots` is the number of array slots that the call has
  pub wide : o.slots ≡ length s.arrays
  -- the continuation reads what the call reads
  pub readers : frame.readers ≡ s.readers
  pub shows : RepresentsState v (lending ok o) m s
  pub above : AllAbove ok.outs (length s.around)
  pub level : o.level ≡ length s.around
  -- the handed-out slices were the arrays that the call has
  pub had : HasArrays o.slices s.arrays
  pub together : AreTogether v ok s.place frame.place
  pub good : GoodState (code_view v.code) ok.verified.fits (went_on s frame waits)
  pub holds : HoldsFrame back frame
  pub homes : KeepsHomes o.slices back.slices.items replaced
  pub fixed : KeepsFixed v ok.verified s.place replaced
  pub slots : KeepsSlots s o back replaced
  -- the values that waited when the continuation was handed out are still in its cells
  pub comes : ComesBut target back.cells.items s.results
  pub round : RoundComesBut target back.cells.items s.around
  -- the result of the spawned call waits for its slot
  pub awaits : (a : ℕ) → target ≡ Some a → IsNotAmong a (slots_in waits.newest) → ⊥

-- each state that the machine represented while the continuation was executed it now represents at the continuation's
-- join
abbrev pub Gives : Machine → Rest → List (Option Placed) → (slots : ℕ) → (lent : List ℕ) → Option ℕ → Machine → Type 0
Gives m back replaced slots lent target m' =
    (v : Verified) (ok : Ok v) (o : Out) (s : State) (frame : JoinFrame) (waits : Waits s)
    → IsGiving v ok o m s frame waits back replaced slots lent target → RepresentsState v ok m' (went_on s frame waits)

-- a machine represents some state, and the continuation that comes back was executed in that state
pub record MayGive (m : Machine) (back : Rest) (replaced : List (Option Placed)) (slots : ℕ) (lent : List ℕ)
    (target : Option ℕ) : Type 0 where
  pub code : Verified
  pub ok : Ok code
  pub out : Out
  pub state : State
  pub frame : JoinFrame
  pub waits : Waits state
  pub gives : IsGiving code ok out m state frame waits back replaced slots lent target

-- `MayGive` and `Gives` for the slots that were lent by these loans
abbrev pub MayGiveRest : Machine → Rest → List (Option Placed) → (slots : ℕ) → List Loan → Option ℕ → Type 0
MayGiveRest m back replaced slots lent target = MayGive m back replaced slots (slots_lent lent) target

abbrev pub Brings : Machine → Rest → List (Option Placed) → (slots : ℕ) → List Loan → Option ℕ → Machine → Type 0
Brings m back replaced slots lent target m' = Gives m back replaced slots (slots_lent lent) target m'
