-- The continuation of a block is handed out at a spawn: arrays of the caller are handed out, and the machine still
-- represents the same state.
use Rattle.std.specs.Prelude.{◌≡◌, ◌⊎◌, ℕ, zero, suc, ◌+◌, ◌-◌, ◌<◌, ◌≤◌, ℤ, Bool, true, false, if◌then◌else◌, nat_lt}
use Rattle.std.specs.Prelude.{nat_eq, List, [], ◌∷◌, ◌++◌, length, map, replicate, reverse, Some, slice_get}
use Rattle.std.specs.Prelude.{slice_set}
use Rattle.cw_slices.specs.Placed.{Placed, IsOwn, after, shared_after}
use Rattle.cw_slices.specs.Blocks.{Lodged, outs, patched, Have, AreIn, AreAlike, AreHalved}
use Rattle.cw_model.specs.declared.syntax.CallKind.TheVariants.{Spawned}
use Rattle.cw_code.specs.declared.code.Loan.{Loan}
use Rattle.cw_code.specs.Code.{code_view}
use Rattle.cw_code.specs.Run.{slot_taken, Waiting, Around, Caller, Block, State}
use Rattle.cw_code.specs.Fits.{slots_lent}
use Rattle.cw_code.specs.Strands.{rest_of}
use Rattle.cw_jobs.specs.declared.call.Extent.TheVariants as extent
use Rattle.cw_jobs.specs.declared.call.Parts.{Parts}
use Rattle.cw_jobs.specs.declared.call.Rest.{Rest}
use Rattle.cw_jobs.specs.Cuts.{AreNone}
use Rattle.cw_jobs.specs.Jobs.{IsJob}
use Rattle.cw_runnable.specs.declared.verified.Verified.{Verified}
use Rattle.cw_machine.specs.declared.machine.Frame.{Frame}
use Rattle.cw_machine.specs.declared.machine.Machine.{Machine}
use Rattle.cw_machine.specs.declared.machine.View.{View}
use Rattle.cw_machine.specs.Arrays.{Out, Ok, AllAbove, is_among, shares_slice, view, block, lent_before, KeepsLent}
use Rattle.cw_machine.specs.RepresentsState.{cell, Comes, RepresentsState, SharesFrozen, StaysBut}
use Rattle.cw_machine.specs.Rests.{lending, AreBare}
use Rattle.cw_machine.specs.declared.hands.Lender.{Lender}

-- a cell is one of the cells of arrays that are cut, the newest first, before the first one below `first`: the newest
-- belong to the nearest waiting call, and the cells of older calls are below its first cell
abbrev pub is_cut_among : (cell first : ℕ) → List ℕ → Bool
is_cut_among cell first [] = false
is_cut_among cell first (c ∷ cells) =
    if nat_lt c first then false else (if nat_eq c cell then true else is_cut_among cell first cells)

-- the array in a slot of the call at `first` is not handed out: the spawn took it, or an open cut of that call has it
abbrev pub stays_here : (cuts : List ℕ) (first : ℕ) (passed : List ℕ) (slot : ℕ) → Bool
stays_here cuts first passed a =
    if is_among a passed then true else is_cut_among (first + a) first (reverse cuts)

-- the last of the frames of the waiting calls
abbrev pub IsLast : List Frame → Frame → Type 0
IsLast frames f = slice_get frames (length frames - 1) ≡ Some f

-- how many numbers of an array are lent
abbrev pub lent_count : (stays : Bool) (len : ℕ) → ℕ
lent_count true len = 0
lent_count false len = len

-- an array is in a machine's own blocks, all of it in
pub record HasAll (views : List View) (blocks : List Lodged) (cell : ℕ) : Type 0 where
  pub there : (view views cell).block < length blocks
  pub within : (view views cell).from + (view views cell).len ≤ length (block blocks (view views cell).block).cells
  pub all : AreIn (block blocks (view views cell).block).cells (view views cell).from (view views cell).len

-- the rights to the places of the block of a view
abbrev pub rights_at : List Lodged → View → List ℕ
rights_at blocks w = (block blocks w.block).rights

-- the array of a cell may be lent, if there is one to lend: no share of it is out
pub record MayLend (m : Machine) (cell : ℕ) (stays : Bool) : Type 0 where
  pub seen : cell < length m.views.items
  pub there : 0 < lent_count stays (view m.views.items cell).len → HasAll m.views.items m.blocks.items cell
  pub whole : 0 < lent_count stays (view m.views.items cell).len →
      let w = view m.views.items cell in
      AreHalved (rights_at m.blocks.items w) w.from w.len (block m.blocks.items w.block).spot.halved

-- the array of a cell may be shared, if there is one: all its places are shared equally often
pub record MayShare (m : Machine) (cell : ℕ) : Type 0 where
  pub seen : cell < length m.views.items
  pub there : 0 < (view m.views.items cell).len → HasAll m.views.items m.blocks.items cell
  pub alike : 0 < (view m.views.items cell).len →
      let w = view m.views.items cell in AreAlike (rights_at m.blocks.items w) w.from w.len

-- the blocks after `count` numbers from the beginning of a view on were lent
abbrev pub parted : List Lodged → View → (count : ℕ) → List Lodged
parted blocks w zero = blocks
parted blocks w (suc n) =
    let old = block blocks w.block in
    slice_set blocks w.block
    (record { cells = patched w.from (outs (suc n)) old.cells; rights = old.rights; spot = old.spot })

-- the blocks after the right to `count` places from the beginning of a view on was halved, `times` times in total
abbrev pub shared_by : List Lodged → View → (count times : ℕ) → List Lodged
shared_by blocks w zero d = blocks
shared_by blocks w (suc n) d =
    let old = block blocks w.block in
    slice_set blocks w.block
    (record { cells = old.cells; rights = patched w.from (replicate (suc n) d) old.rights; spot = old.spot })

-- the array of a cell is lent, unless it stays, and nothing else changed
pub record HasLentOut (m : Machine) (cell : ℕ) (stays : Bool) (p : Placed) (m' : Machine) : Type 0 where
  pub bare : length p.items ≡ 0 → IsOwn p
  pub count : length p.items ≡ lent_count stays (view m.views.items cell).len
  pub items : 0 < length p.items
      → Have (block m.blocks.items (view m.views.items cell).block).cells (view m.views.items cell).from p.items
  pub place : 0 < length p.items
      → p.spot ≡ after (view m.views.items cell).from (block m.blocks.items (view m.views.items cell).block).spot
  pub blocks : m'.blocks.items ≡ parted m.blocks.items (view m.views.items cell) (length p.items)
  pub views : m'.views.items ≡ m.views.items
  pub rest : StaysBut m m'

-- the array of a cell is shared, and nothing else changed
pub record HasShared (m : Machine) (cell : ℕ) (p : Placed) (m' : Machine) : Type 0 where
  pub bare : length p.items ≡ 0 → IsOwn p
  pub count : length p.items ≡ (view m.views.items cell).len
  pub items : 0 < length p.items
      → Have (block m.blocks.items (view m.views.items cell).block).cells (view m.views.items cell).from p.items
  pub place : 0 < length p.items → p.spot
      ≡ shared_after (view m.views.items cell).from p.spot.halved
      (block m.blocks.items (view m.views.items cell).block).spot
  pub right : 0 < length p.items →
      let w = view m.views.items cell in
      (d : ℕ) × (p.spot.halved ≡ suc d) × AreHalved (rights_at m.blocks.items w) w.from w.len d
  pub blocks : m'.blocks.items ≡ shared_by m.blocks.items (view m.views.items cell) (length p.items) p.spot.halved
  pub views : m'.views.items ≡ m.views.items
  pub rest : StaysBut m m'

-- the slice of this number of a call at `first` may be handed out, as a share or not
abbrev pub MayHandOne : Machine → (first slice : ℕ) → (shared : Bool) → (passed : List ℕ) → Type 0
MayHandOne m first a true passed = MayShare m (first + a)
MayHandOne m first a false passed = MayLend m (first + a) (stays_here m.cuts.items first passed a)

-- the slice of this number was handed out
abbrev pub HasHanded : Machine → (first slice : ℕ) → (shared : Bool) → (passed : List ℕ) → Placed → Machine → Type 0
HasHanded m first a true passed p m' = HasShared m (first + a) p m'
HasHanded m first a false passed p m' = HasLentOut m (first + a) (stays_here m.cuts.items first passed a) p m'

-- the slices of a waiting call that are handed out: `level` blocks and calls enclose it, its cells are from `first`
-- to `floor`, `slots` of the slices belong to slots, and the slots `lent` were lent to the spawned call
abbrev pub out_of : (level first floor slots : ℕ) → (lent : List ℕ) → List Placed → Out
out_of level first floor slots lent slices =
    record { level = level; first = first; floor = floor; slots = slots; lent = lent; slices = slices }

-- the values that wait for the joins of the open blocks of a call are in the cells of its slots
abbrev pub ComesRound : List ℤ → (first slots : ℕ) → List Around → Type 0
ComesRound cells first slots [] = Unit {0}
ComesRound cells first slots (Caller w ∷ around) = Unit {0}
ComesRound cells first slots (Block o ∷ around) =
    Comes cells first slots o.results × ComesRound cells first slots around

-- the caller, whose first array slot has cell `first`, is handed out: the machine represents the same state with the
-- caller's arrays handed out; the continuation, as parts with extent `ToJoin`, is the job of the remaining block;
-- what waits for the joins of that call is also in the continuation; and the continuation has nothing that the spawn
-- took
pub record HandedOut (v : Verified) (ok : Ok v) (m : Machine) (s : State) (w : Waiting) (around : List Around)
    (passed : List ℕ) (lent : List Loan) (first slots : ℕ) (m' : Machine) (r : Rest) : Type 0 where
  pub slots_are : slots ≡ length w.arrays
  pub shows : RepresentsState v
      (lending ok (out_of (length around) first m.first_array (length w.arrays) (slots_lent lent) r.slices.items)) m' s
  pub job : (p : Parts) → p.rest ≡ r → p.extent ≡ extent.ToJoin → IsJob v ok.verified p (rest_of w p.limit p.before)
  pub comes : Comes r.cells.items 0 (length w.slots) w.results × ComesRound r.cells.items 0 (length w.slots) around
  pub taken : AreNone r.slices.items passed

-- a spawn has just begun its call: the caller waits, without operands; the arrays of these slots were taken; these
-- arrays were lent, and the caller keeps them; everything that is handed out belongs to calls below the caller; and
-- the first call of the run only reads the shares that it was given
pub record Hands (v : Verified) (ok : Ok v) (m : Machine) (s : State) (w : Waiting) (around : List Around)
    (passed : List ℕ) (lent : List Loan) : Type 0 where
  pub shows : RepresentsState v ok m s
  pub is : s.around ≡ Caller w ∷ around
  pub spawned : w.kind ≡ Spawned
  pub none : w.operands ≡ []
  pub taken : map slot_taken w.taken ≡ passed
  pub loans : lent_before (code_view v.code) w.place ≡ slots_lent lent
  pub kept : KeepsLent v ok.verified w (slots_lent lent)
  pub above : AllAbove ok.outs (length around)
  pub frozen : SharesFrozen v ok s

-- a machine may hand out its caller
pub record MayHand (code : Verified) (m : Machine) (passed : List ℕ) (lent : List Loan) : Type 0 where
  pub ok : Ok code
  pub state : State
  pub waiting : Waiting
  pub around : List Around
  pub hands : Hands code ok m state waiting around passed lent

-- a machine may hand out the arrays of its caller, which has `count` arrays from cell `first` on: `slots` of them are
-- of its slots, the others it reads
pub record MayHandArrays (m : Machine) (first : ℕ) (passed : List ℕ) (lent : List Loan) (slots count : ℕ) : Type 0
  where
    pub code : Verified
    pub may : MayHand code m passed lent
    pub ends : first + count ≡ m.first_array
    pub slots_are : slots ≡ length may.waiting.arrays
    pub as_many : count ≡ length may.waiting.arrays + length may.waiting.readers

-- the number of elements in the slice of an array: all of a share, otherwise what does not stay
abbrev pub handed_count : (shared stays : Bool) → (len : ℕ) → ℕ
handed_count true stays len = len
handed_count false stays len = lent_count stays len

-- a slice has the machine's right to its places, or it has no places and one owner
abbrev pub IsAsOwn : Machine → (cell : ℕ) → Placed → Type 0
IsAsOwn m cell p = IsOwn p ⊎ (p.spot.halved ≡ (block m.blocks.items (view m.views.items cell).block).spot.halved)

-- the arrays of the caller are handed out as these slices, each with the part of its array that does not stay
pub record HandsArrays (m : Machine) (first : ℕ) (passed : List ℕ) (lent : List Loan) (slots : ℕ) (m' : Machine)
    (slices : List Placed) : Type 0 where
  pub stays : StaysBut m m'
  pub bare : (a : ℕ) (p : Placed) → slice_get slices a ≡ Some p → length p.items ≡ 0 → IsOwn p
  pub own : (a : ℕ) (p : Placed) → slice_get slices a ≡ Some p → shares_slice slots (slots_lent lent) a ≡ false
      → IsAsOwn m (first + a) p
  pub shares : (a : ℕ) (p : Placed) → slice_get slices a ≡ Some p → shares_slice slots (slots_lent lent) a ≡ true
      → 0 < length p.items → 0 < p.spot.halved
  pub counts : (a : ℕ) (p : Placed) → slice_get slices a ≡ Some p → length p.items
      ≡ handed_count (shares_slice slots (slots_lent lent) a) (stays_here m.cuts.items first passed a)
      (view m.views.items (first + a)).len
  pub shows : (v : Verified) (ok : Ok v) (s : State) (w : Waiting) (around : List Around)
      → Hands v ok m s w around passed lent → first + length slices ≡ m.first_array → slots ≡ length w.arrays
      → length slices ≡ length w.arrays + length w.readers
      → RepresentsState v (lending ok (out_of (length around) first m.first_array slots (slots_lent lent) slices)) m' s

-- `MayHandArrays` and `HandsArrays` for this lender
abbrev pub MayHandAll : Machine → Lender → List ℕ → List Loan → List Placed → Type 0
MayHandAll m lender passed lent slices = MayHandArrays m lender.first passed lent lender.slots (length slices)

abbrev pub HandsAll : Machine → Lender → List ℕ → List Loan → Machine → List Placed → Type 0
HandsAll m lender passed lent m' slices = HandsArrays m lender.first passed lent lender.slots m' slices

-- each state of this code that the machine represented it represents with the caller handed out
abbrev pub HandsOut : Verified → Machine → List ℕ → List Loan → (first slots : ℕ) → Machine → Rest → Type 0
HandsOut v m passed lent first slots m' r =
    (ok : Ok v) (s : State) (w : Waiting) (around : List Around)
    → Hands v ok m s w around passed lent → HandedOut v ok m s w around passed lent first slots m' r

abbrev pub Lends : Verified → Machine → List ℕ → List Loan → Machine → Rest → Lender → Type 0
Lends v m passed lent m' r lender = HandsOut v m passed lent lender.first lender.slots m' r

-- slices without numbers are appended
abbrev pub HasMoreBare : List Placed → List Placed → Type 0
HasMoreBare slices slices' = (more : List Placed) × AreBare more × (slices' ≡ slices ++ more)

-- a continuation is unchanged, but may have more slices without numbers
pub record HasGrown (r r' : Rest) : Type 0 where
  pub place : r'.place ≡ r.place
  pub depth : r'.depth ≡ r.depth
  pub cells : r'.cells.items ≡ r.cells.items
  pub slices : HasMoreBare r.slices.items r'.slices.items
