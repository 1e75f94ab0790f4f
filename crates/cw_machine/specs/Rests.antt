-- Arrays of the running call that were handed out while it waited are returned.
use Rattle.std.specs.Prelude.{◌≡◌, ℕ, zero, suc, ◌+◌, ◌-◌, ◌<◌, ◌≤◌, ℤ, Bool, true, false, List, [], ◌∷◌, length}
use Rattle.std.specs.Prelude.{replicate, Some, slice_get, slice_set}
use Rattle.cw_slices.specs.Placed.{Placed, after, shared_after}
use Rattle.cw_slices.specs.Blocks.{Lodged, ins, patched, AreOut, AreHalved, Have}
use Rattle.cw_code.specs.Run.{State}
use Rattle.cw_code.specs.declared.code.Loan.{Loan}
use Rattle.cw_code.specs.Fits.{slots_lent}
use Rattle.cw_runnable.specs.declared.verified.Verified.{Verified}
use Rattle.cw_machine.specs.declared.machine.Machine.{Machine}
use Rattle.cw_machine.specs.declared.machine.View.{View}
use Rattle.cw_machine.specs.Arrays.{Out, Ok, AllAbove, view, block}
use Rattle.cw_machine.specs.RepresentsState.{RepresentsState, StaysBut}

-- `ok` with these arrays handed out
abbrev pub with_outs : {v : Verified} → Ok v → List Out → Ok v
with_outs ok outs =
    record {
      verified = ok.verified;
      outer = ok.outer;
      params = ok.params;
      home = ok.home;
      given = ok.given;
      slots = ok.slots;
      outs = outs;
    }

-- `ok` with the arrays of one more call handed out
abbrev pub lending : {v : Verified} → Ok v → Out → Ok v
lending ok o = with_outs ok (o ∷ ok.outs)

-- a machine represents a state while these slices of the running call are handed out, `slots` of them of slots, of
-- which `lent` were lent to the spawned call; everything else that is handed out belongs to waiting calls
pub record IsLending (v : Verified) (ok : Ok v) (o : Out) (m : Machine) (s : State) (slots : ℕ) (lent : List ℕ)
    (slices : List Placed) : Type 0 where
  pub shows : RepresentsState v (lending ok o) m s
  pub above : AllAbove ok.outs (length s.around)
  pub level : o.level ≡ length s.around
  pub slots_are : o.slots ≡ slots
  pub lent_are : o.lent ≡ lent
  pub are : o.slices ≡ slices

-- a machine represents some state while these slices of the running call are handed out
pub record MayTake (m : Machine) (slots : ℕ) (lent : List ℕ) (slices : List Placed) : Type 0 where
  pub code : Verified
  pub ok : Ok code
  pub out : Out
  pub state : State
  pub lends : IsLending code ok out m state slots lent slices

-- each state that a machine represented while these slices were handed out it represents after they are returned
abbrev pub TakesBack : Machine → (slots : ℕ) → (lent : List ℕ) → List Placed → Machine → Type 0
TakesBack m slots lent slices m' =
    (v : Verified) (ok : Ok v) (o : Out) (s : State) → IsLending v ok o m s slots lent slices → RepresentsState v ok m' s

-- `TakesBack` for the slots that were lent by these loans
abbrev pub TakesHome : Machine → (slots : ℕ) → List Loan → List Placed → Machine → Type 0
TakesHome m slots lent slices m' = TakesBack m slots (slots_lent lent) slices m'

-- all slices are without numbers
abbrev pub AreBare : List Placed → Type 0
AreBare slices = (a : ℕ) (p : Placed) → slice_get slices a ≡ Some p → p.items ≡ []

-- a slice was lent from the beginning of a view on, and is out
pub record HasGap (views : List View) (blocks : List Lodged) (cell : ℕ) (p : Placed) : Type 0 where
  pub seen : cell < length views
  pub there : (view views cell).block < length blocks
  pub within : (view views cell).from + length p.items ≤ length (block blocks (view views cell).block).cells
  pub out : AreOut (block blocks (view views cell).block).cells (view views cell).from (length p.items)
  pub whole : AreHalved (block blocks (view views cell).block).rights (view views cell).from (length p.items)
      (block blocks (view views cell).block).spot.halved
  pub place : p.spot ≡ after (view views cell).from (block blocks (view views cell).block).spot

-- a slice is the newest share of the array in a view
pub record HasHalf (views : List View) (blocks : List Lodged) (cell : ℕ) (p : Placed) : Type 0 where
  pub seen : cell < length views
  pub there : (view views cell).block < length blocks
  pub within : (view views cell).from + length p.items ≤ length (block blocks (view views cell).block).cells
  pub same : Have (block blocks (view views cell).block).cells (view views cell).from p.items
  pub newest : AreHalved (block blocks (view views cell).block).rights (view views cell).from (length p.items)
      p.spot.halved
  pub out : (block blocks (view views cell).block).spot.halved < p.spot.halved
  pub place : p.spot
      ≡ shared_after (view views cell).from p.spot.halved (block blocks (view views cell).block).spot

abbrev pub HasPlace : (shared : Bool) → List View → List Lodged → (cell : ℕ) → Placed → Type 0
HasPlace true views blocks cell p = HasHalf views blocks cell p
HasPlace false views blocks cell p = HasGap views blocks cell p

-- a slice, a share or not, may be returned to the array of a cell; a slice without numbers always may
abbrev pub MayLay : Machine → (cell : ℕ) → (shared : Bool) → Placed → Type 0
MayLay m cell shared p = 0 < length p.items → HasPlace shared m.views.items m.blocks.items cell p

-- the blocks after numbers were put at the beginning of a view
abbrev pub laid : List Lodged → View → List ℤ → List Lodged
laid blocks w [] = blocks
laid blocks w (x ∷ xs) =
    let old = block blocks w.block in
    slice_set blocks w.block
    (record { cells = patched w.from (ins (x ∷ xs)) old.cells; rights = old.rights; spot = old.spot })

-- the blocks after the right to `count` places from the beginning of a view on was merged once
abbrev pub merged : List Lodged → View → (count times : ℕ) → List Lodged
merged blocks w zero d = blocks
merged blocks w (suc n) d =
    let old = block blocks w.block in
    slice_set blocks w.block
    (record { cells = old.cells; rights = patched w.from (replicate (suc n) (d - 1)) old.rights; spot = old.spot })

-- the blocks after a slice was returned at a view: its numbers, or the right to them if it is a share
abbrev pub laid_by : (shared : Bool) → List Lodged → View → Placed → List Lodged
laid_by true blocks w p = merged blocks w (length p.items) p.spot.halved
laid_by false blocks w p = laid blocks w p.items

-- a slice was returned to the array of a cell, and nothing else changed
pub record HasLaid (m : Machine) (cell : ℕ) (shared : Bool) (p : Placed) (m' : Machine) : Type 0 where
  pub blocks : m'.blocks.items ≡ laid_by shared m.blocks.items (view m.views.items cell) p
  pub views : m'.views.items ≡ m.views.items
  pub rest : StaysBut m m'
