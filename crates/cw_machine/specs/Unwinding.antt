-- Arrays that are handed out are returned to a machine that stopped.
use Rattle.std.specs.Prelude.{◌≡◌, ℕ, ◌+◌, ◌≤◌, ◌<◌, ◌⊎◌, List, [], ◌∷◌, length, Option, Some, slice_get}
use Rattle.cw_slices.specs.Placed.{Placed}
use Rattle.cw_code.specs.Run.{Around, Caller, Block, State}
use Rattle.cw_code.specs.declared.code.Loan.{Loan}
use Rattle.cw_code.specs.Fits.{slots_lent}
use Rattle.cw_runnable.specs.declared.verified.Verified.{Verified}
use Rattle.cw_jobs.specs.Jobs.{KeepsHomes}
use Rattle.cw_machine.specs.declared.machine.Machine.{Machine}
use Rattle.cw_machine.specs.Arrays.{Out, Ok}
use Rattle.cw_machine.specs.RepresentsState.{RepresentsState, Remains}
use Rattle.cw_machine.specs.Rests.{lending}
use Rattle.cw_machine.specs.JobRuns.{KeepsGiven, MayGiveUp}
use Rattle.cw_machine.specs.declared.hands.Lender.{Lender}

-- the arrays that are handed out have cells below this one
abbrev pub LieBelow : List Out → (first : ℕ) → Type 0
LieBelow outs first = (j : ℕ) (q : Out) → slice_get outs j ≡ Some q → q.first + length q.slices ≤ first

-- `level` blocks and calls enclose a waiting call
abbrev pub IsLevel : (level : ℕ) → List Around → Type 0
IsLevel level [] = ⊥
IsLevel level (Caller w ∷ around) = (level ≡ length around) ⊎ IsLevel level around
IsLevel level (Block o ∷ around) = IsLevel level around

-- the arrays that are handed out of calls that fewer blocks and calls enclose are below the arrays that are handed
-- out of a waiting call or of the running call
abbrev pub OutsLieApart : Type 0
OutsLieApart =
    (v : Verified) (ok : Ok v) (m : Machine) (s : State) (i j : ℕ) (o q : Out) → RepresentsState v ok m s
    → slice_get ok.outs i ≡ Some o → slice_get ok.outs j ≡ Some q → q.level < o.level
    → (o.level ≡ length s.around) ⊎ IsLevel o.level s.around → q.first + length q.slices ≤ o.first

-- `Remains` holds for a machine that represents a state
abbrev pub ShownRemain : Type 0
ShownRemain = (v : Verified) (ok : Ok v) (m : Machine) (s : State) → RepresentsState v ok m s → Remains v ok m

-- if nothing is handed out, all that a run was given is at its place and may be given up
abbrev pub RestsAreKept : Type 0
RestsAreKept =
    (v : Verified) (ok : Ok v) (m : Machine) → Remains v ok m → ok.outs ≡ []
    → KeepsGiven ok.given m × MayGiveUp m (length ok.given)

-- slices are returned to a call, the newest one that is handed out: equally many, of the same lengths and at the same
-- places
pub record ComesTo (v : Verified) (ok : Ok v) (o : Out) (m : Machine) (cell slots : ℕ) (lent : List ℕ)
    (back : List Placed) (replaced : List (Option Placed)) : Type 0 where
  pub remains : Remains v (lending ok o) m
  pub first : o.first ≡ cell
  pub slots_are : o.slots ≡ slots
  pub lent_are : o.lent ≡ lent
  pub below : LieBelow ok.outs cell
  pub homes : KeepsHomes o.slices back replaced

-- slices may be returned to some call that is handed out
pub record MayReturnSlices (m : Machine) (cell slots : ℕ) (lent : List ℕ) (back : List Placed)
    (replaced : List (Option Placed)) : Type 0 where
  pub code : Verified
  pub ok : Ok code
  pub out : Out
  pub comes : ComesTo code ok out m cell slots lent back replaced

-- the call to which the slices were returned is no longer handed out
abbrev pub HasReturnedSlices : Machine → (cell slots : ℕ) → (lent : List ℕ) → List Placed → List (Option Placed) → Machine
    → Type 0
HasReturnedSlices m cell slots lent back replaced m' =
    (v : Verified) (ok : Ok v) (o : Out) → ComesTo v ok o m cell slots lent back replaced → Remains v ok m'

-- `MayReturnSlices` and `HasReturnedSlices` for this lender and the slots that were lent by these loans
abbrev pub MayReturn : Machine → Lender → List Loan → List Placed → List (Option Placed) → Type 0
MayReturn m lender lent back replaced = MayReturnSlices m lender.first lender.slots (slots_lent lent) back replaced

abbrev pub Returns : Machine → Lender → List Loan → List Placed → List (Option Placed) → Machine → Type 0
Returns m lender lent back replaced m' = HasReturnedSlices m lender.first lender.slots (slots_lent lent) back replaced m'
