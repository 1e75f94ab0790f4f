-- The cuts that are open in a call.
use Rattle.std.specs.Prelude.{◌≡◌, ◌≢◌, ℕ, ◌<◌, ◌≤◌, List, [], ◌∷◌, ◌++◌, Option, Some, None, slice_get}
use Rattle.cw_slices.specs.Placed.{Placed}
use Rattle.cw_code.specs.declared.code.Halves.{Halves}
use Rattle.cw_code.specs.Run.{Results, Around, Caller, Block}
use Rattle.cw_code.specs.Good.{IsNotAmong, slot_cut}

-- the slots of the parts of a cut
abbrev pub parts_in : Option Halves → List ℕ
parts_in None = []
parts_in (Some h) = h.left ∷ h.right ∷ []

-- the slots of the parts of all cuts that are open in the same call
abbrev pub parts_round : List Around → List ℕ
parts_round [] = []
parts_round (Caller w ∷ around) = []
parts_round (Block o ∷ around) = parts_in o.cut ++ parts_round around

-- the slots of the arrays that are cut in the same call
abbrev pub cut_slots : List Around → List ℕ
cut_slots [] = []
cut_slots (Caller w ∷ around) = []
cut_slots (Block o ∷ around) = slot_cut o.cut ++ cut_slots around

-- the slots of a cut exist and differ, and its parts are in no slot of a parameter or of a part of an enclosing cut
pub record IsCutValid (slots params : ℕ) (h : Halves) (parts : List ℕ) : Type 0 where
  pub array_there : h.array < slots
  pub left_there : h.left < slots
  pub right_there : h.right < slots
  pub differ : (h.left ≢ h.array) × (h.right ≢ h.array) × (h.left ≢ h.right)
  pub left_apart : IsNotAmong h.left parts
  pub right_apart : IsNotAmong h.right parts
  pub left_own : params ≤ h.left
  pub right_own : params ≤ h.right

abbrev pub IsCutValidIn : (slots params : ℕ) → Option Halves → (parts : List ℕ) → Type 0
IsCutValidIn slots params None parts = Unit {0}
IsCutValidIn slots params (Some h) parts = IsCutValid slots params h parts

-- each open cut of a call with `slots` array slots and `params` parameters satisfies `IsCutValid`
abbrev pub AreCutsValid : (slots params : ℕ) → List Around → Type 0
AreCutsValid slots params [] = Unit {0}
AreCutsValid slots params (Caller w ∷ around) = Unit {0}
AreCutsValid slots params (Block o ∷ around) =
    IsCutValidIn slots params o.cut (parts_round around) × AreCutsValid slots params around

-- the slices of these slots have no numbers
abbrev pub AreNone : List Placed → List ℕ → Type 0
AreNone slices slots = (k a : ℕ) (p : Placed) → slice_get slots k ≡ Some a → slice_get slices a ≡ Some p → p.items ≡ []

-- the slots that wait for values exist
abbrev pub AreThere : {A : Type 0} → (slots : ℕ) → Results A → Type 0
AreThere slots [] = Unit {0}
AreThere slots (r ∷ results) = (r.0 < slots) × AreThere slots results

-- the slots that wait for values exist in all blocks that enclose this one in the same call
abbrev pub RoundThere : (slots arrays : ℕ) → List Around → Type 0
RoundThere slots arrays [] = Unit {0}
RoundThere slots arrays (Caller w ∷ around) = Unit {0}
RoundThere slots arrays (Block o ∷ around) =
    AreThere slots o.results × AreThere arrays o.arrived × RoundThere slots arrays around
