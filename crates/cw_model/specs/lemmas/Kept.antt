-- Rules that are kept: if a concatenation of lines is empty, both lists are.
use Rattle.std.proofs.Common.{◌≡◌, ℕ, Bool, true, false, List, [], ◌∷◌, ◌++◌, refl}
use Rattle.cw_model.specs.Lines.{unless}

pub left_none : (xs ys : List ℕ) → xs ++ ys ≡ [] → xs ≡ []
left_none [] ys h = refl
left_none (x ∷ xs) ys h = cc

pub right_none : (xs ys : List ℕ) → xs ++ ys ≡ [] → ys ≡ []
right_none [] ys h = h
right_none (x ∷ xs) ys h = cc

-- a rule is kept if it has no line
pub kept : (b : Bool) (line : ℕ) → unless b line ≡ [] → b ≡ true
kept true line h = refl
kept false line h = cc
