-- The sum of updates in two pieces.
use Rattle.std.proofs.Common.{◌≡◌, ℤ, ◌+ℤ◌, Bool, true, false, if◌then◌else◌, List, [], ◌∷◌, ◌++◌, sym, ap, ◌∙◌}
use Rattle.std.proofs.Math.IntN.{+ℤ_assoc, +ℤ_idl}
use Rattle.cw_model.specs.Syntax.{Name}
use Rattle.cw_model.specs.Names.{same_name}
use Rattle.cw_model.specs.Answers.{sum_to}

pub sum_append : (name : Name) (a b : List (Name × ℤ)) → sum_to name (a ++ b) ≡ sum_to name a +ℤ sum_to name b
sum_append name [] b = sym (+ℤ_idl (sum_to name b))
sum_append name (x ∷ a) b = at (same_name name x.0) (sum_append name a b)
  where
    at : (c : Bool) → sum_to name (a ++ b) ≡ sum_to name a +ℤ sum_to name b
        → (if c then x.1 +ℤ sum_to name (a ++ b) else sum_to name (a ++ b)) ≡ (if c then x.1 +ℤ sum_to name a else sum_to name a) +ℤ sum_to name b
    at true h = ap (λ z. x.1 +ℤ z) h ∙ sym (+ℤ_assoc x.1 (sum_to name a) (sum_to name b))
    at false h = h
