-- Lists form a monoid.
use Rattle.std.specs.Prelude.{◌≡◌, ℤ, List, [], ◌∷◌, ◌++◌, refl}
use Rattle.std.proofs.Common.{ap}

-- the concatenation of two lists
abbrev pub joined : List ℤ → List ℤ → List ℤ
joined a b = a ++ b

pub append-first : (a : List ℤ) → joined [] a ≡ a
append-first a = refl

pub append-last : (a : List ℤ) → joined a [] ≡ a
append-last [] = refl
append-last (x ∷ a) = ap (λ (l : List ℤ). x ∷ l) (append-last a)

pub append-regroup : (a b c : List ℤ) → joined (joined a b) c ≡ joined a (joined b c)
append-regroup [] b c = refl
append-regroup (x ∷ a) b c = ap (λ (l : List ℤ). x ∷ l) (append-regroup a b c)
