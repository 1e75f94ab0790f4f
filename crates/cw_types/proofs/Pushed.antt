-- The view of a list after an element is pushed.
use Rattle.std.proofs.Common.{◌≡◌, List, [], ◌∷◌, ◌++◌, map, refl, ap}

pub map_pushed : {A : Type 0} {B : Type 0} (f : A → B) (xs : List A) (x : A) (rest : List B) →
    map f (xs ++ x ∷ []) ++ rest ≡ map f xs ++ f x ∷ rest
map_pushed f [] x rest = refl
map_pushed f (y ∷ ys) x rest = ap (λ zs. f y ∷ zs) (map_pushed f ys x rest)
