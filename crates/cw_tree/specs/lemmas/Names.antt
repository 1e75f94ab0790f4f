-- Names, lists of names, and the functions that names call.
use Rattle.std.proofs.Common.{◌≡◌, Bool, true, false, ◌||◌, if◌then◌else◌, Some, List, [], ◌∷◌, ◌++◌, refl, ap}
use Rattle.cw_model.specs.Syntax.{Name, Function}
use Rattle.cw_model.specs.Names.{same_name, is_among}
use Rattle.cw_model.specs.Meaning.{function_named}
use Rattle.cw_model.specs.Typing.{called}
use Rattle.cw_model.specs.lemmas.Names.{same_itself}

pub among_append : (x : Name) (xs ys : List Name) → is_among x (xs ++ ys) ≡ (is_among x xs || is_among x ys)
among_append x [] ys = refl
among_append x (y ∷ xs) ys = first (same_name x y) (among_append x xs ys)
  where
    first : (b : Bool) → is_among x (xs ++ ys) ≡ (is_among x xs || is_among x ys) →
        (if b then true else is_among x (xs ++ ys)) ≡ ((if b then true else is_among x xs) || is_among x ys)
    first true h = refl
    first false h = h

pub among_more : (x y : Name) (names : List Name) → is_among x names ≡ true → is_among x (names ++ y ∷ []) ≡ true
among_more x y [] h = cc
among_more x y (z ∷ names) h = first (same_name x z) h (among_more x y names)
  where
    first : (b : Bool) → (if b then true else is_among x names) ≡ true → (is_among x names ≡ true → is_among x (names ++ y ∷ []) ≡ true) →
        (if b then true else is_among x (names ++ y ∷ [])) ≡ true
    first true h' more = refl
    first false h' more = more h'

-- the function that a name calls is the function with this name
pub called_is : (f : Name) (fs : List Function) (g : Function) → called f fs ≡ Some g → function_named f fs ≡ g
called_is f [] g h = absurd cc
called_is f (k ∷ fs) g h = go (same_name f k.name) h (λ p. called_is f fs g p)
  where
    go : (b : Bool) → (if b then Some k else called f fs) ≡ Some g → (called f fs ≡ Some g → function_named f fs ≡ g) →
        (if b then k else function_named f fs) ≡ g
    go true p more = cc
    go false p more = more p

pub front_among : (x : Name) (xs : List Name) → is_among x (x ∷ xs) ≡ true
front_among x xs = ap (λ b. if b then true else is_among x xs) (same_itself x)

pub later_among : (x y : Name) (xs : List Name) → is_among x xs ≡ true → is_among x (y ∷ xs) ≡ true
later_among x y xs h = go (same_name x y)
  where
    go : (b : Bool) → (if b then true else is_among x xs) ≡ true
    go true = refl
    go false = h
