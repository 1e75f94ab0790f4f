-- The consequences of a rule that no line breaks, and lists whose elements all have a property.
use Rattle.std.proofs.Common.{◌≡◌, suc, List, [], ◌∷◌, ◌++◌, Bool, true, false, if◌then◌else◌, Some, refl, sym, ap}
use Rattle.std.specs.Prelude.{map, slice_get}
use Rattle.std.proofs.lemmas.Slice.Eq.{bytes_eq-Decides}
use Rattle.cw_model.specs.Syntax.{Name, Function}
use Rattle.cw_model.specs.Names.{same_name, is_among}
use Rattle.cw_tree.specs.Resolved.{slot_of}
use Rattle.cw_gen.proofs.Fine.{IsListed, is_function}
-- each element has this property
pub use Rattle.cw_facts.specs.Lists.{Each}

-- each element of each part of a list has this property
pub each_front : {A : Type 0} (P : A → Type 0) (xs ys : List A) → Each P (xs ++ ys) → Each P xs
each_front P [] ys h = tt
each_front P (x ∷ xs) ys h = (h.0, each_front P xs ys h.1)

pub each_rear : {A : Type 0} (P : A → Type 0) (xs ys : List A) → Each P (xs ++ ys) → Each P ys
each_rear P [] ys h = h
each_rear P (x ∷ xs) ys h = each_rear P xs ys h.1

-- a name of a list is found at its index
pub listed_there : (x : Name) (names : List Name) → is_among x names ≡ true → IsListed names x
listed_there x [] h = cc
listed_there x (y ∷ names) h = test (listed_there x names) (same_name x y) refl h
  where
    test : (is_among x names ≡ true → IsListed names x) → (b : Bool) → same_name x y ≡ b → (if b then true else is_among x names) ≡ true
        → slice_get (y ∷ names) (if b then 0 else suc (slot_of x names)) ≡ Some x
    test more true e h' = ap (λ n. Some n) (sym ((bytes_eq-Decides x y).0 e))
    test more false e h' = more h'

-- a name among the names of functions is the name of a function
pub function_there : (name : Name) (fs : List Function) → is_among name (map (λ f. f.name) fs) ≡ true → is_function name fs ≡ true
function_there name [] h = cc
function_there name (f ∷ fs) h = test (function_there name fs) (same_name name f.name) h
  where
    test : (is_among name (map (λ g. g.name) fs) ≡ true → is_function name fs ≡ true) → (b : Bool)
        → (if b then true else is_among name (map (λ g. g.name) fs)) ≡ true → (if b then true else is_function name fs) ≡ true
    test more true h' = refl
    test more false h' = more h'
