-- Slots of names: the slot of a known name is below the number of names, and distinct names have distinct slots.
use Rattle.std.proofs.Common.{◌≡◌, suc, ◌<◌, ◌==◌, Bool, true, false, ◌||◌, if◌then◌else◌, List, [], ◌∷◌, ◌++◌, ℕ}
use Rattle.std.proofs.Common.{length, refl, sym, ap, ◌∙◌, arith}
use Rattle.std.proofs.lemmas.Slice.Eq.{bytes_eq-Decides}
use Rattle.cw_model.specs.Syntax.{Name}
use Rattle.cw_model.specs.Names.{same_name, is_among}
use Rattle.cw_model.specs.lemmas.Names.{turned}
use Rattle.cw_tree.specs.Resolved.{slot_of, Use, first_uses, with_first}
use Rattle.cw_facts.specs.Tests.{suc_same, suc_not, not_suc}

same_as_third : (x y z : Name) → same_name x z ≡ true → same_name y z ≡ same_name y x
same_as_third x y z h = ap (λ w. same_name y w) (sym ((bytes_eq-Decides x z).0 h))

not_same : (x y z : Name) → same_name z y ≡ true → same_name x y ≡ false → same_name z x ≡ false
not_same x y z ea eb = turned z x ∙ ap (λ w. same_name x w) ((bytes_eq-Decides z y).0 ea) ∙ eb

-- two names, one of them known, have the same slot exactly if they are equal
pub one_slot : (z x : Name) (names : List Name) → is_among x names ≡ true
    → (slot_of z names == slot_of x names) ≡ same_name z x
one_slot z x [] h = cc
one_slot z x (y ∷ names) h = first (same_name z y) (same_name x y) refl refl (one_slot z x names) h
  where
    first : (a b : Bool) → same_name z y ≡ a → same_name x y ≡ b
        → (is_among x names ≡ true → (slot_of z names == slot_of x names) ≡ same_name z x) →
        (if b then true else is_among x names) ≡ true
        → ((if a then 0 else suc (slot_of z names)) == (if b then 0 else suc (slot_of x names))) ≡ same_name z x
    first true true ea eb h g = sym (sym (same_as_third x z y eb) ∙ ea)
    first true false ea eb h g = not_suc (slot_of x names) ∙ sym (not_same x y z ea eb)
    first false true ea eb h g = suc_not (slot_of z names) ∙ sym (sym (same_as_third x z y eb) ∙ ea)
    first false false ea eb h g = suc_same (slot_of z names) (slot_of x names) ∙ h g

-- the slot of a known name is below the number of names
pub slot_in : (x : Name) (names : List Name) → is_among x names ≡ true → slot_of x names < length names
slot_in x [] h = cc
slot_in x (y ∷ names) h = first (same_name x y) (slot_in x names) h
  where
    first : (b : Bool) → (is_among x names ≡ true → slot_of x names < length names)
        → (if b then true else is_among x names) ≡ true → (if b then 0 else suc (slot_of x names)) < suc (length names)
    first true f g = omega arith
    first false f g = let e = f g in omega (arith, e)

pub slot_out : (x : Name) (names : List Name) → is_among x names ≡ false → slot_of x names ≡ length names
slot_out x [] h = refl
slot_out x (y ∷ names) h = first (same_name x y) (slot_out x names) h
  where
    first : (b : Bool) → (is_among x names ≡ false → slot_of x names ≡ length names)
        → (if b then true else is_among x names) ≡ false → (if b then 0 else suc (slot_of x names)) ≡ suc (length names)
    first true f g = cc
    first false f g = ap suc (f g)

-- a name is among names with one appended exactly if it is among them or is the appended one
pub among_push : (x : Name) (names : List Name) (y : Name)
    → is_among x (names ++ y ∷ []) ≡ (is_among x names || same_name x y)
among_push x [] y = alone (same_name x y)
  where
    alone : (b : Bool) → (if b then true else false) ≡ b
    alone true = refl
    alone false = refl
among_push x (z ∷ names) y = first (same_name x z) (among_push x names y)
  where
    first : (b : Bool) → is_among x (names ++ y ∷ []) ≡ (is_among x names || same_name x y) →
        (if b then true else is_among x (names ++ y ∷ [])) ≡ ((if b then true else is_among x names) || same_name x y)
    first true h = refl
    first false h = h

-- appending names keeps the slot of a known name
pub slot_stays : (x : Name) (names more : List Name) → is_among x names ≡ true
    → slot_of x (names ++ more) ≡ slot_of x names
slot_stays x [] more h = cc
slot_stays x (y ∷ names) more h = first (same_name x y) (slot_stays x names more) h
  where
    first : (b : Bool) → (is_among x names ≡ true → slot_of x (names ++ more) ≡ slot_of x names)
        → (if b then true else is_among x names) ≡ true →
        (if b then 0 else suc (slot_of x (names ++ more))) ≡ (if b then 0 else suc (slot_of x names))
    first true f g = refl
    first false f g = ap suc (f g)

-- the first uses of a concatenation are computed list by list
pub uses_append : (n : ℕ) (found xs ys : List Use) → first_uses n found (xs ++ ys) ≡ first_uses n (first_uses n found xs) ys
uses_append n found [] ys = refl
uses_append n found (x ∷ xs) ys = uses_append n (with_first n found x) xs ys
