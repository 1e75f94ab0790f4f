-- Equal names and distinct names.
use Rattle.std.proofs.Common.{◌≡◌, Bool, true, false, List, ◌∷◌, refl, sym}
use Rattle.std.specs.Prelude.{if◌then◌else◌}
use Rattle.cw_model.specs.Syntax.{Name}
use Rattle.cw_model.specs.Names.{same_name, is_among}
use Rattle.cw_model.specs.lemmas.Names.{same_are}
use Rattle.cw_loops.specs.Lowered.{is_plain}

-- names are distinct if their equality is contradictory
pub apart : (x y : Name) → (x ≡ y → ⊥) → same_name x y ≡ false
apart x y h = go (same_name x y) refl
  where
    go : (b : Bool) → same_name x y ≡ b → b ≡ false
    go true e = absurd (h (same_are x y e))
    go false e = refl

plain_is_not : (x w : Name) → is_plain x ≡ true → x ≡ 35 ∷ w → ⊥
plain_is_not x w p e = go (rw e at p)
  where
    go : is_plain (35 ∷ w) ≡ true → ⊥
    go q = cc

pub plain_apart : (x w : Name) → is_plain x ≡ true → same_name x (35 ∷ w) ≡ false
plain_apart x w p = apart x (35 ∷ w) (plain_is_not x w p)

pub apart_plain : (x w : Name) → is_plain x ≡ true → same_name (35 ∷ w) x ≡ false
apart_plain x w p = apart (35 ∷ w) x (λ e. plain_is_not x w p (sym e))

-- a name that is not in a list is distinct from its first element
pub not_first : (x y : Name) (ys : List Name) → is_among x (y ∷ ys) ≡ false → same_name x y ≡ false
not_first x y ys e = go (same_name x y) refl e
  where
    go : (b : Bool) → same_name x y ≡ b → (if b then true else is_among x ys) ≡ false → b ≡ false
    go true h f = f
    go false h f = refl

pub not_later : (x y : Name) (ys : List Name) → is_among x (y ∷ ys) ≡ false → is_among x ys ≡ false
not_later x y ys e = go (same_name x y) e
  where
    go : (b : Bool) → (if b then true else is_among x ys) ≡ false → is_among x ys ≡ false
    go true f = cc
    go false f = f
