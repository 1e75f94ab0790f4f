-- Comparison of names, and the names of parameters.
use Rattle.std.proofs.Common.{◌≡◌, ◌∙◌, Bool, true, false, List, [], ◌∷◌, ◌++◌, refl, sym, ap}
use Rattle.std.specs.Prelude.{if◌then◌else◌, map}
use Rattle.std.proofs.lemmas.Slice.Eq.{bytes_eq-Decides}
use Rattle.cw_model.specs.declared.syntax.NameKind.{NameKind}
use Rattle.cw_model.specs.Syntax.{Name, Param}
use Rattle.cw_model.specs.Names.{same_name, is_among}
use Rattle.cw_model.specs.Typing.{Known, known_of}

pub same_itself : (x : Name) → same_name x x ≡ true
same_itself x = (bytes_eq-Decides x x).1 refl

pub same_are : (x y : Name) → same_name x y ≡ true → x ≡ y
same_are x y e = (bytes_eq-Decides x y).0 e

pub turned : (x y : Name) → same_name x y ≡ same_name y x
turned x y =
    one (same_name x y) (same_name y x) (bytes_eq-Decides x y).0 (bytes_eq-Decides x y).1 (bytes_eq-Decides y x).0
    (bytes_eq-Decides y x).1
  where
    one : (a b : Bool) → (a ≡ true → x ≡ y) → (x ≡ y → a ≡ true) → (b ≡ true → y ≡ x) → (y ≡ x → b ≡ true) → a ≡ b
    one true true f g h i = refl
    one false false f g h i = refl
    one true false f g h i = sym (i (sym (f refl)))
    one false true f g h i = g (sym (h refl))

pub swapped : (x y : Name) → same_name x y ≡ false → same_name y x ≡ false
swapped x y h = turned y x ∙ h

-- the names of parameters
abbrev pub names_of : List Param → List Name
names_of ps = map (λ p. p.name) ps

among_push : (x : Name) (ks : Known) (n : Name) (kind : NameKind)
    → is_among x (map (λ k. k.0) (ks ++ (n, kind) ∷ []))
    ≡ (if same_name x n then true else is_among x (map (λ k. k.0) ks))
among_push x [] n kind = refl
among_push x (k ∷ ks) n kind = go (same_name x k.0) (same_name x n) (among_push x ks n kind)
  where
    go : (s q : Bool) →
        is_among x (map (λ k. k.0) (ks ++ (n, kind) ∷ [])) ≡ (if q then true else is_among x (map (λ k. k.0) ks)) →
        (if s then true else is_among x (map (λ k. k.0) (ks ++ (n, kind) ∷ [])))
        ≡ (if q then true else (if s then true else is_among x (map (λ k. k.0) ks)))
    go true true h = refl
    go true false h = refl
    go false q h = h

-- the names that are in scope for the parameters are the names of the parameters
pub heads_are : (x : Name) (ps : List Param) → is_among x (map (λ k. k.0) (known_of ps)) ≡ is_among x (names_of ps)
heads_are x [] = refl
heads_are x (p ∷ ps) =
    among_push x (known_of ps) p.name p.kind ∙ ap (λ b. if same_name x p.name then true else b) (heads_are x ps)
