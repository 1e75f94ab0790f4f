-- The heads of functions.
use Rattle.std.proofs.Common.{◌≡◌, Bool, true, false, not, ◌&&◌, ◌||◌, if◌then◌else◌, List, [], ◌∷◌, map, refl, sym, ap, ◌∙◌}
use Rattle.std.proofs.Math.Bool.{and_assoc}
use Rattle.std.specs.List.{list_any}
use Rattle.cw_model.specs.Names.{same_name, is_among, differ}
use Rattle.cw_model.specs.Syntax.{Name, Param, Function, Program}
use Rattle.cw_model.specs.Typing.{Known, globals, is_head}
use Rattle.cw_model.specs.lemmas.Names.{turned, names_of}
use Rattle.cw_types.specs.Typing.{are_new, is_right_main, returns_well}

abbrev known_names : Known → List Name
known_names ks = map (λ k. k.0) ks

-- none of these names is among the others
abbrev apart : List Name → List Name → Bool
apart names [] = true
apart names (x ∷ xs) = not (is_among x names) && apart names xs

abbrev none_global : List Name → List Param → Bool
none_global gs ps = not (list_any (λ p. is_among p.name gs) ps)

apart_more : (y : Name) (names xs : List Name) → apart (y ∷ names) xs ≡ (apart names xs && not (is_among y xs))
apart_more y names [] = refl
apart_more y names (x ∷ xs) =
    ap (λ b. not (if same_name x y then true else is_among x names) && b) (apart_more y names xs)
    ∙ ap (λ b. not (if b then true else is_among x names) && (apart names xs && not (is_among y xs))) (turned x y)
    ∙ mixed (same_name y x) (is_among x names) (apart names xs) (is_among y xs)
  where
    mixed : (a b c d : Bool) → (not (if a then true else b) && (c && not d)) ≡ ((not b && c) && not (if a then true else d))
    mixed true true c d = refl
    mixed true false true d = refl
    mixed true false false d = refl
    mixed false true c d = refl
    mixed false false true d = refl
    mixed false false false d = refl

new_all : (program : Program) (known : Known) (ps : List Param) →
    are_new program known ps ≡ (apart (known_names known) (names_of ps) && (differ (names_of ps) && none_global (globals program) ps))
new_all program known [] = refl
new_all program known (p ∷ ps) =
    ap (λ b. not (is_among p.name (known_names known) || is_among p.name (globals program)) && b) (new_all program ((p.name, p.kind) ∷ known) ps)
    ∙ ap (λ b. not (is_among p.name (known_names known) || is_among p.name (globals program))
    && (b && (differ (names_of ps) && none_global (globals program) ps))) (apart_more p.name (known_names known) (names_of ps))
    ∙ mixed (is_among p.name (known_names known)) (is_among p.name (globals program)) (apart (known_names known) (names_of ps))
    (is_among p.name (names_of ps)) (differ (names_of ps)) (list_any (λ (q : Param). is_among q.name (globals program)) ps)
  where
    mixed : (a b c d e f : Bool) → (not (a || b) && ((c && not d) && (e && not f))) ≡ ((not a && c) && ((not d && e) && not (b || f)))
    mixed true b c d e f = refl
    mixed false true true true e f = refl
    mixed false true true false true f = refl
    mixed false true true false false f = refl
    mixed false true false d e f = refl
    mixed false false true true e f = refl
    mixed false false true false true f = refl
    mixed false false true false false f = refl
    mixed false false false d e f = refl

nothing_apart : (xs : List Name) → apart [] xs ≡ true
nothing_apart [] = refl
nothing_apart (x ∷ xs) = nothing_apart xs

-- the rule for the head of a function, as the conjunction of its tests
pub head_by_parts : (program : Program) (f : Function) →
    is_head program f ≡ (are_new program [] f.params && (returns_well f && is_right_main f))
head_by_parts program f =
    and_assoc (differ (names_of f.params) && none_global (globals program) f.params) (returns_well f) (is_right_main f)
    ∙ ap (λ b. (b && (differ (names_of f.params) && none_global (globals program) f.params)) && (returns_well f && is_right_main f)) (sym (nothing_apart (names_of f.params)))
    ∙ ap (λ b. b && (returns_well f && is_right_main f)) (sym (new_all program [] f.params))
