-- Names among others, in the form that the facts on lowered programs need.
use Rattle.std.proofs.Common.{◌≡◌, true, false, List, [], ◌∷◌, ◌++◌, sym, ◌∙◌, ap}
use Rattle.std.specs.Prelude.{if◌then◌else◌, not, ◌&&◌, ◌||◌}
use Rattle.std.proofs.lemmas.Bool.{and_parts}
use Rattle.cw_facts.specs.Tests.{not_true}
use Rattle.cw_model.specs.Syntax.{Name}
use Rattle.cw_model.specs.Names.{same_name, is_among, differ}
use Rattle.cw_tree.specs.lemmas.Names.{among_append, front_among, later_among}
use Rattle.cw_loops.specs.lemmas.Naming.{none_among}

-- a name that differs from the first name
pub past : (x y : Name) (xs : List Name) → same_name x y ≡ false → is_among x xs ≡ false → is_among x (y ∷ xs) ≡ false
past x y xs e h = ap (λ b. if b then true else is_among x xs) e ∙ h

-- a name of a concatenation that is not in the first list is in the second
pub in_second : (x : Name) (xs ys : List Name) → is_among x (xs ++ ys) ≡ true → is_among x xs ≡ false → is_among x ys ≡ true
in_second x xs ys h n = sym (ap (λ b. b || is_among x ys) n) ∙ sym (among_append x xs ys) ∙ h

-- the concatenation of two disjoint lists of distinct names has distinct names
pub differ_join : (xs ys : List Name) → differ xs ≡ true → differ ys ≡ true → ((x : Name) → is_among x xs ≡ true → is_among x ys ≡ false) → differ (xs ++ ys) ≡ true
differ_join [] ys h g apart' = g
differ_join (x ∷ xs) ys h g apart' =
    let two = and_parts (not (is_among x xs)) (differ xs) h in
    ap (λ b. not b && differ (xs ++ ys)) (none_among x xs ys (not_true (is_among x xs) two.0) (apart' x (front_among x xs)))
    ∙ differ_join xs ys two.1 g (λ y o. apart' y (later_among y x xs o))
