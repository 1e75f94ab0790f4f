-- The integers that a resolved body captures are those that it captures by name.
use Rattle.std.proofs.Common.{◌≡◌, nat_lt, Bool, true, false, List, [], ◌∷◌, ◌++◌, length, map, refl, sym, ◌∙◌, ap, append_assoc, append-nil}
use Rattle.std.specs.Prelude.{if◌then◌else◌, not, ◌&&◌, ◌||◌}
use Rattle.cw_facts.specs.Tests.{below, either_left}
use Rattle.cw_model.specs.Syntax.{Name}
use Rattle.cw_model.specs.Names.{same_name, is_among, new_names}
use Rattle.cw_model.specs.lemmas.Names.{same_itself, turned}
use Rattle.cw_tree.specs.Resolved.{Use, slot_of, use_of, is_slot_in, first_uses}
use Rattle.cw_tree.specs.lemmas.NamedSlots.{one_slot, slot_in, among_push, uses_append}
use Rattle.cw_tree.specs.lemmas.Names.{front_among, later_among}
use Rattle.std.proofs.lemmas.List.{map-append}
use Rattle.cw_loops.specs.lemmas.Naming.{Placed, at_front, after_it, placed}

-- the names found so far, with a name appended that is neither known nor found
abbrev pub with_new : (known found : List Name) → Name → List Name
with_new known found v = if is_among v known || is_among v found then found else found ++ v ∷ []

abbrev pub all_new : (known found : List Name) → List Name → List Name
all_new known found [] = found
all_new known found (v ∷ vs) = all_new known (with_new known found v) vs

either_pushed : (s k f : Bool) → (if s then true else (k || f)) ≡ (k || (f || s))
either_pushed true true f = refl
either_pushed true false true = refl
either_pushed true false false = refl
either_pushed false true f = refl
either_pushed false false true = refl
either_pushed false false false = refl

pub new_are : (known found k xs : List Name) → ((v : Name) → is_among v k ≡ (is_among v known || is_among v found)) → all_new known found xs ≡ found ++ new_names xs k
new_are known found k [] same = sym (append-nil found)
new_are known found k (y ∷ xs) same = go (is_among y k) (same y) (λ f j h. new_are known f j xs h)
  where
    pushed : (v : Name) → is_among v (y ∷ k) ≡ (is_among v known || is_among v (found ++ y ∷ []))
    pushed v =
        ap (λ b. if same_name v y then true else b) (same v) ∙ either_pushed (same_name v y) (is_among v known) (is_among v found)
        ∙ ap (λ b. is_among v known || b) (sym (among_push v found y))

    go : (b : Bool) → b ≡ (is_among y known || is_among y found) → ((f j : List Name) → ((v : Name) → is_among v j ≡ (is_among v known || is_among v f)) → all_new known f xs ≡ f ++ new_names xs j) →
        all_new known (with_new known found y) xs ≡ found ++ (if b then new_names xs k else y ∷ new_names xs (y ∷ k))
    go true e more = ap (λ t. all_new known (if t then found else found ++ y ∷ []) xs) (sym e) ∙ more found k same
    go false e more =
        ap (λ t. all_new known (if t then found else found ++ y ∷ []) xs) (sym e) ∙ more (found ++ y ∷ []) (y ∷ k) pushed
        ∙ append_assoc found (y ∷ []) (new_names xs (y ∷ k))

all-append : (known found xs ys : List Name) → all_new known found (xs ++ ys) ≡ all_new known (all_new known found xs) ys
all-append known found [] ys = refl
all-append known found (x ∷ xs) ys = all-append known (with_new known found x) xs ys

-- a name that is known or found remains so
either_more : (k f s : Bool) → (k || f) ≡ true → (k || (f || s)) ≡ true
either_more true f s h = refl
either_more false true s h = refl
either_more false false s h = absurd cc

either_last : (k f s : Bool) → s ≡ true → (k || (f || s)) ≡ true
either_last true f s h = refl
either_last false true s h = refl
either_last false false s h = h

with_keeps : (known found : List Name) (y v : Name) → (is_among v known || is_among v found) ≡ true → (is_among v known || is_among v (with_new known found y)) ≡ true
with_keeps known found y v h = go (is_among y known || is_among y found)
  where
    go : (b : Bool) → (is_among v known || is_among v (if b then found else found ++ y ∷ [])) ≡ true
    go true = h
    go false = ap (λ b. is_among v known || b) (among_push v found y) ∙ either_more (is_among v known) (is_among v found) (same_name v y) h

with_has : (known found : List Name) (y : Name) → (is_among y known || is_among y (with_new known found y)) ≡ true
with_has known found y = go (is_among y known || is_among y found) refl
  where
    go : (b : Bool) → (is_among y known || is_among y found) ≡ b → (is_among y known || is_among y (if b then found else found ++ y ∷ [])) ≡ true
    go true e = e
    go false e = ap (λ b. is_among y known || b) (among_push y found y) ∙ either_last (is_among y known) (is_among y found) (same_name y y) (same_itself y)

-- names that occur again add nothing
once : (known found xs k : List Name) → ((v : Name) → is_among v k ≡ true → (is_among v known || is_among v found) ≡ true) → all_new known found (new_names xs k) ≡ all_new known found xs
once known found [] k h = refl
once known found (y ∷ xs) k h = go (is_among y k) refl (λ f j g. once known f xs j g)
  where
    more_known : (v : Name) → Placed v y k → (is_among v known || is_among v (with_new known found y)) ≡ true
    more_known v (at_front same) = ap (λ w. is_among w known || is_among w (with_new known found y)) same ∙ with_has known found y
    more_known v (after_it other o) = with_keeps known found y v (h v o)

    go : (b : Bool) → is_among y k ≡ b → ((f j : List Name) → ((v : Name) → is_among v j ≡ true → (is_among v known || is_among v f) ≡ true) → all_new known f (new_names xs j) ≡ all_new known f xs) →
        all_new known found (if b then new_names xs k else y ∷ new_names xs (y ∷ k)) ≡ all_new known (with_new known found y) xs
    go true e more = more found k h ∙ sym (ap (λ t. all_new known (if t then found else found ++ y ∷ []) xs) (h y e))
    go false e more = more (with_new known found y) (y ∷ k) (λ v o. more_known v (placed v y k o))

-- uses and names that add the same to the names found, if these names are known before a body and `known` are its own
-- names
abbrev pub Matches : (names known : List Name) → List Use → List Name → Type 0
Matches names known us vs =
    (found : List Name) → first_uses (length names) (map (use_of names) found) us ≡ map (use_of names) (all_new known found vs)

pub both_match : (names known : List Name) (us ws : List Use) (vs xs : List Name) → Matches names known us vs → Matches names known ws xs → Matches names known (us ++ ws) (vs ++ xs)
both_match names known us ws vs xs h g found =
    uses_append (length names) (map (use_of names) found) us ws ∙ ap (λ f. first_uses (length names) f ws) (h found) ∙ g (all_new known found vs)
    ∙ sym (ap (map (use_of names)) (all-append known found vs xs))

pub slots_among : (names : List Name) (v : Name) (found : List Name) → is_among v names ≡ true → is_slot_in (slot_of v names) (map (λ (w : Use). w.slot) (map (use_of names) found)) ≡ is_among v found
slots_among names v [] there = refl
slots_among names v (y ∷ found) there =
    ap (λ b. b || is_slot_in (slot_of v names) (map (λ (w : Use). w.slot) (map (use_of names) found))) (one_slot y v names there ∙ turned y v)
    ∙ first (same_name v y) (slots_among names v found there)
  where
    first : (b : Bool) → is_slot_in (slot_of v names) (map (λ (w : Use). w.slot) (map (use_of names) found)) ≡ is_among v found →
        (b || is_slot_in (slot_of v names) (map (λ (w : Use). w.slot) (map (use_of names) found))) ≡ (if b then true else is_among v found)
    first true e = refl
    first false e = e

pub kept_match : (names known : List Name) (v : Name) → is_among v names ≡ true → is_among v known ≡ false → Matches names known (use_of names v ∷ []) (v ∷ [])
kept_match names known v there free found =
    ap (λ b. if b && not (is_slot_in (slot_of v names) (map (λ (w : Use). w.slot) (map (use_of names) found))) then map (use_of names) found ++ use_of names v ∷ [] else map (use_of names) found)
    (below (slot_of v names) (length names) (slot_in v names there))
    ∙ ap (λ b. if not b then map (use_of names) found ++ use_of names v ∷ [] else map (use_of names) found) (slots_among names v found there)
    ∙ go (is_among v found)
    ∙ sym (ap (λ b. map (use_of names) (if b || is_among v found then found else found ++ v ∷ [])) free)
  where
    go : (b : Bool) → (if not b then map (use_of names) found ++ use_of names v ∷ [] else map (use_of names) found) ≡ map (use_of names) (if b then found else found ++ v ∷ [])
    go true = refl
    go false = sym (map-append (use_of names) found (v ∷ []))

pub own_match : (names known : List Name) (u : Use) (v : Name) → nat_lt u.slot (length names) ≡ false → is_among v known ≡ true → Matches names known (u ∷ []) (v ∷ [])
own_match names known u v past there found =
    ap (λ b. if b && not (is_slot_in u.slot (map (λ (w : Use). w.slot) (map (use_of names) found))) then map (use_of names) found ++ u ∷ [] else map (use_of names) found) past
    ∙ sym (ap (λ b. map (use_of names) (if b || is_among v found then found else found ++ v ∷ [])) there)

pub dropped_match : (names known : List Name) (v : Name) → is_among v known ≡ true → Matches names known [] (v ∷ [])
dropped_match names known v there found = sym (ap (λ b. map (use_of names) (if b || is_among v found then found else found ++ v ∷ [])) there)

pub fewer_match : (names known : List Name) (us : List Use) (vs k : List Name) → ((v : Name) → is_among v k ≡ true → is_among v known ≡ true)
    → Matches names known us (new_names vs k) → Matches names known us vs
fewer_match names known us vs k h g found =
    g found ∙ ap (map (use_of names)) (once known found vs k (λ v o. either_left (is_among v known) (is_among v found) (h v o)))

pub each_match : (names known around vs : List Name) → ((v : Name) → is_among v vs ≡ true → Matches names known (use_of around v ∷ []) (v ∷ [])) → Matches names known (map (use_of around) vs) vs
each_match names known around [] h = λ found. refl
each_match names known around (v ∷ vs) h =
    both_match names known (use_of around v ∷ []) (map (use_of around) vs) (v ∷ []) vs (h v (front_among v vs)) (each_match names known around vs (λ w o. h w (later_among w v vs o)))

either_none : (b : Bool) → b ≡ (b || false)
either_none true = refl
either_none false = refl

-- if all reads of a body match, its captured integers match
pub matched : (names known : List Name) (us : List Use) (vs : List Name) → Matches names known us vs → first_uses (length names) [] us ≡ map (use_of names) (new_names vs known)
matched names known us vs h = h [] ∙ ap (map (use_of names)) (new_are known [] known vs (λ v. either_none (is_among v known)))
