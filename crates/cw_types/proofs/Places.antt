-- The position of a name after a name is appended.
use Rattle.std.proofs.Common.{arith, ◌≡◌, ℕ, suc, ◌+◌, ◌<◌, ◌^◌, Bool, true, false, if◌then◌else◌, cond, bytes_eq, List, [], ◌∷◌, ◌++◌, length}
use Rattle.std.proofs.Common.{Option, Some, None, IfSome, option_map, is_some, refl, sym, ap, ◌∙◌, Bor, length-append, map}
use Rattle.std.proofs.lemmas.Slice.Eq.{bytes_eq-Decides}
use Rattle.std.proofs.lemmas.Map.Text.{hash_map_updates_str}
use Rattle.std.proofs.lemmas.List.{map-append}
use Rattle.std.specs.HashMap as hash
use Rattle.std.specs.HashMap.{HashMap, get_by}
use Rattle.cw_model.specs.Syntax.{Name}
use Rattle.cw_model.specs.Names.{same_name, is_among}
use Rattle.cw_model.specs.lemmas.Names.{same_itself, turned}
use Rattle.cw_tree.specs.Resolved.{slot_of}
use Rattle.cw_types.specs.Places.{place_of, ArePlaces}

abbrev pub place_or : Option ℕ → ℕ → ℕ
place_or None n = n
place_or (Some p) n = p

later : (p : Option ℕ) (n : ℕ) → suc (place_or p n) ≡ place_or (option_map suc p) (suc n)
later None n = refl
later (Some p) n = refl

pub slot_is_place : (x : Name) (names : List Name) → slot_of x names ≡ place_or (place_of x names) (length names)
slot_is_place x [] = refl
slot_is_place x (y ∷ names) = first (slot_is_place x names) (same_name x y)
  where
    first : slot_of x names ≡ place_or (place_of x names) (length names) → (b : Bool)
        → (if b then 0 else suc (slot_of x names)) ≡ place_or (if b then Some 0 else option_map suc (place_of x names)) (suc (length names))
    first h true = refl
    first h false = ap suc h ∙ later (place_of x names) (length names)

pub slot_found : (x : Name) (names : List Name) (p : ℕ) → place_of x names ≡ Some p → slot_of x names ≡ p
slot_found x names p h = slot_is_place x names ∙ ap (λ o. place_or o (length names)) h

-- if the map has an entry for a name, the entry is its slot
pub found_first : (x : Name) (names : List Name) (found : Option ℕ) → found ≡ place_of x names → IfSome found (λ p. p ≡ slot_of x names)
found_first x names None h = tt
found_first x names (Some p) h = sym (slot_found x names p (sym h))

pub slot_missing : (x : Name) (names : List Name) → place_of x names ≡ None → slot_of x names ≡ length names
slot_missing x names h = slot_is_place x names ∙ ap (λ o. place_or o (length names)) h

abbrev after_push : Option ℕ → Bool → ℕ → Option ℕ
after_push (Some p) same n = Some p
after_push None same n = if same then Some n else None

later_push : (p : Option ℕ) (same : Bool) (n : ℕ) → option_map suc (after_push p same n) ≡ after_push (option_map suc p) same (suc n)
later_push (Some p) same n = refl
later_push None true n = refl
later_push None false n = refl

push_if : (x : Name) (names : List Name) (y : Name) → place_of x (names ++ y ∷ []) ≡ after_push (place_of x names) (same_name x y) (length names)
push_if x [] y = refl
push_if x (z ∷ names) y = first (push_if x names y) (same_name x z)
  where
    first : place_of x (names ++ y ∷ []) ≡ after_push (place_of x names) (same_name x y) (length names) → (b : Bool)
        → (if b then Some 0 else option_map suc (place_of x (names ++ y ∷ [])))
        ≡ after_push (if b then Some 0 else option_map suc (place_of x names)) (same_name x y) (suc (length names))
    first h true = refl
    first h false = ap (option_map suc) h ∙ later_push (place_of x names) (same_name x y) (length names)

kept : (p : Option ℕ) (b : Bool) (q n : ℕ) → (b ≡ true → p ≡ Some q) → after_push p b n ≡ p
kept (Some r) b q n h = refl
kept None true q n h = cc (h refl)
kept None false q n h = refl

-- appending a name that is already there changes no position
pub place_stays : (x : Name) (names : List Name) (y : Name) (q : ℕ) → place_of y names ≡ Some q → place_of x (names ++ y ∷ []) ≡ place_of x names
place_stays x names y q h =
    push_if x names y
    ∙ kept (place_of x names) (same_name x y) q (length names) (λ b. ap (λ z. place_of z names) ((bytes_eq-Decides x y).0 b) ∙ h)

added : (p : Option ℕ) (b : Bool) (n : ℕ) → (b ≡ true → p ≡ None) → after_push p b n ≡ cond b (Some n) p
added (Some r) true n h = cc (h refl)
added (Some r) false n h = refl
added None true n h = refl
added None false n h = refl

-- a new name gets the next position
pub place_more : (x : Name) (names : List Name) (y : Name) → place_of y names ≡ None → place_of x (names ++ y ∷ []) ≡ cond (bytes_eq y x) (Some (length names)) (place_of x names)
place_more x names y h =
    push_if x names y
    ∙ added (place_of x names) (same_name x y) (length names) (λ b. ap (λ z. place_of z names) ((bytes_eq-Decides x y).0 b) ∙ h)
    ∙ ap (λ b. cond b (Some (length names)) (place_of x names)) (turned x y)

is_there : (o : Option ℕ) → true ≡ is_some o → (q : ℕ) × (o ≡ Some q)
is_there (Some q) h = (q, refl)
is_there None h = cc

not_there : (o : Option ℕ) → false ≡ is_some o → o ≡ None
not_there (Some q) h = cc
not_there None h = refl

longer : (names : List Name) (y : Name) → length names + 1 < 2 ^ 32 → length (names ++ y ∷ []) < 2 ^ 32
longer names y h = rw length-append h

-- the map remains correct if the appended name is already there
pub places_stay : {S : Type 0} (m : HashMap (Bor (List ℕ)) ℕ S) (names : List Name) (y : Name) → ArePlaces m names → length names + 1 < 2 ^ 32 →
    true ≡ is_some (get_by (λ k. bytes_eq y k.now) m) → ArePlaces m (names ++ y ∷ [])
places_stay m names y are fits h =
    let there = is_there (get_by (λ k. bytes_eq y k.now) m) h in
    record {
      fit = longer names y fits;
      first = λ x. are.first x ∙ sym (place_stays x names y there.0 (sym (are.first y) ∙ there.1));
    }

-- the map remains correct if a new name is inserted
pub places_more : {S : Type 0} (m n : HashMap (Bor (List ℕ)) ℕ S) (names : List Name) (y : Name) (place : ℕ) → place ≡ length names → ArePlaces m names → length names + 1 < 2 ^ 32 →
    false ≡ is_some (get_by (λ k. bytes_eq y k.now) m) →
    hash.UpdatesBy (λ x y. bytes_eq x.now y.now) (λ k. bytes_eq y k.now) m n (Some place) → ArePlaces n (names ++ y ∷ [])
places_more m n names y place next are fits h updates =
    record {
      fit = longer names y fits;
      first = λ x.
          hash_map_updates_str y m n (Some place) updates x
          ∙ ap (λ p. cond (bytes_eq y x) (Some p) (get_by (λ k. bytes_eq x k.now) m)) next
          ∙ ap (λ o. cond (bytes_eq y x) (Some (length names)) o) (are.first x)
          ∙ sym (place_more x names y (sym (are.first y) ∙ not_there (get_by (λ k. bytes_eq y k.now) m) h));
    }

place_below : (x : Name) (names : List Name) (r : ℕ) → place_of x names ≡ Some r → r < length names
place_below x [] r h = cc
place_below x (y ∷ names) r h = first (same_name x y) (place_of x names) (λ q e. place_below x names q e) h
  where
    first : (b : Bool) (o : Option ℕ) → ((q : ℕ) → o ≡ Some q → q < length names) → (if b then Some 0 else option_map suc o) ≡ Some r → r < suc (length names)
    first true o more e = let zero : 0 ≡ r = cc in omega arith
    first false None more e = cc
    first false (Some q) more e = let next : suc q ≡ r = cc in let below = more q refl in omega arith

place_pushed : (names : List Name) (y : Name) → place_of y (names ++ y ∷ []) ≡ after_push (place_of y names) true (length names)
place_pushed names y = push_if y names y ∙ ap (λ b. after_push (place_of y names) b (length names)) (same_itself y)

was_new : (names : List Name) (y : Name) → place_of y (names ++ y ∷ []) ≡ Some (length names) → place_of y names ≡ None
was_new names y h = first (place_of y names) refl (sym (place_pushed names y) ∙ h)
  where
    first : (o : Option ℕ) → place_of y names ≡ o → after_push o true (length names) ≡ Some (length names) → place_of y names ≡ None
    first None e f = e
    first (Some r) e f = let below = place_below y names r e in let same : r ≡ length names = cc in absurd (omega arith)

was_there : (names : List Name) (y : Name) → (place_of y (names ++ y ∷ []) ≡ Some (length names) → ⊥) → (q : ℕ) × (place_of y names ≡ Some q)
was_there names y h = first (place_of y names) refl
  where
    first : (o : Option ℕ) → place_of y names ≡ o → (q : ℕ) × (place_of y names ≡ Some q)
    first None e = absurd (h (place_pushed names y ∙ ap (λ o. after_push o true (length names)) e))
    first (Some r) e = (r, e)

shorter : (names : List Name) (y : Name) → length (names ++ y ∷ []) < 2 ^ 32 → length names < 2 ^ 32
shorter names y h = let more = length-append names (y ∷ []) in omega arith

-- removing the last name removes its entry if the entry is its position
pub places_less : {S : Type 0} (m n : HashMap (Bor (List ℕ)) ℕ S) (names : List Name) (y : Name) → ArePlaces m (names ++ y ∷ []) →
    get_by (λ k. bytes_eq y k.now) m ≡ Some (length names) →
    hash.UpdatesBy (λ x y. bytes_eq x.now y.now) (λ k. bytes_eq y k.now) m n None → ArePlaces n names
places_less m n names y are here updates =
    record {
      fit = shorter names y are.fit;
      first = λ x.
          hash_map_updates_str y m n None updates x
          ∙ ap (λ o. cond (bytes_eq y x) None o) (are.first x ∙ push_if x names y)
          ∙ ap (λ b. cond (bytes_eq y x) None (after_push (place_of x names) b (length names))) (turned x y)
          ∙ gone (bytes_eq y x) (place_of x names) (length names) (λ h. ap (λ z. place_of z names) (sym ((bytes_eq-Decides y x).0 h)) ∙ was_new names y (sym (are.first y) ∙ here));
    }
  where
    gone : (b : Bool) (o : Option ℕ) (k : ℕ) → (b ≡ true → o ≡ None) → cond b None (after_push o b k) ≡ o
    gone true o k h = sym (h refl)
    gone false None k h = refl
    gone false (Some q) k h = refl

-- removing the last name keeps its entry if the entry is an earlier position
pub places_kept : {S : Type 0} (m : HashMap (Bor (List ℕ)) ℕ S) (names : List Name) (y : Name) → ArePlaces m (names ++ y ∷ []) →
    (get_by (λ k. bytes_eq y k.now) m ≡ Some (length names) → ⊥) → ArePlaces m names
places_kept m names y are other =
    let there = was_there names y (λ e. other (are.first y ∙ e)) in
    record {
      fit = shorter names y are.fit;
      first = λ x. are.first x ∙ place_stays x names y there.0 there.1;
    }

some_later : (o : Option ℕ) → is_some (option_map suc o) ≡ is_some o
some_later None = refl
some_later (Some p) = refl

-- a name has a position exactly if it is one of the names
pub among_has_place : (x : Name) (names : List Name) → is_among x names ≡ is_some (place_of x names)
among_has_place x [] = refl
among_has_place x (y ∷ names) = first (among_has_place x names) (same_name x y)
  where
    first : is_among x names ≡ is_some (place_of x names) → (b : Bool) → (if b then true else is_among x names) ≡ is_some (if b then Some 0 else option_map suc (place_of x names))
    first h true = refl
    first h false = h ∙ sym (some_later (place_of x names))

pub ruleset found = (slot_found, slot_missing)

-- a list of borrowed names with one appended
pub one_more_name : (ks ls : List (Bor (List ℕ))) (k : Bor (List ℕ)) → ls ≡ ks ++ k ∷ [] → map (λ k. k.now) ls ≡ map (λ k. k.now) ks ++ k.now ∷ []
one_more_name ks ls k e = ap (λ l. map (λ k. k.now) l) e ∙ map-append (λ k. k.now) ks (k ∷ [])
