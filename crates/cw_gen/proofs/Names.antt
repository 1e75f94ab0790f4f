-- Names by their slots, and the results that wait for a join.
use Rattle.std.proofs.Common.{◌≡◌, ◌≢◌, ℕ, zero, suc, ◌+◌, ◌-◌, ◌<◌, ◌≤◌, List, [], ◌∷◌, ◌++◌, length, Bool, true, false, if◌then◌else◌}
use Rattle.std.proofs.Common.{Option, Some, None, refl, sym, ap, ◌∙◌, arith, append_assoc, length-append, true≢false}
use Rattle.std.specs.Prelude.{slice_get, slice_set, take, drop}
use Rattle.std.proofs.Math.Seq.{set-append_seam, take-append_seam}
use Rattle.std.proofs.lemmas.List.{length-map, map-set, set-set, set_comm}
use Rattle.std.proofs.lemmas.Option.{slice_get-map}
use Rattle.std.proofs.lemmas.Slice.Eq.{bytes_eq-Decides}
use Rattle.cw_model.specs.Syntax.{Name}
use Rattle.cw_model.specs.Names.{same_name, is_among, find, put}
use Rattle.cw_model.specs.Ownership.{Taken, is_taken, cut_ended, freed, without}
use Rattle.cw_code.specs.Run.{Slots, Results, is_full, full, settled}
use Rattle.cw_code.specs.lemmas.Slots.{settled_count, settled_append, full_is_full}
use Rattle.cw_tree.specs.Resolved.{slot_of}
use Rattle.cw_tree.specs.lemmas.NamedSlots.{slot_stays, slot_in}
use Rattle.cw_loops.specs.lemmas.Naming.{among_left}
use Rattle.cw_gen.proofs.KnownNames.{in_second}
use Rattle.cw_gen.proofs.Fine.{IsUsable}
use Rattle.cw_gen.proofs.Takens.{holds, held_is_taken, held_past, held_past_cut, held_without}

-- names in order, each with its value
abbrev pub Entries : Type 0 → Type 0
Entries A = List (Name × A)

abbrev pub names_in : {A : Type 0} → Entries A → List Name
names_in [] = []
names_in (e ∷ es) = e.0 ∷ names_in es

abbrev pub values_in : {A : Type 0} → Entries A → List A
values_in [] = []
values_in (e ∷ es) = e.1 ∷ values_in es

-- no result waits for this slot
abbrev pub NotAwaited : {A : Type 0} → ℕ → Results A → Type 0
NotAwaited a [] = Unit {0}
NotAwaited a (r ∷ results) = (a ≢ r.0) × NotAwaited a results

-- writing one position keeps the others
pub get-other : {X : Type 0} (xs : List X) (i j : ℕ) (x : X) → i ≢ j → slice_get (slice_set xs j x) i ≡ slice_get xs i
get-other [] i zero x h = refl
get-other [] i (suc j) x h = refl
get-other (y ∷ xs) zero zero x h = absurd (h refl)
get-other (y ∷ xs) zero (suc j) x h = refl
get-other (y ∷ xs) (suc i) zero x h = refl
get-other (y ∷ xs) (suc i) (suc j) x h = get-other xs i j x (λ e. h (ap suc e))

-- a slot for which no result waits has the same value after the join
pub get-settled : {A : Type 0} (a : ℕ) (results : Results A) (slots : Slots A) → NotAwaited a results → slice_get (settled results slots) a ≡ slice_get slots a
get-settled a [] slots h = refl
get-settled a (r ∷ results) slots h = get-settled a results (slice_set slots r.0 (Some r.1)) h.1 ∙ get-other slots a r.0 (Some r.1) h.0

pub settled-set : {A : Type 0} (a : ℕ) (x : Option A) (results : Results A) (slots : Slots A) → NotAwaited a results → settled results (slice_set slots a x) ≡ slice_set (settled results slots) a x
settled-set a x [] slots h = refl
settled-set a x (r ∷ results) slots h =
    ap (settled results) (set_comm slots a r.0 x (Some r.1) h.0)
    ∙ settled-set a x results (slice_set slots r.0 (Some r.1)) h.1

-- the waiting results of all sync blocks, the innermost first
abbrev pub all_of : {A : Type 0} → List (Results A) → Results A
all_of [] = []
all_of (results ∷ outer) = results ++ all_of outer

pub length_names : {A : Type 0} (es : Entries A) → length (values_in es) ≡ length (names_in es)
length_names [] = refl
length_names (e ∷ es) = ap suc (length_names es)

pub names_more : {A : Type 0} (es : Entries A) (x : Name) (v : A) → names_in (es ++ (x, v) ∷ []) ≡ names_in es ++ x ∷ []
names_more [] x v = refl
names_more (e ∷ es) x v = ap (λ l. e.0 ∷ l) (names_more es x v)

pub values_more : {A : Type 0} (es : Entries A) (x : Name) (v : A) → values_in (es ++ (x, v) ∷ []) ≡ values_in es ++ v ∷ []
values_more [] x v = refl
values_more (e ∷ es) x v = ap (λ l. e.1 ∷ l) (values_more es x v)

load_in : {A : Type 0} (none : A) (x : Name) (es : Entries A) (rest : List A) → is_among x (names_in es) ≡ true → slice_get (values_in es ++ rest) (slot_of x (names_in es)) ≡ Some (find none x es)
load_in none x [] rest h = cc
load_in none x (e ∷ es) rest h = test (load_in none x es rest) (same_name x e.0) h
  where
    test : (is_among x (names_in es) ≡ true → slice_get (values_in es ++ rest) (slot_of x (names_in es)) ≡ Some (find none x es)) → (b : Bool)
        → (if b then true else is_among x (names_in es)) ≡ true → slice_get (e.1 ∷ (values_in es ++ rest))
        (if b then 0 else suc (slot_of x (names_in es))) ≡ Some (if b then e.1 else find none x es)
    test more true h' = refl
    test more false h' = more h'

store_in : {A : Type 0} (x : Name) (v : A) (es : Entries A) (rest : List A) → is_among x (names_in es) ≡ true
    → slice_set (values_in es ++ rest) (slot_of x (names_in es)) v ≡ values_in (put x v es) ++ rest
store_in x v [] rest h = cc
store_in x v (e ∷ es) rest h = test (store_in x v es rest) (same_name x e.0) h
  where
    test : (is_among x (names_in es) ≡ true → slice_set (values_in es ++ rest) (slot_of x (names_in es)) v ≡ values_in (put x v es) ++ rest)
        → (b : Bool) → (if b then true else is_among x (names_in es)) ≡ true
        → slice_set (e.1 ∷ (values_in es ++ rest)) (if b then 0 else suc (slot_of x (names_in es))) v ≡ values_in (if b then (e.0, v) ∷ es else e ∷ put x v es) ++ rest
    test more true h' = refl
    test more false h' = ap (λ l. e.1 ∷ l) (more h')

pub put_names : {A : Type 0} (x : Name) (v : A) (es : Entries A) → names_in (put x v es) ≡ names_in es
put_names x v [] = refl
put_names x v (e ∷ es) = test (put_names x v es) (same_name x e.0)
  where
    test : names_in (put x v es) ≡ names_in es → (b : Bool) → names_in (if b then (e.0, v) ∷ es else e ∷ put x v es) ≡ e.0 ∷ names_in es
    test more true = refl
    test more false = ap (λ l. e.0 ∷ l) more

-- known names with the same slot are equal
pub slots_apart : (x y : Name) (names : List Name) → is_among x names ≡ true → is_among y names ≡ true → same_name x y ≡ false → slot_of x names ≢ slot_of y names
slots_apart x y [] hx hy other = cc
slots_apart x y (z ∷ names) hx hy other = test (slots_apart x y names) (same_name x z) (same_name y z) refl refl hx hy
  where
    test : (is_among x names ≡ true → is_among y names ≡ true → same_name x y ≡ false → slot_of x names ≢ slot_of y names) →
        (b c : Bool) → same_name x z ≡ b → same_name y z ≡ c → (if b then true else is_among x names) ≡ true → (if c then true else is_among y names) ≡ true →
        (if b then 0 else suc (slot_of x names)) ≢ (if c then 0 else suc (slot_of y names))
    test more true true ex ey hx hy = λ _. true≢false (sym ((bytes_eq-Decides x y).1 ((bytes_eq-Decides x z).0 ex ∙ sym ((bytes_eq-Decides y z).0 ey))) ∙ other)
    test more true false ex ey hx hy = λ e. omega (arith, e)
    test more false true ex ey hx hy = λ e. omega (arith, e)
    test more false false ex ey hx hy = λ e. more hx hy other (omega (arith, e))

-- a new name has the slot after the known names
pub slot_new : (x : Name) (names : List Name) → is_among x names ≡ false → slot_of x (names ++ x ∷ []) ≡ length names
slot_new x [] h = ap (λ b. if b then 0 else 1) ((bytes_eq-Decides x x).1 refl)
slot_new x (y ∷ names) h = test (slot_new x names) (same_name x y) h
  where
    test : (is_among x names ≡ false → slot_of x (names ++ x ∷ []) ≡ length names) → (b : Bool) → (if b then true else is_among x names) ≡ false
        → (if b then 0 else suc (slot_of x (names ++ x ∷ []))) ≡ suc (length names)
    test more true h' = cc
    test more false h' = ap suc (more h')

both_apart : {A : Type 0} (a : ℕ) (r s : Results A) → NotAwaited a r → NotAwaited a s → NotAwaited a (r ++ s)
both_apart a [] s h k = k
both_apart a (e ∷ r) s h k = (h.0, both_apart a r s h.1 k)

names_kept : {A : Type 0} (n : ℕ) (es : Entries A) → names_in (take n es) ≡ take n (names_in es)
names_kept zero es = refl
names_kept (suc n) [] = refl
names_kept (suc n) (e ∷ es) = ap (λ l. e.0 ∷ l) (names_kept n es)

values_split : {A : Type 0} (n : ℕ) (es : Entries A) → values_in es ≡ values_in (take n es) ++ values_in (drop n es)
values_split zero es = refl
values_split (suc n) [] = refl
values_split (suc n) (e ∷ es) = ap (λ l. e.1 ∷ l) (values_split n es)

-- a held name of `names` is among `names'` with the same slot, and it stays held
pub record Keeps (cuts : Bool) (names names' : List Name) (taken taken' : Taken) (depth : ℕ) : Type 0 where
  pub name : (x : Name) → is_among x names ≡ true → holds cuts depth x taken ≡ true → (is_among x names' ≡ true) × (slot_of x names' ≡ slot_of x names)
  pub hold : (x : Name) → is_among x names ≡ true → holds cuts depth x taken ≡ true → holds cuts depth x taken' ≡ true

-- held names stay held if more names are held
pub more_taken : (cuts : Bool) (names : List Name) (taken taken' : Taken)
    → ((depth : ℕ) (x : Name) → holds cuts depth x taken ≡ true → holds cuts depth x taken' ≡ true) → (depth : ℕ) → Keeps cuts names names taken taken' depth
more_taken cuts names taken taken' more depth = record { name = λ x h k. (h, refl); hold = λ x h k. more depth x k }

module _ (cuts : Bool) {A : Type 0} where
  -- a result waits for a name that a spawn of the sync block, or a cut if `cuts` is set, holds
  pub record HeldBy (names : List Name) (taken : Taken) (depth : ℕ) (r : ℕ × A) : Type 0 where
    pub name : Name
    pub declared : is_among name names ≡ true
    pub slot : slot_of name names ≡ r.0
    pub held : holds cuts depth name taken ≡ true

  -- each of these results waits for a held name
  abbrev pub AllHeld : List Name → Taken → ℕ → Results A → Type 0
  AllHeld names taken depth [] = Unit {0}
  AllHeld names taken depth (r ∷ results) = HeldBy names taken depth r × AllHeld names taken depth results

  -- in each sync block of the call, each result waits for a held name
  abbrev pub Levels : List Name → Taken → List (Results A) → Type 0
  Levels names taken [] = Unit {0}
  Levels names taken (results ∷ outer) = AllHeld names taken (suc (length outer)) results × Levels names taken outer

  -- the names of one kind are in their slots in the order of declaration, except those whose results wait for a join;
  -- each of these is held by a spawn of the sync block in which its result waits, or by a cut
  pub record AgreesOf (names : List Name) (taken : Taken) (entries : Entries A) (slots : Slots A) (waits : List (Results A)) : Type 0 where
    pub named : names_in entries ≡ names
    pub rest : List A
    pub held : settled (all_of waits) slots ≡ full (values_in entries ++ rest)
    pub levels : Levels names taken waits

  -- a free name is not the name that a spawn holds
  pub apart : (names : List Name) (taken : Taken) (x : Name) (depth : ℕ) (r : ℕ × A) → IsUsable names taken x → HeldBy names taken depth r → slot_of x names ≢ r.0
  apart names taken x depth r u h = test (same_name x h.name) refl
    where
      test : (b : Bool) → same_name x h.name ≡ b → slot_of x names ≢ r.0
      test true e = λ _. true≢false (sym (held_is_taken cuts depth h.name taken h.held) ∙ ap (is_taken taken) (sym ((bytes_eq-Decides x h.name).0 e)) ∙ u.free)
      test false e = λ at. slots_apart x h.name names u.declared h.declared e (at ∙ sym h.slot)

  -- no result waits for a free name
  pub is_free : (names : List Name) (taken : Taken) (x : Name) (waits : List (Results A)) → IsUsable names taken x → Levels names taken waits → NotAwaited (slot_of x names) (all_of waits)
  is_free names taken x [] u h = tt
  is_free names taken x (results ∷ outer) u h = both_apart (slot_of x names) results (all_of outer) (each results h.0) (is_free names taken x outer u h.1)
    where
      each : (rs : Results A) → AllHeld names taken (suc (length outer)) rs → NotAwaited (slot_of x names) rs
      each [] k = tt
      each (r ∷ rs) k = (apart names taken x (suc (length outer)) r u k.0, each rs k.1)

  -- no result waits for a slot after the slots of the names
  pub is_later : (names : List Name) (taken : Taken) (a : ℕ) (waits : List (Results A)) → length names ≤ a → Levels names taken waits → NotAwaited a (all_of waits)
  is_later names taken a [] le h = tt
  is_later names taken a (results ∷ outer) le h = both_apart a results (all_of outer) (each results h.0) (is_later names taken a outer le h.1)
    where
      each : (rs : Results A) → AllHeld names taken (suc (length outer)) rs → NotAwaited a rs
      each [] k = tt
      each (r ∷ rs) k = (λ e. omega (arith, le, e, slot_in k.0.name names k.0.declared, k.0.slot), each rs k.1)

  pub all_kept : (names names' : List Name) (taken taken' : Taken) (depth : ℕ) (results : Results A) → Keeps cuts names names' taken taken' depth
      → AllHeld names taken depth results → AllHeld names' taken' depth results
  all_kept names names' taken taken' depth [] k h = tt
  all_kept names names' taken taken' depth (r ∷ results) k h =
      let there = k.name h.0.name h.0.declared h.0.held in
      (record { name = h.0.name; declared = there.0; slot = there.1 ∙ h.0.slot; held = k.hold h.0.name h.0.declared h.0.held }, all_kept names names' taken taken' depth results k h.1)

  pub levels_kept : (names names' : List Name) (taken taken' : Taken) (waits : List (Results A))
      → ((depth : ℕ) → depth ≤ length waits → Keeps cuts names names' taken taken' depth) → Levels names taken waits → Levels names' taken' waits
  levels_kept names names' taken taken' [] k h = tt
  levels_kept names names' taken taken' (results ∷ outer) k h = (
    all_kept names names' taken taken' (suc (length outer)) results (k (suc (length outer)) (omega arith)) h.0,
    levels_kept names names' taken taken' outer (λ depth le. k depth (omega (arith, le))) h.1,
  )

  -- a name that is not taken has its value in its slot
  pub loads : (none : A) (names : List Name) (taken : Taken) (x : Name) (entries : Entries A) (slots : Slots A) (waits : List (Results A))
      → IsUsable names taken x → AgreesOf names taken entries slots waits → slice_get slots (slot_of x names) ≡ Some (Some (find none x entries))
  loads none names taken x entries slots waits u a =
      sym (get-settled (slot_of x names) (all_of waits) slots (is_free names taken x waits u a.levels))
      ∙ ap (λ l. slice_get l (slot_of x names)) a.held
      ∙ slice_get-map (λ v. Some v) (values_in entries ++ a.rest) (slot_of x names)
      ∙ ap (λ o. option_some o) (ap (λ ns. slice_get (values_in entries ++ a.rest) (slot_of x ns)) (sym a.named) ∙ load_in none x entries a.rest (ap (is_among x) a.named ∙ u.declared))
    where
      option_some : Option A → Option (Option A)
      option_some (Some v) = Some (Some v)
      option_some None = None

  -- a slot that no result waits for can be written
  pub is_there : (names : List Name) (taken : Taken) (a : ℕ) (entries : Entries A) (slots : Slots A) (waits : List (Results A))
      → NotAwaited a (all_of waits) → a < length slots → AgreesOf names taken entries slots waits → is_full (slice_get slots a) ≡ true
  is_there names taken a entries slots waits free within agrees =
      let all = values_in entries ++ agrees.rest in
      let n : length slots ≡ length all = sym (settled_count (all_of waits) slots) ∙ ap length agrees.held ∙ length-map all (λ v. Some v) in
      ap is_full (sym (get-settled a (all_of waits) slots free) ∙ ap (λ l. slice_get l a) agrees.held)
      ∙ full_is_full all a (omega (arith, n))

  -- the number of slots is the number of names and of the slots after them
  pub count_slots : (names : List Name) (taken : Taken) (entries : Entries A) (slots : Slots A) (waits : List (Results A))
      (a : AgreesOf names taken entries slots waits) → length slots ≡ length names + length a.rest
  count_slots names taken entries slots waits a =
      let n : length slots ≡ length (values_in entries ++ a.rest) = sym (settled_count (all_of waits) slots) ∙ ap length a.held ∙ length-map (values_in entries ++ a.rest) (λ v. Some v) in
      omega (arith, n, length-append (values_in entries) a.rest, length_names entries, ap length a.named)

  -- the slot of a name can be written
  pub can_write : (names : List Name) (taken : Taken) (x : Name) (entries : Entries A) (slots : Slots A) (waits : List (Results A))
      → IsUsable names taken x → AgreesOf names taken entries slots waits → is_full (slice_get slots (slot_of x names)) ≡ true
  can_write names taken x entries slots waits u a =
      is_there names taken (slot_of x names) entries slots waits (is_free names taken x waits u a.levels) (omega (arith, slot_in x names u.declared, count_slots names taken entries slots waits a)) a

  -- the slots after all joins, with one value written
  written : (names : List Name) (taken : Taken) (x : Name) (v : A) (entries : Entries A) (slots : Slots A) (waits : List (Results A))
      → IsUsable names taken x → (a : AgreesOf names taken entries slots waits) →
      settled (all_of waits) (slice_set slots (slot_of x names) (Some v)) ≡ full (values_in (put x v entries) ++ a.rest)
  written names taken x v entries slots waits u a =
      settled-set (slot_of x names) (Some v) (all_of waits) slots (is_free names taken x waits u a.levels)
      ∙ ap (λ l. slice_set l (slot_of x names) (Some v)) a.held
      ∙ sym (map-set (λ w. Some w) (values_in entries ++ a.rest) (slot_of x names) v)
      ∙ ap full (ap (λ ns. slice_set (values_in entries ++ a.rest) (slot_of x ns) v) (sym a.named) ∙ store_in x v entries a.rest (ap (is_among x) a.named ∙ u.declared))

  -- writes a value to the slot of a name that is not taken
  pub assigns : (names : List Name) (taken : Taken) (x : Name) (v : A) (entries : Entries A) (slots : Slots A) (waits : List (Results A))
      → IsUsable names taken x → AgreesOf names taken entries slots waits →
      AgreesOf names taken (put x v entries) (slice_set slots (slot_of x names) (Some v)) waits
  assigns names taken x v entries slots waits u a = record {
    named = put_names x v entries ∙ a.named;
    rest = a.rest;
    held = written names taken x v entries slots waits u a;
    levels = a.levels;
  }

  -- writes a value to the slot of a new name
  pub declares : (names : List Name) (taken : Taken) (x : Name) (v : A) (entries : Entries A) (slots : Slots A) (waits : List (Results A))
      → length names < length slots → AgreesOf names taken entries slots waits →
      AgreesOf (names ++ x ∷ []) taken (entries ++ (x, v) ∷ []) (slice_set slots (length names) (Some v)) waits
  declares names taken x v entries slots waits room a = cases a.rest a.held (omega (arith, count_slots names taken entries slots waits a, room))
    where
      free : NotAwaited (length names) (all_of waits)
      free = is_later names taken (length names) waits (omega arith) a.levels

      at : length names ≡ length (values_in entries)
      at = sym (length_names entries ∙ ap length a.named)

      kept : (depth : ℕ) → Keeps cuts names (names ++ x ∷ []) taken taken depth
      kept depth = record { name = λ y h k. (among_left y names (x ∷ []) h, slot_stays y names (x ∷ []) h); hold = λ y h k. k }

      cases : (rest : List A) → settled (all_of waits) slots ≡ full (values_in entries ++ rest) → 0 < length rest
          → AgreesOf (names ++ x ∷ []) taken (entries ++ (x, v) ∷ []) (slice_set slots (length names) (Some v)) waits
      cases [] held some = absurd (omega (arith, some))
      cases (r ∷ rest) held some = record {
        named = names_more entries x v ∙ ap (λ l. l ++ x ∷ []) a.named;
        rest = rest;
        held =
            settled-set (length names) (Some v) (all_of waits) slots free
            ∙ ap (λ l. slice_set l (length names) (Some v)) held
            ∙ sym (map-set (λ w. Some w) (values_in entries ++ r ∷ rest) (length names) v)
            ∙ ap full (ap (λ n. slice_set (values_in entries ++ r ∷ rest) n v) at
            ∙ set-append_seam (values_in entries) r rest v
            ∙ sym (append_assoc (values_in entries) (v ∷ []) rest)
            ∙ ap (λ l. l ++ rest) (sym (values_more entries x v)));
        levels = levels_kept names (names ++ x ∷ []) taken taken waits (λ depth le. kept depth) a.levels;
      }

  -- the slots still agree if more names are held
  pub takes : (names : List Name) (taken taken' : Taken) (entries : Entries A) (slots : Slots A) (waits : List (Results A))
      → ((depth : ℕ) (x : Name) → holds cuts depth x taken ≡ true → holds cuts depth x taken' ≡ true) → AgreesOf names taken entries slots waits →
      AgreesOf names taken' entries slots waits
  takes names taken taken' entries slots waits more a = record {
    named = a.named;
    rest = a.rest;
    held = a.held;
    levels = levels_kept names names taken taken' waits (λ depth le. more_taken cuts names taken taken' more depth) a.levels;
  }

  -- a result waits in the innermost sync block, and the slot of its name is empty
  pub awaits : (names : List Name) (taken taken' : Taken) (x : Name) (v : A) (entries : Entries A) (slots : Slots A) (results : Results A) (outer : List (Results A)) → IsUsable names taken x →
      ((d : ℕ) (y : Name) → holds cuts d y taken ≡ true → holds cuts d y taken' ≡ true) → holds cuts (suc (length outer)) x taken' ≡ true → AgreesOf names taken entries slots (results ∷ outer) →
      AgreesOf names taken' (put x v entries) (slice_set slots (slot_of x names) None) (((slot_of x names, v) ∷ results) ∷ outer)
  awaits names taken taken' x v entries slots results outer u more is a =
      let kept = levels_kept names names taken taken' (results ∷ outer) (λ d le. more_taken cuts names taken taken' more d) a.levels in
      record {
        named = put_names x v entries ∙ a.named;
        rest = a.rest;
        held = ap (settled (all_of (results ∷ outer))) (set-set slots (slot_of x names) None (Some v)) ∙ written names taken x v entries slots (results ∷ outer) u a;
        levels = ((record { name = x; declared = u.declared; slot = refl; held = is }, kept.0), kept.1);
      }

  -- at a join each result of its sync block returns to its slot
  pub joins : (names : List Name) (taken : Taken) (entries : Entries A) (slots : Slots A) (results : Results A) (outer : List (Results A)) → AgreesOf names taken entries slots (results ∷ outer) →
      AgreesOf names (freed (suc (length outer)) taken) entries (settled results slots) ([] ∷ outer)
  joins names taken entries slots results outer a = record {
    named = a.named;
    rest = a.rest;
    held = sym (settled_append results (all_of outer) slots) ∙ a.held;
    levels = (tt, levels_kept names names taken (freed (suc (length outer)) taken) outer kept a.levels.1);
  }
    where
      kept : (depth : ℕ) → depth ≤ length outer → Keeps cuts names names taken (freed (suc (length outer)) taken) depth
      kept depth le = record { name = λ x h k. (h, refl); hold = λ x h k. held_past cuts (suc (length outer)) depth x taken (λ e. omega (arith, le, e)) k }

  -- an inner sync block begins
  pub enters : (names : List Name) (taken : Taken) (entries : Entries A) (slots : Slots A) (waits : List (Results A))
      → AgreesOf names taken entries slots waits → AgreesOf names taken entries slots ([] ∷ waits)
  enters names taken entries slots waits a = record { named = a.named; rest = a.rest; held = a.held; levels = (tt, a.levels) }

  -- an inner sync block ends
  pub exits : (names : List Name) (taken : Taken) (entries : Entries A) (slots : Slots A) (waits : List (Results A))
      → AgreesOf names taken entries slots ([] ∷ waits) → AgreesOf names taken entries slots waits
  exits names taken entries slots waits a = record { named = a.named; rest = a.rest; held = a.held; levels = a.levels.1 }

  -- at the end of a block the scope of its names ends, and none of them is taken
  pub leaves_block : (names more own : List Name) (taken : Taken) (before entries : Entries A) (slots : Slots A) (waits : List (Results A)) → names_in before ≡ names →
      ((x : Name) → is_among x more ≡ true → is_among x own ≡ true) → ((x : Name) → is_among x own ≡ true → is_taken taken x ≡ false) →
      AgreesOf (names ++ more) taken entries slots waits → AgreesOf names (without own taken) (take (length before) entries) slots waits
  leaves_block names more own taken before entries slots waits known covers free b =
      let n = length before in
      let count : n ≡ length names = sym (count_names before) ∙ ap length known in
      record {
        named = names_kept n entries ∙ ap (take n) b.named ∙ ap (λ k. take k (names ++ more)) count ∙ take-append_seam names more;
        rest = values_in (drop n entries) ++ b.rest;
        held = b.held ∙ ap full (ap (λ l. l ++ b.rest) (values_split n entries) ∙ append_assoc (values_in (take n entries)) (values_in (drop n entries)) b.rest);
        levels = levels_kept (names ++ more) names taken (without own taken) waits (λ depth le. kept depth) b.levels;
      }
    where
      count_names : (es : Entries A) → length (names_in es) ≡ length es
      count_names [] = refl
      count_names (e ∷ es) = ap suc (count_names es)

      -- a held name does not belong to the block
      not_own : (depth : ℕ) (x : Name) → holds cuts depth x taken ≡ true → is_among x own ≡ false
      not_own depth x k = cases (is_among x own) refl
        where
          cases : (c : Bool) → is_among x own ≡ c → c ≡ false
          cases true e = absurd (true≢false (sym (held_is_taken cuts depth x taken k) ∙ free x e))
          cases false e = refl

      stays : (depth : ℕ) (x : Name) → is_among x (names ++ more) ≡ true → holds cuts depth x taken ≡ true → is_among x names ≡ true
      stays depth x h k = cases (is_among x names) refl
        where
          cases : (c : Bool) → is_among x names ≡ c → c ≡ true
          cases true e = refl
          cases false e = absurd (true≢false (sym (covers x (in_second x names more h e)) ∙ not_own depth x k))

      kept : (depth : ℕ) → Keeps cuts (names ++ more) names taken (without own taken) depth
      kept depth = record {
        name = λ x h k. (stays depth x h k, sym (slot_stays x names more (stays depth x h k)));
        hold = λ x h k. held_without cuts depth x own taken (not_own depth x k) k;
      }

  -- the slots after the names do not matter
  pub junk : (names : List Name) (taken : Taken) (i : ℕ) (v : A) (entries : Entries A) (slots : Slots A) (waits : List (Results A)) → length names ≤ i → AgreesOf names taken entries slots waits →
      AgreesOf names taken entries (slice_set slots i (Some v)) waits
  junk names taken i v entries slots waits le a = record {
    named = a.named;
    rest = slice_set a.rest (i - length (values_in entries)) v;
    held =
        settled-set i (Some v) (all_of waits) slots (is_later names taken i waits le a.levels)
        ∙ ap (λ l. slice_set l i (Some v)) a.held
        ∙ sym (map-set (λ w. Some w) (values_in entries ++ a.rest) i v)
        ∙ ap full (behind (values_in entries) a.rest i (omega (arith, le, length_names entries, ap length a.named)));
    levels = a.levels;
  }
    where
      behind : (xs rest : List A) (i : ℕ) → length xs ≤ i → slice_set (xs ++ rest) i v ≡ xs ++ slice_set rest (i - length xs) v
      behind [] rest i h = let e : i ≡ i - 0 = omega arith in ap (λ n. slice_set rest n v) e
      behind (x ∷ xs) rest zero h = absurd (omega (arith, h))
      behind (x ∷ xs) rest (suc i) h = let e : i - length xs ≡ suc i - suc (length xs) = omega arith in ap (λ l. x ∷ l) (behind xs rest i (omega (arith, h)) ∙ ap (λ n. xs ++ slice_set rest n v) e)

  -- at the end of a cut the slot of its array has a new value, and no result waits for it
  pub put_back : (names : List Name) (taken : Taken) (x : Name) (v w : A) (entries : Entries A) (slots : Slots A) (results : Results A)
      (outer : List (Results A)) → is_among x names ≡ true → NotAwaited (slot_of x names) (all_of (results ∷ outer)) →
      AgreesOf names taken entries slots (((slot_of x names, w) ∷ results) ∷ outer)
      → AgreesOf names (cut_ended x taken) (put x v entries) (slice_set slots (slot_of x names) (Some v)) (results ∷ outer)
  put_back names taken x v w entries slots results outer declared free a =
      let i = slot_of x names in
      let waits = all_of (results ∷ outer) in
      record {
        named = put_names x v entries ∙ a.named;
        rest = a.rest;
        held =
            ap (settled waits) (sym (set-set slots i (Some w) (Some v)))
            ∙ settled-set i (Some v) waits (slice_set slots i (Some w)) free
            ∙ ap (λ l. slice_set l i (Some v)) a.held
            ∙ sym (map-set (λ q. Some q) (values_in entries ++ a.rest) i v)
            ∙ ap full (ap (λ ns. slice_set (values_in entries ++ a.rest) (slot_of x ns) v) (sym a.named) ∙ store_in x v entries a.rest (ap (is_among x) a.named ∙ declared));
        levels = (kept (suc (length outer)) results (first_free results (all_of outer) free) a.levels.0.1, all_kept_past outer (second_free results (all_of outer) free) a.levels.1);
      }
    where
      first_free : (r s : Results A) → NotAwaited (slot_of x names) (r ++ s) → NotAwaited (slot_of x names) r
      first_free [] s h = tt
      first_free (e ∷ r) s h = (h.0, first_free r s h.1)

      second_free : (r s : Results A) → NotAwaited (slot_of x names) (r ++ s) → NotAwaited (slot_of x names) s
      second_free [] s h = h
      second_free (e ∷ r) s h = second_free r s h.1

      other : (y : Name) → slot_of x names ≢ slot_of y names → (b : Bool) → same_name x y ≡ b → b ≡ false
      other y apart true e = absurd (apart (ap (λ z. slot_of z names) ((bytes_eq-Decides x y).0 e)))
      other y apart false e = refl

      kept : (depth : ℕ) (rs : Results A) → NotAwaited (slot_of x names) rs → AllHeld names taken depth rs → AllHeld names (cut_ended x taken) depth rs
      kept depth [] h k = tt
      kept depth (r ∷ rs) h k = (
        record {
          name = k.0.name;
          declared = k.0.declared;
          slot = k.0.slot;
          held = held_past_cut cuts depth x k.0.name taken (other k.0.name (λ e. h.0 (e ∙ k.0.slot)) (same_name x k.0.name) refl) k.0.held;
        },
        kept depth rs h.1 k.1,
      )

      all_kept_past : (ws : List (Results A)) → NotAwaited (slot_of x names) (all_of ws) → Levels names taken ws → Levels names (cut_ended x taken) ws
      all_kept_past [] h k = tt
      all_kept_past (rs ∷ ws) h k = (kept (suc (length ws)) rs (first_free rs (all_of ws) h) k.0, all_kept_past ws (second_free rs (all_of ws) h) k.1)
