-- The names that the spawns of one sync block hold.
use Rattle.std.proofs.Common.{◌≡◌, ◌≢◌, ℕ, zero, suc, ◌<◌, ◌==◌, List, [], ◌∷◌, ◌++◌, Bool, true, false, not, ◌&&◌, if◌then◌else◌, cond, refl}
use Rattle.std.proofs.Common.{sym, ap, ◌∙◌, arith, filter, Contains, ◌⊎◌, inl, inr, ⊎_elim, zero-lt-suc, true≢false, get_or}
use Rattle.std.specs.Prelude.{map}
use Rattle.std.proofs.lemmas.Bool.{eqb-true, eq-eqb}
use Rattle.std.proofs.lemmas.List.Elements.{Contains-append_right, Contains-append_cases}
use Rattle.std.proofs.lemmas.Slice.Eq.{bytes_eq-Decides}
use Rattle.cw_facts.specs.Tests.{first_true, second_true, not_true}
use Rattle.cw_model.specs.Syntax.{Name, Stmt, Declare, DeclareArray, Block, End, Then, Function}
use Rattle.cw_model.specs.Names.{same_name, is_among}
use Rattle.cw_model.specs.Lines.{unless}
use Rattle.cw_model.specs.Ownership.{Holder, SpawnIn, ReaderIn, CutOf, Taken, is_taken, is_held, is_spawn_in, is_cut_of, cut_ended, freed, without, taken_by, own_names, taken_after}
use Rattle.cw_model.specs.Ownership.{taken_after_all, IsLeastClosed, Around, Declared, left_taken, declared_by, known_after, Closing, at_end, owner_faults, owner_faults_in}
use Rattle.cw_model.specs.lemmas.Kept.{right_none}

-- the holder is a spawn of the sync block at this depth, or a cut if `cuts` is set
abbrev pub held_in : Bool → ℕ → Holder → Bool
held_in cuts depth (SpawnIn d) = d == depth
held_in cuts depth (ReaderIn d) = false
held_in cuts depth CutOf = cuts

-- skips the entry of another name
past : {taken held : Bool} → (held ≡ false → taken ≡ false) → (b : Bool) → (if b then true else held) ≡ false → (if b then true else taken) ≡ false
past more true h = cc
past more false h = more h

-- a name that is not held is not taken
pub loose_free : (x : Name) (taken : Taken) → is_held taken x ≡ false → is_taken taken x ≡ false
loose_free x [] h = refl
loose_free x ((y, ReaderIn d) ∷ taken) h = test (loose_free x taken) (same_name x y) h
  where
    test : (is_held taken x ≡ false → is_taken taken x ≡ false) → (b : Bool) → (if b then true else is_held taken x) ≡ false → is_taken taken x ≡ false
    test more true h' = cc
    test more false h' = more h'
loose_free x ((y, SpawnIn d) ∷ taken) h = past (loose_free x taken) (same_name x y) h
loose_free x ((y, CutOf) ∷ taken) h = past (loose_free x taken) (same_name x y) h

module _ (cuts : Bool) where
  abbrev pub is_held_in : ℕ → Holder → Bool
  is_held_in depth k = held_in cuts depth k

  -- a spawn of the sync block at this depth, or a cut if `cuts` is set, holds the name in this entry
  abbrev pub has : ℕ → Name → (Name × Holder) → Bool
  has depth x t = same_name x t.0 && is_held_in depth t.1

  -- some entry holds the name
  abbrev pub holds : ℕ → Name → Taken → Bool
  holds depth x [] = false
  holds depth x (t ∷ taken) = if has depth x t then true else holds depth x taken

  pub holds_behind : (depth : ℕ) (x : Name) (a b : Taken) → holds depth x b ≡ true → holds depth x (a ++ b) ≡ true
  holds_behind depth x [] b h = h
  holds_behind depth x (t ∷ a) b h = test (holds_behind depth x a b h) (has depth x t)
    where
      test : holds depth x (a ++ b) ≡ true → (c : Bool) → (if c then true else holds depth x (a ++ b)) ≡ true
      test more true = refl
      test more false = more

  pub holds_before : (depth : ℕ) (x : Name) (a b : Taken) → holds depth x a ≡ true → holds depth x (a ++ b) ≡ true
  holds_before depth x [] b h = cc
  holds_before depth x (t ∷ a) b h = test (holds_before depth x a b) (has depth x t) h
    where
      test : (holds depth x a ≡ true → holds depth x (a ++ b) ≡ true) → (c : Bool) → (if c then true else holds depth x a) ≡ true → (if c then true else holds depth x (a ++ b)) ≡ true
      test more true h' = refl
      test more false h' = more h'

  -- a name that is held is taken
  pub held_is_taken : (depth : ℕ) (x : Name) (taken : Taken) → holds depth x taken ≡ true → is_taken taken x ≡ true
  held_is_taken depth x [] h = cc
  held_is_taken depth x ((y, SpawnIn d) ∷ taken) h = test (held_is_taken depth x taken) (same_name x y) h
    where
      test : (holds depth x taken ≡ true → is_taken taken x ≡ true) → (b : Bool) → (if b && (d == depth) then true else holds depth x taken) ≡ true → (if b then true else is_taken taken x) ≡ true
      test more true h' = refl
      test more false h' = more h'
  held_is_taken depth x ((y, CutOf) ∷ taken) h = test (held_is_taken depth x taken) (same_name x y) h
    where
      test : (holds depth x taken ≡ true → is_taken taken x ≡ true) → (b : Bool) → (if b && cuts then true else holds depth x taken) ≡ true → (if b then true else is_taken taken x) ≡ true
      test more true h' = refl
      test more false h' = more h'
  held_is_taken depth x ((y, ReaderIn d) ∷ taken) h = test (held_is_taken depth x taken) (same_name x y) h
    where
      test : (holds depth x taken ≡ true → is_taken taken x ≡ true) → (b : Bool) → (if b && false then true else holds depth x taken) ≡ true → is_taken taken x ≡ true
      test more true h' = more h'
      test more false h' = more h'

  pub not_held : (depth : ℕ) (x : Name) (taken : Taken) → is_taken taken x ≡ false → holds depth x taken ≡ false
  not_held depth x taken h = cases (holds depth x taken) refl
    where
      cases : (b : Bool) → holds depth x taken ≡ b → b ≡ false
      cases true e = absurd (true≢false (sym (held_is_taken depth x taken e) ∙ h))
      cases false e = refl

  -- a join of one sync block keeps the names that another one holds
  pub held_past : (depth other : ℕ) (x : Name) (taken : Taken) → other ≢ depth → holds other x taken ≡ true → holds other x (freed depth taken) ≡ true
  held_past depth other x [] apart h = cc
  held_past depth other x (t ∷ taken) apart h = test (held_past depth other x taken apart) (is_spawn_in depth t.1) (has other x t) refl refl h
    where
      both : (k : Holder) → is_spawn_in depth k ≡ true → is_held_in other k ≡ false
      both (SpawnIn d) e = cases (d == other) refl
        where
          cases : (b : Bool) → (d == other) ≡ b → b ≡ false
          cases true e' = absurd (apart (sym (eqb-true d other e') ∙ eqb-true d depth e))
          cases false e' = refl
      both (ReaderIn d) e = refl
      both CutOf e = cc

      test : (holds other x taken ≡ true → holds other x (freed depth taken) ≡ true) → (b c : Bool) → is_spawn_in depth t.1 ≡ b → has other x t ≡ c
          → (if c then true else holds other x taken) ≡ true → holds other x (cond (not b) (t ∷ freed depth taken) (freed depth taken)) ≡ true
      test more true true e e' h' = absurd (true≢false (sym (second_true (same_name x t.0) (is_held_in other t.1) e') ∙ both t.1 e))
      test more true false e e' h' = more h'
      test more false true e e' h' = ap (λ c. if c then true else holds other x (freed depth taken)) e'
      test more false false e e' h' = ap (λ c. if c then true else holds other x (freed depth taken)) e' ∙ more h'

  pub same_among : (x y : Name) (names : List Name) → same_name x y ≡ true → is_among y names ≡ true → is_among x names ≡ true
  same_among x y names e h = ap (λ z. is_among z names) ((bytes_eq-Decides x y).0 e) ∙ h

  -- removing other names keeps a name held
  pub held_without : (depth : ℕ) (x : Name) (own : List Name) (taken : Taken) → is_among x own ≡ false → holds depth x taken ≡ true → holds depth x (without own taken) ≡ true
  held_without depth x own [] apart h = cc
  held_without depth x own (t ∷ taken) apart h = test (held_without depth x own taken apart) (is_among t.0 own) (has depth x t) refl refl h
    where
      test : (holds depth x taken ≡ true → holds depth x (without own taken) ≡ true) → (b c : Bool) → is_among t.0 own ≡ b → has depth x t ≡ c
          → (if c then true else holds depth x taken) ≡ true → holds depth x (cond (not b) (t ∷ without own taken) (without own taken)) ≡ true
      test more true true e e' h' = absurd (true≢false (sym (same_among x t.0 own (first_true (same_name x t.0) (is_held_in depth t.1) e') e) ∙ apart))
      test more true false e e' h' = more h'
      test more false true e e' h' = ap (λ c. if c then true else holds depth x (without own taken)) e'
      test more false false e e' h' = ap (λ c. if c then true else holds depth x (without own taken)) e' ∙ more h'

  -- a spawn takes each of its names
  pub held_by_spawn : (depth : ℕ) (x : Name) (xs : List Name) (taken : Taken) → is_among x xs ≡ true → holds depth x (taken_by depth xs taken) ≡ true
  held_by_spawn depth x [] taken h = cc
  held_by_spawn depth x (y ∷ xs) taken h = test (held_by_spawn depth x xs taken) (same_name x y) h
    where
      test : (is_among x xs ≡ true → holds depth x (taken_by depth xs taken) ≡ true) → (b : Bool) → (if b then true else is_among x xs) ≡ true
          → (if b && (depth == depth) then true else holds depth x (taken_by depth xs taken)) ≡ true
      test more true h' = ap (λ b. if b then true else holds depth x (taken_by depth xs taken)) (eq-eqb depth depth refl)
      test more false h' = more h'

  contains_held : (depth : ℕ) (x : Name) (taken : Taken) → holds depth x taken ≡ true → (k : Holder) × (is_held_in depth k ≡ true) × Contains taken (x, k)
  contains_held depth x [] h = cc
  contains_held depth x (t ∷ taken) h = test (contains_held depth x taken) (has depth x t) refl h
    where
      test : (holds depth x taken ≡ true → (k : Holder) × (is_held_in depth k ≡ true) × Contains taken (x, k)) → (b : Bool) → has depth x t ≡ b
          → (if b then true else holds depth x taken) ≡ true → (k : Holder) × (is_held_in depth k ≡ true) × Contains (t ∷ taken) (x, k)
      test more true e h' =
          let n : t.0 ≡ x = sym ((bytes_eq-Decides x t.0).0 (first_true (same_name x t.0) (is_held_in depth t.1) e)) in
          (t.1, second_true (same_name x t.0) (is_held_in depth t.1) e, (0, zero-lt-suc _, ap (λ m. (m, t.1)) n))
      test more false e h' =
          let rest = more h' in
          (rest.0, rest.1, Contains-append_right (t ∷ []) taken (x, rest.0) rest.2)

  held_contained : (depth : ℕ) (x : Name) (k : Holder) → is_held_in depth k ≡ true → (taken : Taken) → Contains taken (x, k) → holds depth x taken ≡ true
  held_contained depth x k is [] c = absurd (omega (arith, c.1))
  held_contained depth x k is (t ∷ taken) c = ⊎_elim (λ here. first here)
      (λ later. holds_behind depth x (t ∷ []) taken (held_contained depth x k is taken later)) (Contains-append_cases (t ∷ []) taken (x, k) c)
    where
      only : (n : ℕ) → n < 1 → get_or (t ∷ []) n (x, k) ≡ (x, k) → t ≡ (x, k)
      only zero l e = e
      only (suc n) l e = absurd (omega arith)

      first : Contains (t ∷ []) (x, k) → holds depth x (t ∷ taken) ≡ true
      first here =
          let e : t ≡ (x, k) = only here.0 here.1 here.2 in
          ap (λ p. if has depth x p then true else holds depth x taken) e
          ∙ ap (λ b. if b && is_held_in depth k then true else holds depth x taken) ((bytes_eq-Decides x x).1 refl)
          ∙ ap (λ b. if b then true else holds depth x taken) is

  -- names that an iteration leaves held were held before it
  pub held_by_turns : (turn : Taken → Taken) (before after : Taken) → IsLeastClosed turn before after → (d : ℕ) (x : Name) → holds d x (turn after) ≡ true → holds d x after ≡ true
  held_by_turns turn before after least d x h =
      let c = contains_held d x (turn after) h in
      held_contained d x c.0 c.1 after (least.closed (x, c.0) c.2)

  -- the end of a cut keeps other held names
  pub held_past_cut : (depth : ℕ) (a x : Name) (taken : Taken) → same_name a x ≡ false → holds depth x taken ≡ true → holds depth x (cut_ended a taken) ≡ true
  held_past_cut depth a x [] apart h = cc
  held_past_cut depth a x (t ∷ taken) apart h = test (held_past_cut depth a x taken apart) (is_cut_of a t) (has depth x t) refl refl h
    where
      other : (t : Name × Holder) → is_cut_of a t ≡ true → has depth x t ≡ true → true ≡ false
      other (y, SpawnIn d) e e' = cc
      other (y, ReaderIn d) e e' = cc
      other (y, CutOf) e e' =
          let same : x ≡ y = (bytes_eq-Decides x y).0 (first_true (same_name x y) cuts e') in
          sym (ap (same_name a) same ∙ e) ∙ apart

      test : (holds depth x taken ≡ true → holds depth x (cut_ended a taken) ≡ true) → (b c : Bool) → is_cut_of a t ≡ b → has depth x t ≡ c
          → (if c then true else holds depth x taken) ≡ true → holds depth x (cond (not b) (t ∷ cut_ended a taken) (cut_ended a taken)) ≡ true
      test more true true e e' h' = absurd (true≢false (other t e e'))
      test more true false e e' h' = more h'
      test more false true e e' h' = ap (λ c. if c then true else holds depth x (cut_ended a taken)) e'
      test more false false e e' h' = ap (λ c. if c then true else holds depth x (cut_ended a taken)) e' ∙ more h'

-- the end of a cut keeps the names that spawns hold
pub spawn_past_cut : (depth : ℕ) (a x : Name) (taken : Taken) → holds false depth x taken ≡ true → holds false depth x (cut_ended a taken) ≡ true
spawn_past_cut depth a x [] h = cc
spawn_past_cut depth a x (t ∷ taken) h = test (spawn_past_cut depth a x taken) (is_cut_of a t) (has false depth x t) refl refl h
  where
    other : (t : Name × Holder) → is_cut_of a t ≡ true → has false depth x t ≡ true → true ≡ false
    other (y, SpawnIn d) e e' = cc
    other (y, ReaderIn d) e e' = cc
    other (y, CutOf) e e' = sym (second_true (same_name x y) false e')

    test : (holds false depth x taken ≡ true → holds false depth x (cut_ended a taken) ≡ true) → (b c : Bool) → is_cut_of a t ≡ b
        → has false depth x t ≡ c → (if c then true else holds false depth x taken) ≡ true
        → holds false depth x (cond (not b) (t ∷ cut_ended a taken) (cut_ended a taken)) ≡ true
    test more true true e e' h' = absurd (true≢false (other t e e'))
    test more true false e e' h' = more h'
    test more false true e e' h' = ap (λ c. if c then true else holds false depth x (cut_ended a taken)) e'
    test more false false e e' h' = ap (λ c. if c then true else holds false depth x (cut_ended a taken)) e' ∙ more h'

none_left : (b : Bool) (line : ℕ) (more : List ℕ) → unless b line ++ more ≡ [] → b ≡ true
none_left true line more h = refl
none_left false line more h = cc

more_left : (b : Bool) (line : ℕ) (more : List ℕ) → unless b line ++ more ≡ [] → more ≡ []
more_left true line more h = h
more_left false line more h = cc

-- the names that a block has declared so far are not held
left_free : (declared : Declared) (taken : Taken) (x : Name) → left_taken declared taken ≡ [] → is_among x (map (λ d. d.0) declared) ≡ true → is_held taken x ≡ false
left_free [] taken x h among = cc
left_free (d ∷ declared) taken x h among = test (left_free declared taken x (more_left (not (is_held taken d.0)) d.1 (left_taken declared taken) h)) (same_name x d.0) refl among
  where
    free : is_held taken d.0 ≡ false
    free = not_true (is_held taken d.0) (none_left (not (is_held taken d.0)) d.1 (left_taken declared taken) h)

    test : (is_among x (map (λ d'. d'.0) declared) ≡ true → is_held taken x ≡ false) → (b : Bool) → same_name x d.0 ≡ b
        → (if b then true else is_among x (map (λ d'. d'.0) declared)) ≡ true → is_held taken x ≡ false
    test more true e h' = ap (is_held taken) ((bytes_eq-Decides x d.0).0 e) ∙ free
    test more false e h' = more h'

-- at the end of a block no name that it declared is held
pub ends_free : (fs : List Function) (around : Around) (known : List Name) (depth : ℕ) (closing : Closing) (taken : Taken) (declared : Declared)
    (b : Block) → owner_faults_in fs around known depth closing taken declared b ≡ [] → (x : Name) →
    is_among x (map (λ d. d.0) declared) ≡ true ⊎ is_among x (own_names b) ≡ true → is_held (at_end closing depth (taken_after_all fs depth b taken)) x ≡ false
ends_free fs around known depth closing taken declared End h x (inl among) = left_free declared (at_end closing depth taken) x h among
ends_free fs around known depth closing taken declared End h x (inr among) = cc
ends_free fs around known depth closing taken declared (Then line s b) h x among =
    ends_free fs around (known_after known s) depth closing (taken_after fs depth s taken) (declared_by line s declared) b
    (right_none (owner_faults fs around known depth taken line s) _ h) x (moved s among)
  where
    one : (y : Name) → is_among x (map (λ d. d.0) declared) ≡ true ⊎ (if same_name x y then true else is_among x (own_names b)) ≡ true
        → (if same_name x y then true else is_among x (map (λ d. d.0) declared)) ≡ true ⊎ is_among x (own_names b) ≡ true
    one y a = test (same_name x y) a
      where
        test : (c : Bool) → is_among x (map (λ d. d.0) declared) ≡ true ⊎ (if c then true else is_among x (own_names b)) ≡ true
            → (if c then true else is_among x (map (λ d. d.0) declared)) ≡ true ⊎ is_among x (own_names b) ≡ true
        test true a' = inl refl
        test false a' = a'

    moved : (s : Stmt) → is_among x (map (λ d. d.0) declared) ≡ true ⊎ is_among x (own_names (Then line s b)) ≡ true
        → is_among x (map (λ d. d.0) (declared_by line s declared)) ≡ true ⊎ is_among x (own_names b) ≡ true
    moved (Declare y e) a = one y a
    moved (DeclareArray y e) a = one y a
    moved _ a = a

-- two filters commute
filters_swap : {X : Type 0} (p q : X → Bool) (xs : List X) → filter p (filter q xs) ≡ filter q (filter p xs)
filters_swap p q [] = refl
filters_swap {X} p q (x ∷ xs) = test (filters_swap p q xs) (p x) (q x) refl refl
  where
    test : filter p (filter q xs) ≡ filter q (filter p xs) → (b c : Bool) → p x ≡ b → q x ≡ c → filter p (cond c (x ∷ filter q xs) (filter q xs)) ≡ filter q (cond b (x ∷ filter p xs) (filter p xs))
    test more true true e e' = ap (λ z. cond z (x ∷ filter p (filter q xs)) (filter p (filter q xs))) e ∙ ap (λ l. x ∷ l) more
        ∙ sym (ap (λ z. cond z (x ∷ filter q (filter p xs)) (filter q (filter p xs))) e')
    test more true false e e' = more ∙ sym (ap (λ z. cond z (x ∷ filter q (filter p xs)) (filter q (filter p xs))) e')
    test more false true e e' = ap (λ z. cond z (x ∷ filter p (filter q xs)) (filter p (filter q xs))) e ∙ more
    test more false false e e' = more

-- the scope of a block's names may end before or after the join at its end
pub freed_without : (depth : ℕ) (own : List Name) (taken : Taken) → without own (freed depth taken) ≡ freed depth (without own taken)
freed_without depth own taken = filters_swap _ _ taken
