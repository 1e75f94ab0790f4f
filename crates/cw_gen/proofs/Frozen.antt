-- The arrays that spawns only read, as if the spawns had taken them: the rows of frozen arrays are built like the rows
-- of arrays that are gone.
use Rattle.std.proofs.Common.{◌≡◌, ℕ, ◌==◌, List, [], ◌∷◌, ◌++◌, Bool, true, false, not, ◌&&◌, if◌then◌else◌, cond, refl, sym, ap, ◌∙◌, inl, inr}
use Rattle.std.proofs.lemmas.Bool.{eqb-true, eq-eqb}
use Rattle.std.proofs.lemmas.Slice.Eq.{bytes_eq-Decides}
use Rattle.cw_facts.specs.Tests.{first_true, second_true}
use Rattle.cw_model.specs.Syntax.{Name}
use Rattle.cw_model.specs.Names.{same_name, is_among}
use Rattle.cw_model.specs.Ownership.{Holder, SpawnIn, ReaderIn, CutOf, Taken, is_taken, is_held, freed, without, cut_ended, taken_by, frozen_by, IsLeastClosed}
use Rattle.cw_gen.proofs.Takens.{holds}
use Rattle.cw_gen.proofs.FreeMembers.{In, in_contains, contains_in}

abbrev pub frozen_of : Taken → Taken
frozen_of [] = []
frozen_of ((x, SpawnIn d) ∷ taken) = frozen_of taken
frozen_of ((x, ReaderIn d) ∷ taken) = (x, SpawnIn d) ∷ frozen_of taken
frozen_of ((x, CutOf) ∷ taken) = frozen_of taken

pub frozen_both : (a b : Taken) → frozen_of (a ++ b) ≡ frozen_of a ++ frozen_of b
frozen_both [] b = refl
frozen_both ((x, SpawnIn d) ∷ a) b = frozen_both a b
frozen_both ((x, ReaderIn d) ∷ a) b = ap (λ l. (x, SpawnIn d) ∷ l) (frozen_both a b)
frozen_both ((x, CutOf) ∷ a) b = frozen_both a b

pub frozen_without : (own : List Name) (taken : Taken) → frozen_of (without own taken) ≡ without own (frozen_of taken)
frozen_without own [] = refl
frozen_without own ((x, SpawnIn d) ∷ taken) = test (is_among x own) (frozen_without own taken)
  where
    test : (b : Bool) → frozen_of (without own taken) ≡ without own (frozen_of taken)
        → frozen_of (cond (not b) ((x, SpawnIn d) ∷ without own taken) (without own taken)) ≡ without own (frozen_of taken)
    test true more = more
    test false more = more
frozen_without own ((x, CutOf) ∷ taken) = test (is_among x own) (frozen_without own taken)
  where
    test : (b : Bool) → frozen_of (without own taken) ≡ without own (frozen_of taken) → frozen_of (cond (not b) ((x, CutOf) ∷ without own taken) (without own taken)) ≡ without own (frozen_of taken)
    test true more = more
    test false more = more
frozen_without own ((x, ReaderIn d) ∷ taken) = test (is_among x own) (frozen_without own taken)
  where
    test : (b : Bool) → frozen_of (without own taken) ≡ without own (frozen_of taken) →
        frozen_of (cond (not b) ((x, ReaderIn d) ∷ without own taken) (without own taken)) ≡ cond (not b) ((x, SpawnIn d) ∷ without own (frozen_of taken)) (without own (frozen_of taken))
    test true more = more
    test false more = ap (λ l. (x, SpawnIn d) ∷ l) more

pub frozen_freed : (depth : ℕ) (taken : Taken) → frozen_of (freed depth taken) ≡ freed depth (frozen_of taken)
frozen_freed depth [] = refl
frozen_freed depth ((x, CutOf) ∷ taken) = frozen_freed depth taken
frozen_freed depth ((x, SpawnIn d) ∷ taken) = test (d == depth) (frozen_freed depth taken)
  where
    test : (b : Bool) → frozen_of (freed depth taken) ≡ freed depth (frozen_of taken)
        → frozen_of (cond (not b) ((x, SpawnIn d) ∷ freed depth taken) (freed depth taken)) ≡ freed depth (frozen_of taken)
    test true more = more
    test false more = more
frozen_freed depth ((x, ReaderIn d) ∷ taken) = test (d == depth) (frozen_freed depth taken)
  where
    test : (b : Bool) → frozen_of (freed depth taken) ≡ freed depth (frozen_of taken) →
        frozen_of (cond (not b) ((x, ReaderIn d) ∷ freed depth taken) (freed depth taken)) ≡ cond (not b) ((x, SpawnIn d) ∷ freed depth (frozen_of taken)) (freed depth (frozen_of taken))
    test true more = more
    test false more = ap (λ l. (x, SpawnIn d) ∷ l) more

-- the end of a cut keeps the arrays that are only read
pub frozen_past_cut : (a : Name) (taken : Taken) → frozen_of (cut_ended a taken) ≡ frozen_of taken
frozen_past_cut a [] = refl
frozen_past_cut a ((x, SpawnIn d) ∷ taken) = frozen_past_cut a taken
frozen_past_cut a ((x, ReaderIn d) ∷ taken) = ap (λ l. (x, SpawnIn d) ∷ l) (frozen_past_cut a taken)
frozen_past_cut a ((x, CutOf) ∷ taken) = test (same_name a x) (frozen_past_cut a taken)
  where
    test : (b : Bool) → frozen_of (cut_ended a taken) ≡ frozen_of taken → frozen_of (cond (not b) ((x, CutOf) ∷ cut_ended a taken) (cut_ended a taken)) ≡ frozen_of taken
    test true more = more
    test false more = more

-- a spawn keeps the arrays that are only read
pub frozen_taken : (depth : ℕ) (xs : List Name) (taken : Taken) → frozen_of (taken_by depth xs taken) ≡ frozen_of taken
frozen_taken depth [] taken = refl
frozen_taken depth (x ∷ xs) taken = frozen_taken depth xs taken

pub frozen_read : (depth : ℕ) (xs : List Name) (taken : Taken) → frozen_of (frozen_by depth xs taken) ≡ taken_by depth xs (frozen_of taken)
frozen_read depth [] taken = refl
frozen_read depth (x ∷ xs) taken = ap (λ l. (x, SpawnIn depth) ∷ l) (frozen_read depth xs taken)

-- skips the entry of another name
past : {P : Type 0} {held : Bool} → (held ≡ false → P) → (b : Bool) → (if b then true else held) ≡ false → P
past more true h = absurd cc
past more false h = more h

-- a name that is not held is not frozen
pub loose_thawed : (x : Name) (taken : Taken) → is_held taken x ≡ false → is_taken (frozen_of taken) x ≡ false
loose_thawed x [] h = refl
loose_thawed x ((y, SpawnIn d) ∷ taken) h = past (loose_thawed x taken) (same_name x y) h
loose_thawed x ((y, CutOf) ∷ taken) h = past (loose_thawed x taken) (same_name x y) h
loose_thawed x ((y, ReaderIn d) ∷ taken) h = test (loose_thawed x taken) (same_name x y) h
  where
    test : (is_held taken x ≡ false → is_taken (frozen_of taken) x ≡ false) → (b : Bool) → (if b then true else is_held taken x) ≡ false → (if b then true else is_taken (frozen_of taken) x) ≡ false
    test more true h' = cc
    test more false h' = more h'

-- a frozen name has a spawn of this block that only reads it
pub frozen_in : (d : ℕ) (x : Name) (us : Taken) → holds false d x (frozen_of us) ≡ true → In (x, ReaderIn d) us
frozen_in d x [] h = absurd cc
frozen_in d x ((y, SpawnIn e) ∷ us) h = inr (frozen_in d x us h)
frozen_in d x ((y, CutOf) ∷ us) h = inr (frozen_in d x us h)
frozen_in d x ((y, ReaderIn e) ∷ us) h = test (frozen_in d x us) (same_name x y && (e == d)) refl h
  where
    test : (holds false d x (frozen_of us) ≡ true → In (x, ReaderIn d) us) → (b : Bool) → (same_name x y && (e == d)) ≡ b
        → (if b then true else holds false d x (frozen_of us)) ≡ true → In (x, ReaderIn d) ((y, ReaderIn e) ∷ us)
    test more true is h' =
        let n : x ≡ y = (bytes_eq-Decides x y).0 (first_true (same_name x y) (e == d) is) in
        let k : e ≡ d = eqb-true e d (second_true (same_name x y) (e == d) is) in
        inl (ap (λ z. (z, ReaderIn e)) (sym n) ∙ ap (λ z. (x, ReaderIn z)) k)
    test more false is h' = inr (more h')

further : (d : ℕ) (x : Name) (u : Name × Holder) (us : Taken) → holds false d x (frozen_of us) ≡ true → holds false d x (frozen_of (u ∷ us)) ≡ true
further d x (y, SpawnIn e) us h = h
further d x (y, CutOf) us h = h
further d x (y, ReaderIn e) us h = test (same_name x y && (e == d))
  where
    test : (b : Bool) → (if b then true else holds false d x (frozen_of us)) ≡ true
    test true = refl
    test false = h

pub in_frozen : (d : ℕ) (x : Name) (us : Taken) → In (x, ReaderIn d) us → holds false d x (frozen_of us) ≡ true
in_frozen d x [] h = absurd h
in_frozen d x (u ∷ us) (inl e) =
    ap (λ t. holds false d x (frozen_of (t ∷ us))) e
    ∙ ap (λ b. if b && (d == d) then true else holds false d x (frozen_of us)) ((bytes_eq-Decides x x).1 refl)
    ∙ ap (λ b. if b then true else holds false d x (frozen_of us)) (eq-eqb d d refl)
in_frozen d x (u ∷ us) (inr h) = further d x u us (in_frozen d x us h)

-- arrays that an iteration leaves frozen were frozen before it
pub frozen_by_turns : (turn : Taken → Taken) (before after : Taken) → IsLeastClosed turn before after → (d : ℕ) (x : Name)
    → holds false d x (frozen_of (turn after)) ≡ true → holds false d x (frozen_of after) ≡ true
frozen_by_turns turn before after least d x h =
    in_frozen d x after (contains_in (x, ReaderIn d) after (least.closed (x, ReaderIn d) (in_contains (x, ReaderIn d) (turn after) (frozen_in d x (turn after) h))))
