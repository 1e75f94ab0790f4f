-- The holders of a name, by a test of holders.
use Rattle.std.proofs.Common.{◌≡◌, ℕ, Bool, true, false, not, ◌&&◌, ◌||◌, cond, filter, map, List, [], ◌∷◌, ◌++◌, refl, sym, ap, ◌∙◌}
use Rattle.std.proofs.lemmas.Slice.Eq.{bytes_eq-Decides}
use Rattle.std.proofs.Math.Bool.{and-false, or_assoc, and-true}
use Rattle.cw_model.specs.Syntax.{Name}
use Rattle.cw_model.specs.Names.{same_name, is_among}
use Rattle.cw_model.specs.Ownership.{Holder, SpawnIn, ReaderIn, CutOf, Taken, is_reader, is_taken, is_held, is_spawn_in, freed, is_cut_of, cut_ended, without}
use Rattle.cw_own.proofs.Words.{if_or, none_of_both}

-- a holder that passes the test holds the name
abbrev pub held : (Holder → Bool) → Taken → Name → Bool
held p [] x = false
held p (t ∷ taken) x = (same_name x t.0 && p t.1) || held p taken x

abbrev pub any_holder : Holder → Bool
any_holder h = true

abbrev pub is_cut : Holder → Bool
is_cut (SpawnIn d) = false
is_cut (ReaderIn d) = false
is_cut CutOf = true

-- the holder does not only read
abbrev pub no_reader : Holder → Bool
no_reader h = not (is_reader h)

-- the holder passes the test, and it is not a spawn of this sync block
abbrev pub but_spawn : ℕ → (Holder → Bool) → Holder → Bool
but_spawn depth p h = p h && not (is_spawn_in depth h)

-- the holder passes the test, and it is not a cut
abbrev pub but_cut : (Holder → Bool) → Holder → Bool
but_cut p h = p h && not (is_cut h)

pub held_is : (taken : Taken) (x : Name) → is_held taken x ≡ held any_holder taken x
held_is [] x = refl
held_is (t ∷ taken) x =
    if_or (same_name x t.0) (is_held taken x)
    ∙ ap (λ b. b || is_held taken x) (sym (and-true (same_name x t.0)))
    ∙ ap (λ b. (same_name x t.0 && true) || b) (held_is taken x)

pub taken_is : (taken : Taken) (x : Name) → is_taken taken x ≡ held no_reader taken x
taken_is [] x = refl
taken_is (t ∷ taken) x = by (not (is_reader t.1)) refl (taken_is taken x)
  where
    by : (b : Bool) → not (is_reader t.1) ≡ b → is_taken taken x ≡ held no_reader taken x →
        is_among x (map (λ t. t.0) (cond b (t ∷ filter (λ t. not (is_reader t.1)) taken) (filter (λ t. not (is_reader t.1)) taken)))
        ≡ ((same_name x t.0 && not (is_reader t.1)) || held no_reader taken x)
    by true e h =
        if_or (same_name x t.0) (is_taken taken x)
        ∙ ap (λ b. b || is_taken taken x) (sym (ap (λ b. same_name x t.0 && b) e ∙ and-true (same_name x t.0)))
        ∙ ap (λ b. (same_name x t.0 && not (is_reader t.1)) || b) h
    by false e h =
        h
        ∙ sym (ap (λ b. (same_name x t.0 && b) || held no_reader taken x) e ∙ ap (λ b. b || held no_reader taken x) (and-false (same_name x t.0)))

pub held_append : (p : Holder → Bool) (xs ys : Taken) (x : Name) → held p (xs ++ ys) x ≡ (held p xs x || held p ys x)
held_append p [] ys x = refl
held_append p (t ∷ xs) ys x =
    ap (λ b. (same_name x t.0 && p t.1) || b) (held_append p xs ys x)
    ∙ sym (or_assoc (same_name x t.0 && p t.1) (held p xs x) (held p ys x))

pub held_freed : (depth : ℕ) (p : Holder → Bool) (taken : Taken) (x : Name) → held p (freed depth taken) x ≡ held (but_spawn depth p) taken x
held_freed depth p [] x = refl
held_freed depth p (t ∷ taken) x = by (not (is_spawn_in depth t.1)) refl (held_freed depth p taken x)
  where
    by : (b : Bool) → not (is_spawn_in depth t.1) ≡ b → held p (freed depth taken) x ≡ held (but_spawn depth p) taken x →
        held p (cond b (t ∷ freed depth taken) (freed depth taken)) x ≡ ((same_name x t.0 && (p t.1 && not (is_spawn_in depth t.1))) || held (but_spawn depth p) taken x)
    by true e h =
        ap (λ r. (same_name x t.0 && p t.1) || r) h
        ∙ ap (λ b. (same_name x t.0 && b) || held (but_spawn depth p) taken x) (sym (ap (λ b. p t.1 && b) e ∙ and-true (p t.1)))
    by false e h = h ∙ ap (λ b. b || held (but_spawn depth p) taken x) (sym (ap (λ b. same_name x t.0 && (p t.1 && b)) e ∙ none_of_both (same_name x t.0) (p t.1)))

pub held_without : (names : List Name) (p : Holder → Bool) (taken : Taken) (x : Name) → held p (without names taken) x ≡ (not (is_among x names) && held p taken x)
held_without names p [] x = sym (and-false (not (is_among x names)))
held_without names p (t ∷ taken) x = by (not (is_among t.0 names)) refl (held_without names p taken x)
  where
    by : (b : Bool) → not (is_among t.0 names) ≡ b → held p (without names taken) x ≡ (not (is_among x names) && held p taken x) →
        held p (cond b (t ∷ without names taken) (without names taken)) x ≡ (not (is_among x names) && ((same_name x t.0 && p t.1) || held p taken x))
    by true e h = ap (λ r. (same_name x t.0 && p t.1) || r) h ∙ here (same_name x t.0) refl
      where
        here : (s : Bool) → same_name x t.0 ≡ s → ((s && p t.1) || (not (is_among x names) && held p taken x)) ≡ (not (is_among x names) && ((s && p t.1) || held p taken x))
        here true same =
            let free : not (is_among x names) ≡ true = ap (λ n. not (is_among n names)) ((bytes_eq-Decides x t.0).0 same) ∙ e in
            ap (λ b. p t.1 || (b && held p taken x)) free ∙ sym (ap (λ b. b && (p t.1 || held p taken x)) free)
        here false same = refl
    by false e h = h ∙ here (same_name x t.0) refl
      where
        here : (s : Bool) → same_name x t.0 ≡ s → (not (is_among x names) && held p taken x) ≡ (not (is_among x names) && ((s && p t.1) || held p taken x))
        here true same =
            let shut : not (is_among x names) ≡ false = ap (λ n. not (is_among n names)) ((bytes_eq-Decides x t.0).0 same) ∙ e in
            ap (λ b. b && held p taken x) shut ∙ sym (ap (λ b. b && (p t.1 || held p taken x)) shut)
        here false same = refl

-- the end of a cut frees its array, and no other name
abbrev pub uncut_test : Name → (Holder → Bool) → Name → Holder → Bool
uncut_test a p x h = p h && not (same_name a x && is_cut h)

pub held_uncut : (a : Name) (p : Holder → Bool) (taken : Taken) (x : Name) → held p (cut_ended a taken) x ≡ held (uncut_test a p x) taken x
held_uncut a p [] x = refl
held_uncut a p ((n, h) ∷ taken) x = by (not (is_cut_of a (n, h))) refl (held_uncut a p taken x)
  where
    cut_is : (h : Holder) → same_name x n ≡ true → is_cut_of a (n, h) ≡ (same_name a x && is_cut h)
    cut_is (SpawnIn d) s = sym (and-false (same_name a x))
    cut_is (ReaderIn d) s = sym (and-false (same_name a x))
    cut_is CutOf s = ap (same_name a) (sym ((bytes_eq-Decides x n).0 s)) ∙ sym (and-true (same_name a x))

    by : (b : Bool) → not (is_cut_of a (n, h)) ≡ b → held p (cut_ended a taken) x ≡ held (uncut_test a p x) taken x →
        held p (cond b ((n, h) ∷ cut_ended a taken) (cut_ended a taken)) x ≡ ((same_name x n && (p h && not (same_name a x && is_cut h))) || held (uncut_test a p x) taken x)
    by true e i = ap (λ r. (same_name x n && p h) || r) i ∙ ap (λ b. b || held (uncut_test a p x) taken x) (here (same_name x n) refl)
      where
        here : (s : Bool) → same_name x n ≡ s → (s && p h) ≡ (s && (p h && not (same_name a x && is_cut h)))
        here true same = sym (ap (λ b. p h && not b) (sym (cut_is h same)) ∙ ap (λ b. p h && b) e ∙ and-true (p h))
        here false same = refl
    by false e i = i ∙ ap (λ b. b || held (uncut_test a p x) taken x) (here (same_name x n) refl)
      where
        here : (s : Bool) → same_name x n ≡ s → false ≡ (s && (p h && not (same_name a x && is_cut h)))
        here true same = sym (and-false (p h)) ∙ ap (λ b. p h && b) (sym e) ∙ ap (λ b. p h && not b) (cut_is h same)
        here false same = refl

-- equal tests of holders give the same result
pub held_same : (p q : Holder → Bool) (taken : Taken) (x : Name) → ((h : Holder) → p h ≡ q h) → held p taken x ≡ held q taken x
held_same p q taken x h = ap (λ f. held f taken x) (λ i. λ k. h k i)
