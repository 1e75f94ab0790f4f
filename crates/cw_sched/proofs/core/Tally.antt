-- Lists of numbers beside the places of jobs: each number is counted where its place says.
use Rattle.std.proofs.Common.{◌≡◌, ◌≢◌, ℕ, zero, suc, ◌+◌, Bool, true, false, List, [], ◌∷◌, ◌++◌, Option, Some, None, refl, sym, ap, ◌∙◌, inl, inr, arith, length}
use Rattle.std.specs.Prelude.{slice_get, slice_set, nat_eq, is_some}
use Rattle.std.proofs.lemmas.Bool.Decides.{eqb_tells}
use Rattle.std.proofs.lemmas.Option.{same_Some}
use Rattle.cw_facts.specs.Tests.{not_equal, equal}
use Rattle.cw_code.specs.Worlds.{Place}
use Rattle.cw_sched.specs.core.Board.{pushed, newest, but_newest, oldest, but_oldest, of_worker, or_none}
use Rattle.cw_sched.specs.core.Laws.{one_if, times}

module _ {A : Type 0} where
  pub set_here : (xs : List A) (i : ℕ) (old x : A) → slice_get xs i ≡ Some old → slice_get (slice_set xs i x) i ≡ Some x
  set_here [] i old x h = cc
  set_here (y ∷ xs) zero old x h = refl
  set_here (y ∷ xs) (suc i) old x h = set_here xs i old x h

  pub set_there : (xs : List A) (i k : ℕ) (x : A) → k ≢ i → slice_get (slice_set xs i x) k ≡ slice_get xs k
  set_there [] i k x n = refl
  set_there (y ∷ xs) zero zero x n = absurd (n refl)
  set_there (y ∷ xs) zero (suc k) x n = refl
  set_there (y ∷ xs) (suc i) zero x n = refl
  set_there (y ∷ xs) (suc i) (suc k) x n = set_there xs i k x (λ e. n (ap suc e))

  pub set_twice : (xs : List A) (i : ℕ) (x y : A) → slice_set (slice_set xs i x) i y ≡ slice_set xs i y
  set_twice [] i x y = refl
  set_twice (z ∷ xs) zero x y = refl
  set_twice (z ∷ xs) (suc i) x y = ap (λ l. z ∷ l) (set_twice xs i x y)

  -- what is there stays there, whatever is set
  pub still_some : (xs : List A) (i k : ℕ) (old x : A) → slice_get xs i ≡ Some old → (y : A) × (slice_get (slice_set xs k x) i ≡ Some y)
  still_some xs i k old x h = elim (eqb_tells i k) [
    | inl p ↦ (x, ap (slice_get (slice_set xs k x)) p.1 ∙ set_here xs k old x (ap (slice_get xs) (sym p.1) ∙ h))
    | inr p ↦ (old, set_there xs k i x p.1 ∙ h)
  ]

  pub grown_same : {B : Type 0} (g : Option A → B) (xs : List A) (x : A) (n : ℕ) → g (Some x) ≡ g None → g (slice_get (xs ++ x ∷ []) n) ≡ g (slice_get xs n)
  grown_same g [] x zero e = e
  grown_same g [] x (suc n) e = refl
  grown_same g (y ∷ xs) x zero e = refl
  grown_same g (y ∷ xs) x (suc n) e = grown_same g xs x n e

  pub some_there : (o : Option A) → is_some o ≡ true → (x : A) × (o ≡ Some x)
  some_there None h = cc
  some_there (Some x) h = (x, refl)

-- two lists of one length have the same places
pub beside : {A B : Type 0} (xs : List A) (ys : List B) (n : ℕ) (y : B) → length xs ≡ length ys → slice_get ys n ≡ Some y → (x : A) × (slice_get xs n ≡ Some x)
beside xs [] n y e h = cc
beside [] (z ∷ ys) n y e h = absurd (omega (arith, e))
beside (x ∷ xs) (z ∷ ys) zero y e h = (x, refl)
beside (x ∷ xs) (z ∷ ys) (suc n) y e h = beside xs ys n y (omega (arith, e)) h

pub pushed_times : (n i : ℕ) (xs : List ℕ) → times n (pushed xs i) ≡ times n xs + one_if (nat_eq n i)
pushed_times n i [] = omega arith
pushed_times n i (x ∷ xs) = let e = pushed_times n i xs in omega (arith, e)

pub newest_times : (n i : ℕ) (xs : List ℕ) → newest xs ≡ Some i → times n xs ≡ times n (but_newest xs) + one_if (nat_eq n i)
newest_times n i [] h = cc
newest_times n i (x ∷ []) h = let e : one_if (nat_eq n x) ≡ one_if (nat_eq n i) = ap (λ k. one_if (nat_eq n k)) (same_Some x i h) in omega (arith, e)
newest_times n i (x ∷ (y ∷ xs)) h = let e = newest_times n i (y ∷ xs) h in omega (arith, e)

pub oldest_times : (n i : ℕ) (xs : List ℕ) → oldest xs ≡ Some i → times n xs ≡ times n (but_oldest xs) + one_if (nat_eq n i)
oldest_times n i [] h = cc
oldest_times n i (x ∷ xs) h = let e : one_if (nat_eq n x) ≡ one_if (nat_eq n i) = ap (λ k. one_if (nat_eq n k)) (same_Some x i h) in omega (arith, e)

pub more_times : (n i : ℕ) (xs : List ℕ) → times n (i ∷ xs) ≡ times n xs + one_if (nat_eq n i)
more_times n i xs = omega arith

module _ (f : ℕ → Option Place → Bool) (lists : List (List ℕ)) (places : List Place) (kept : (w n : ℕ) → times n (of_worker lists w) ≡ one_if (f w (slice_get places n))) where
  -- a place changes to one that is read alike
  pub same : (i : ℕ) (old new : Place) → slice_get places i ≡ Some old → ((w : ℕ) → f w (Some new) ≡ f w (Some old)) → (w n : ℕ)
      → times n (of_worker lists w) ≡ one_if (f w (slice_get (slice_set places i new) n))
  same i old new at alike w n = kept w n ∙ ap one_if (elim (eqb_tells n i) [
    | inl p ↦ ap (f w) (ap (slice_get places) p.1 ∙ at) ∙ sym (alike w) ∙ ap (f w) (sym (ap (slice_get (slice_set places i new)) p.1 ∙ set_here places i old new at))
    | inr p ↦ ap (f w) (sym (set_there places i n new p.1))
  ])

  -- a new place, which is read as none is
  pub grows : (new : Place) → ((w : ℕ) → f w (Some new) ≡ f w None) → (w n : ℕ) → times n (of_worker lists w) ≡ one_if (f w (slice_get (places ++ new ∷ []) n))
  grows new alike w n = kept w n ∙ ap one_if (sym (grown_same (f w) places new n (alike w)))

  -- one list and one place change together
  change : (w₀ i : ℕ) (xs xs' : List ℕ) (old new : Place) → slice_get lists w₀ ≡ Some xs → slice_get places i ≡ Some old
      → ((w : ℕ) → w ≢ w₀ → f w (Some new) ≡ f w (Some old)) → ((n : ℕ) → n ≢ i → times n xs' ≡ times n xs) → times i xs' ≡ one_if (f w₀ (Some new))
      → (w n : ℕ) → times n (of_worker (slice_set lists w₀ xs') w) ≡ one_if (f w (slice_get (slice_set places i new) n))
  change w₀ i xs xs' old new at at' alike others self w n = elim (eqb_tells w w₀) [
    | inl p ↦ elim (eqb_tells n i) [
      | inl q ↦ ap (λ k. times k (of_worker (slice_set lists w₀ xs') w)) q.1 ∙ ap (times i) (mine p.1) ∙ self ∙ ap one_if (ap (λ v. f v (Some new)) (sym p.1) ∙ ap (f w) (sym (here q.1)))
      | inr q ↦ ap (times n) (mine p.1) ∙ others n q.1 ∙ ap (times n) (sym (was p.1)) ∙ kept w n ∙ ap (λ o. one_if (f w o)) (sym (set_there places i n new q.1))
    ]
    | inr p ↦ ap (times n) (theirs p.1) ∙ kept w n ∙ ap one_if (elim (eqb_tells n i) [
      | inl q ↦ ap (f w) (ap (slice_get places) q.1 ∙ at') ∙ sym (alike w p.1) ∙ ap (f w) (sym (here q.1))
      | inr q ↦ ap (f w) (sym (set_there places i n new q.1))
    ])
  ]
    where
      here : n ≡ i → slice_get (slice_set places i new) n ≡ Some new
      here e = ap (slice_get (slice_set places i new)) e ∙ set_here places i old new at'

      mine : w ≡ w₀ → of_worker (slice_set lists w₀ xs') w ≡ xs'
      mine e = ap or_none (ap (slice_get (slice_set lists w₀ xs')) e ∙ set_here lists w₀ xs xs' at)

      was : w ≡ w₀ → of_worker lists w ≡ xs
      was e = ap or_none (ap (slice_get lists) e ∙ at)

      theirs : w ≢ w₀ → of_worker (slice_set lists w₀ xs') w ≡ of_worker lists w
      theirs n' = ap or_none (set_there lists w₀ w xs' n')

  counted_here : (w i : ℕ) (xs : List ℕ) (old : Place) → slice_get lists w ≡ Some xs → slice_get places i ≡ Some old → times i xs ≡ one_if (f w (Some old))
  counted_here w i xs old at at' = ap (λ o. times i (or_none o)) (sym at) ∙ kept w i ∙ ap (λ o. one_if (f w o)) at'

  -- a number comes to a list
  pub adds : (w₀ i : ℕ) (xs xs' : List ℕ) (old new : Place) → slice_get lists w₀ ≡ Some xs → slice_get places i ≡ Some old
      → ((w : ℕ) → f w (Some old) ≡ false) → ((w : ℕ) → f w (Some new) ≡ nat_eq w w₀) → ((n : ℕ) → times n xs' ≡ times n xs + one_if (nat_eq n i))
      → (w n : ℕ) → times n (of_worker (slice_set lists w₀ xs') w) ≡ one_if (f w (slice_get (slice_set places i new) n))
  adds w₀ i xs xs' old new at at' none one more = change w₀ i xs xs' old new at at' (λ w d. one w ∙ not_equal w w₀ d ∙ sym (none w))
      (λ n d. let e = more n in let z : one_if (nat_eq n i) ≡ 0 = ap one_if (not_equal n i d) in omega (arith, e, z))
      (let e = more i in let u : one_if (nat_eq i i) ≡ 1 = ap one_if (equal i i refl) in let z : times i xs ≡ 0 = counted_here w₀ i xs old at at' ∙ ap one_if (none w₀) in
      let r : one_if (f w₀ (Some new)) ≡ 1 = ap one_if (one w₀ ∙ equal w₀ w₀ refl) in omega (arith, e, u, z, r))

  -- a number leaves a list
  pub drops : (w₀ i : ℕ) (xs xs' : List ℕ) (old new : Place) → slice_get lists w₀ ≡ Some xs → slice_get places i ≡ Some old
      → ((w : ℕ) → f w (Some old) ≡ nat_eq w w₀) → ((w : ℕ) → f w (Some new) ≡ false) → ((n : ℕ) → times n xs ≡ times n xs' + one_if (nat_eq n i))
      → (w n : ℕ) → times n (of_worker (slice_set lists w₀ xs') w) ≡ one_if (f w (slice_get (slice_set places i new) n))
  drops w₀ i xs xs' old new at at' one none more = change w₀ i xs xs' old new at at' (λ w d. none w ∙ sym (one w ∙ not_equal w w₀ d))
      (λ n d. let e = more n in let z : one_if (nat_eq n i) ≡ 0 = ap one_if (not_equal n i d) in omega (arith, e, z))
      (let e = more i in let u : one_if (nat_eq i i) ≡ 1 = ap one_if (equal i i refl) in let z : times i xs ≡ 1 = counted_here w₀ i xs old at at' ∙ ap one_if (one w₀ ∙ equal w₀ w₀ refl) in
      let r : one_if (f w₀ (Some new)) ≡ 0 = ap one_if (none w₀) in omega (arith, e, u, z, r))
