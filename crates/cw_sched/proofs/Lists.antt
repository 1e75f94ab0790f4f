-- Lists whose newest stands at the back, and lists of them by worker.
use Rattle.std.proofs.Common.{◌≡◌, ◌≢◌, ◌∙◌, ℕ, zero, suc, ◌<◌, List, [], ◌∷◌, ◌++◌, Option, Some, None, refl, sym, ap, subst, length, reverse, arith, Vec, Global, ◌==◌, true, false}
use Rattle.std.proofs.lemmas.List.{length-reverse, nil_from_length, set-set}
use Rattle.std.specs.Prelude.{map, slice_set}
use Rattle.std.specs.Vec.{vec_len}
use Rattle.std.proofs.lemmas.Option.{same_Some}
use Rattle.cw_facts.specs.Tests.{eq_of, equal}
use Rattle.cw_sched.specs.Boards.{Each}
use Rattle.cw_sched.specs.core.Board.{pushed, newest, but_newest, oldest, but_oldest, of_worker}

pub newest_pushed : {A : Type 0} (xs : List A) (x : A) → newest (xs ++ x ∷ []) ≡ Some x
newest_pushed [] x = refl
newest_pushed (y ∷ []) x = refl
newest_pushed (y ∷ (z ∷ zs)) x = newest_pushed (z ∷ zs) x

pub but_newest_pushed : {A : Type 0} (xs : List A) (x : A) → but_newest (xs ++ x ∷ []) ≡ xs
but_newest_pushed [] x = refl
but_newest_pushed (y ∷ []) x = refl
but_newest_pushed (y ∷ (z ∷ zs)) x = ap (λ l. y ∷ l) (but_newest_pushed (z ∷ zs) x)

abbrev pub head_or : {A : Type 0} → A → List A → A
head_or d [] = d
head_or d (x ∷ xs) = x

abbrev pub tail_of : {A : Type 0} → List A → List A
tail_of [] = []
tail_of (x ∷ xs) = xs

abbrev pub IsCons : {A : Type 0} → List A → Type 0
IsCons [] = ⊥
IsCons (x ∷ xs) = Unit {0}

abbrev pub IsSomeOf : {A : Type 0} → Option A → Type 0
IsSomeOf None = ⊥
IsSomeOf (Some x) = Unit {0}

-- what stands at the back, and what stands before it
pub newest_is : {A : Type 0} (xs : List A) (x : A) → newest xs ≡ Some x → xs ≡ but_newest xs ++ x ∷ []
newest_is [] x e = absurd (subst IsSomeOf (sym e) tt)
newest_is (y ∷ []) x e = ap (λ z. z ∷ []) (same_Some y x e)
newest_is (y ∷ (z ∷ zs)) x e = ap (λ l. y ∷ l) (newest_is (z ∷ zs) x e)

pub of_worker_set : {A : Type 0} (ls : List (List A)) (w : ℕ) (l : List A) → w < length ls → of_worker (slice_set ls w l) w ≡ l
of_worker_set [] w l h = absurd (omega arith)
of_worker_set (x ∷ ls) zero l h = refl
of_worker_set (x ∷ ls) (suc w) l h = of_worker_set ls w l (omega arith)

-- a worker that has anything is there
pub within_worker : {A : Type 0} (ls : List (List A)) (w : ℕ) → of_worker ls w ≢ [] → w < length ls
within_worker [] w h = absurd (h refl)
within_worker (x ∷ ls) zero h = omega arith
within_worker (x ∷ ls) (suc w) h = let r : w < length ls = within_worker ls w h in omega arith

pub set_same : {A : Type 0} (ls : List (List A)) (w : ℕ) → slice_set ls w (of_worker ls w) ≡ ls
set_same [] w = refl
set_same (x ∷ ls) zero = refl
set_same (x ∷ ls) (suc w) = ap (λ l. x ∷ l) (set_same ls w)

-- a worker's newest taken and laid back
pub laid_back : {A : Type 0} (ls : List (List A)) (w : ℕ) (x : A) → newest (of_worker ls w) ≡ Some x
    → slice_set (slice_set ls w (but_newest (of_worker ls w))) w (pushed (of_worker (slice_set ls w (but_newest (of_worker ls w))) w) x) ≡ ls
laid_back ls w x e =
    let some : of_worker ls w ≢ [] = λ n. absurd (subst IsSomeOf (sym e ∙ ap newest n) tt) in
    let h : w < length ls = within_worker ls w some in
    set-set ls w (but_newest (of_worker ls w)) (pushed (of_worker (slice_set ls w (but_newest (of_worker ls w))) w) x)
    ∙ (ap (λ l. slice_set ls w (pushed l x)) (of_worker_set ls w (but_newest (of_worker ls w)) h)
    ∙ (ap (λ l. slice_set ls w l) (sym (newest_is (of_worker ls w) x e)) ∙ set_same ls w))

pub each_weaken : {A : Type 0} (P Q : A → Type 0) (xs : List A) → ((x : A) → P x → Q x) → Each P xs → Each Q xs
each_weaken P Q [] f h = tt
each_weaken P Q (x ∷ xs) f h = (f x h.0, each_weaken P Q xs f h.1)

pub each_worker : {A : Type 0} (P : A → Type 0) (ls : List (List A)) (w : ℕ) → Each (Each P) ls → Each P (of_worker ls w)
each_worker P [] w h = tt
each_worker P (l ∷ ls) zero h = h.0
each_worker P (l ∷ ls) (suc w) h = each_worker P ls w h.1

pub each_set : {A : Type 0} (P : A → Type 0) (xs : List A) (i : ℕ) (x : A) → Each P xs → P x → Each P (slice_set xs i x)
each_set P [] i x h p = tt
each_set P (y ∷ ys) zero x h p = (p, h.1)
each_set P (y ∷ ys) (suc i) x h p = (h.0, each_set P ys i x h.1 p)

pub each_but_newest : {A : Type 0} (P : A → Type 0) (xs : List A) → Each P xs → Each P (but_newest xs)
each_but_newest P [] h = tt
each_but_newest P (y ∷ []) h = tt
each_but_newest P (y ∷ (z ∷ zs)) h = (h.0, each_but_newest P (z ∷ zs) h.1)

pub each_newest : {A : Type 0} (P : A → Type 0) (xs : List A) (x : A) → Each P xs → newest xs ≡ Some x → P x
each_newest P [] x h e = absurd (subst IsSomeOf (sym e) tt)
each_newest P (y ∷ []) x h e = subst P (same_Some y x e) h.0
each_newest P (y ∷ (z ∷ zs)) x h e = each_newest P (z ∷ zs) x h.1 e

pub each_but_oldest : {A : Type 0} (P : A → Type 0) (xs : List A) → Each P xs → Each P (but_oldest xs)
each_but_oldest P [] h = tt
each_but_oldest P (y ∷ ys) h = h.1

pub each_oldest : {A : Type 0} (P : A → Type 0) (xs : List A) (x : A) → Each P xs → oldest xs ≡ Some x → P x
each_oldest P [] x h e = absurd (subst IsSomeOf (sym e) tt)
each_oldest P (y ∷ ys) x h e = subst P (same_Some y x e) h.0

abbrev pub named : {A : Type 0} → List A → List (Option A)
named js = map (λ j. Some j) js

-- names that say as much
pub same_names : {A B : Type 0} (f g : A → Option B) (os : List A) (js : List B) → ((o : A) (j : B) → f o ≡ Some j → g o ≡ Some j)
    → map f os ≡ named js → map g os ≡ named js
same_names f g [] [] more e = refl
same_names f g [] (j ∷ js) more e = absurd (subst IsCons (sym e) tt)
same_names f g (o ∷ os) [] more e = absurd (subst IsCons e tt)
same_names f g (o ∷ os) (j ∷ js) more e =
    let here = more o j (ap (head_or None) e) in
    let rest = same_names f g os js more (ap tail_of e) in
    ap (λ x. x ∷ map g os) here ∙ ap (λ l. Some j ∷ l) rest

pub as_many : {A B : Type 0} (f : A → Option B) (os : List A) (js : List B) → map f os ≡ named js → length os ≡ length js
as_many f [] [] e = refl
as_many f [] (j ∷ js) e = absurd (subst IsCons (sym e) tt)
as_many f (o ∷ os) [] e = absurd (subst IsCons e tt)
as_many f (o ∷ os) (j ∷ js) e = ap (λ n. suc n) (as_many f os js (ap tail_of e))

pub length_reverse : {A : Type 0} (xs : List A) → length (reverse xs) ≡ length xs
length_reverse xs = length-reverse xs

pub empty_from : {A : Type 0} (v : Vec A Global) → (vec_len v == 0) ≡ true → v.items ≡ []
empty_from v e = nil_from_length v.items (sym v.ok.0 ∙ eq_of (vec_len v) 0 e)

pub some_from : {A : Type 0} (v : Vec A Global) → (vec_len v == 0) ≡ false → v.items ≢ []
some_from v e none = let bad : true ≡ false = sym (equal (vec_len v) 0 (v.ok.0 ∙ ap length none)) ∙ e in let never : ⊥ = cc in never
