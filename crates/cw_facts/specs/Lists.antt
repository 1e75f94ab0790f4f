-- Lists: the last element, and the element at an index.
use Rattle.std.proofs.Common.{◌≡◌, ◌≢◌, ◌⊎◌, inl, inr, ℕ, zero, suc, ◌<◌, Some, None, List, [], ◌∷◌, ◌++◌, length, reverse, slice_get, slice_set, refl, sym, ap, subst, arith}
use Rattle.std.proofs.lemmas.Option.{none-some, same_Some}
use Rattle.std.proofs.lemmas.List.{reverse-append}

pub reverse_pushed : {A : Type 0} (xs : List A) (x : A) → reverse (xs ++ x ∷ []) ≡ x ∷ reverse xs
reverse_pushed xs x = reverse-append xs (x ∷ [])

-- there is an element at each index below the length
pub there_at : {A : Type 0} (xs : List A) (k : ℕ) → k < length xs → (x : A) × (slice_get xs k ≡ Some x)
there_at [] k lt = absurd (omega (arith, lt))
there_at (x ∷ xs) zero lt = (x, refl)
there_at (x ∷ xs) (suc k) lt = there_at xs k (omega (arith, lt))

pub missing : {A : Type 0} (xs : List A) (k : ℕ) → k < length xs → slice_get xs k ≡ None → ⊥
missing [] k lt e = omega (arith, lt)
missing (x ∷ xs) zero lt e = cc
missing (x ∷ xs) (suc k) lt e = missing xs k (omega (arith, lt)) e

pub get_last : {A : Type 0} (xs : List A) (y : A) → slice_get (xs ++ y ∷ []) (length xs) ≡ Some y
get_last [] y = refl
get_last (z ∷ xs) y = get_last xs y

-- a write changes the element at its index
pub get_set : {A : Type 0} (xs : List A) (k : ℕ) (y : A) → k < length xs → slice_get (slice_set xs k y) k ≡ Some y
get_set [] k y lt = absurd (omega (arith, lt))
get_set (x ∷ xs) zero y lt = refl
get_set (x ∷ xs) (suc k) y lt = get_set xs k y (omega (arith, lt))

-- a write does not change the element at another index
pub set_other : {A : Type 0} (xs : List A) (a b : ℕ) (y : A) → b ≢ a → slice_get (slice_set xs a y) b ≡ slice_get xs b
set_other [] a b y n = refl
set_other (x ∷ xs) zero zero y n = absurd (n refl)
set_other (x ∷ xs) zero (suc b) y n = refl
set_other (x ∷ xs) (suc a) zero y n = refl
set_other (x ∷ xs) (suc a) (suc b) y n = set_other xs a b y (λ e. n (ap suc e))

-- an element of a list after a write or a push is the new element, or an element of the list before
pub set_gives : {A : Type 0} (xs : List A) (i k : ℕ) (x y : A) → slice_get (slice_set xs i x) k ≡ Some y → (k ≡ i × (y ≡ x)) ⊎ (slice_get xs k ≡ Some y)
set_gives [] i k x y h = inr h
set_gives (z ∷ xs) zero zero x y h = inl (refl, sym (same_Some x y h))
set_gives (z ∷ xs) zero (suc k) x y h = inr h
set_gives (z ∷ xs) (suc i) zero x y h = inr h
set_gives (z ∷ xs) (suc i) (suc k) x y h = elim (set_gives xs i k x y h) [
  | inl p ↦ inl (ap suc p.0, p.1)
  | inr p ↦ inr p
]

pub added_gives : {A : Type 0} (xs : List A) (k : ℕ) (x y : A) → slice_get (xs ++ x ∷ []) k ≡ Some y → (k ≡ length xs × (y ≡ x)) ⊎ (slice_get xs k ≡ Some y)
added_gives [] zero x y h = inl (refl, sym (same_Some x y h))
added_gives [] (suc k) x y h = inr h
added_gives (z ∷ xs) zero x y h = inr h
added_gives (z ∷ xs) (suc k) x y h = elim (added_gives xs k x y h) [
  | inl p ↦ inl (ap suc p.0, p.1)
  | inr p ↦ inr p
]

-- a property holds for each element of a list
abbrev pub Each : {A : Type 0} → (A → Type 0) → List A → Type 0
Each P [] = Unit {0}
Each P (x ∷ xs) = P x × Each P xs

pub each_init : {A : Type 0} (P : A → Type 0) (xs : List A) (x : A) → Each P (xs ++ x ∷ []) → Each P xs × P x
each_init P [] x h = (tt, h.0)
each_init P (y ∷ ys) x h = let r = each_init P ys x h.1 in ((h.0, r.0), r.1)

pub each_pushed : {A : Type 0} (P : A → Type 0) (xs : List A) (x : A) → Each P xs → P x → Each P (xs ++ x ∷ [])
each_pushed P [] x h p = (p, tt)
each_pushed P (y ∷ ys) x h p = (h.0, each_pushed P ys x h.1 p)

pub each_of : {A : Type 0} (P : A → Type 0) (xs : List A) → ((k : ℕ) (x : A) → slice_get xs k ≡ Some x → P x) → Each P xs
each_of P [] f = tt
each_of P (x ∷ xs) f = (f 0 x refl, each_of P xs (λ k y e. f (suc k) y e))

-- a push keeps the elements before it
pub get_before : {A : Type 0} (xs : List A) (x : A) (k : ℕ) (y : A) → slice_get xs k ≡ Some y → slice_get (xs ++ x ∷ []) k ≡ Some y
get_before [] x k y e = absurd (none-some y e)
get_before (a ∷ xs) x zero y e = e
get_before (a ∷ xs) x (suc k) y e = get_before xs x k y e

-- a concatenation has the elements of the first list at their indices
pub get_left : {A : Type 0} (xs ys : List A) (k : ℕ) → k < length xs → slice_get (xs ++ ys) k ≡ slice_get xs k
get_left [] ys k lt = absurd (omega (arith, lt))
get_left (x ∷ xs) ys zero lt = refl
get_left (x ∷ xs) ys (suc k) lt = get_left xs ys k (omega (arith, lt))

-- a write of the element that is already there changes nothing
pub set_same : {A : Type 0} (xs : List A) (k : ℕ) (y : A) → slice_get xs k ≡ Some y → slice_set xs k y ≡ xs
set_same [] k y e = refl
set_same (x ∷ xs) zero y e = ap (λ z. z ∷ xs) (sym (same_Some x y e))
set_same (x ∷ xs) (suc k) y e = ap (λ l. x ∷ l) (set_same xs k y e)

pub each_at : {A : Type 0} (P : A → Type 0) (xs : List A) (k : ℕ) (x : A) → Each P xs → slice_get xs k ≡ Some x → P x
each_at P [] k x h e = absurd (none-some x e)
each_at P (y ∷ ys) zero x h e = subst P (same_Some y x e) h.0
each_at P (y ∷ ys) (suc k) x h e = each_at P ys k x h.1 e
