-- Lists of deques, one of which changes.
use Rattle.std.proofs.Common.{◌≡◌, ◌≢◌, ◌∙◌, ℕ, zero, suc, ◌+◌, ◌-◌, ◌<◌, ◌≤◌, Bool, true, false, cond, not, List, [], ◌∷◌, ◌++◌, Some, None, refl, sym, ap, subst, length, get_or, arith}
use Rattle.std.proofs.lemmas.Option.{slice_get_read}
use Rattle.std.specs.Prelude.{map, slice_get, slice_set, position}
use Rattle.std.specs.List.{position_or_len}
use Rattle.std.proofs.lemmas.List.{map-set}
use Rattle.cw_sched.specs.core.Board.{newest, oldest, of_worker}
use Rattle.cw_sched.proofs.Lists.{set_same}

pub worker_get : {Q O : Type 0} (f : Q → List O) (qs : List Q) (w : ℕ) (q : Q) → slice_get qs w ≡ Some q → of_worker (map f qs) w ≡ f q
worker_get f [] w q e = let never : ⊥ = cc in absurd never
worker_get f (x ∷ qs) zero q e = let same : x ≡ q = cc in ap f same
worker_get f (x ∷ qs) (suc w) q e = worker_get f qs w q e

-- the list that is read at a worker
pub worker_read : {Q O : Type 0} (f : Q → List O) (qs : List Q) (w : ℕ) (q : Q) → w < length qs → q ≡ get_or qs w q → of_worker (map f qs) w ≡ f q
worker_read f qs w q lt e = worker_get f qs w q (slice_get_read qs (length qs) w q refl lt e)

-- it is written
pub worker_set : {Q O : Type 0} (f : Q → List O) (qs : List Q) (w : ℕ) (q q' : Q) (g : List O → List O) → w < length qs → q ≡ get_or qs w q → f q' ≡ g (f q)
    → map f (slice_set qs w q') ≡ slice_set (map f qs) w (g (of_worker (map f qs) w))
worker_set f qs w q q' g lt e h = map-set f qs w q' ∙ ap (slice_set (map f qs) w) (h ∙ ap g (sym (worker_read f qs w q lt e)))

pub worker_kept : {Q O : Type 0} (f : Q → List O) (qs : List Q) (w : ℕ) (q q' : Q) → w < length qs → q ≡ get_or qs w q → f q' ≡ f q
    → map f (slice_set qs w q') ≡ map f qs
worker_kept f qs w q q' lt e h = worker_set f qs w q q' (λ l. l) lt e h ∙ set_same (map f qs) w

pub map_pushed : {A B : Type 0} (f : A → B) (xs : List A) (x : A) → map f (xs ++ x ∷ []) ≡ map f xs ++ f x ∷ []
map_pushed f [] x = refl
map_pushed f (y ∷ ys) x = ap (λ l. f y ∷ l) (map_pushed f ys x)

-- a worker whose list has anything is there
pub newest_there : {Q O : Type 0} (f : Q → List O) (qs : List Q) (w : ℕ) → newest (of_worker (map f qs) w) ≢ None → w < length qs
newest_there f [] w h = absurd (h refl)
newest_there f (x ∷ qs) zero h = omega arith
newest_there f (x ∷ qs) (suc w) h = let r : w < length qs = newest_there f qs w h in omega (arith, r)

pub oldest_there : {Q O : Type 0} (f : Q → List O) (qs : List Q) (w : ℕ) → oldest (of_worker (map f qs) w) ≢ None → w < length qs
oldest_there f [] w h = absurd (h refl)
oldest_there f (x ∷ qs) zero h = omega arith
oldest_there f (x ∷ qs) (suc w) h = let r : w < length qs = oldest_there f qs w h in omega (arith, r)

pub worker_past : {Q O : Type 0} (f : Q → List O) (qs : List Q) (w : ℕ) → length qs ≤ w → of_worker (map f qs) w ≡ []
worker_past f [] w e = refl
worker_past f (x ∷ qs) zero e = absurd (omega (arith, e))
worker_past f (x ∷ qs) (suc w) e = worker_past f qs w (omega (arith, e))

last_at : {O : Type 0} (l : List O) (k : ℕ) (o : O) → k + 1 ≡ length l → slice_get l k ≡ Some o → newest l ≡ Some o
last_at [] k o e h = absurd (omega (arith, e))
last_at (x ∷ []) zero o e h = h
last_at (x ∷ []) (suc k) o e h = absurd (omega (arith, e))
last_at (x ∷ (y ∷ l)) zero o e h = absurd (omega (arith, e))
last_at (x ∷ (y ∷ l)) (suc k) o e h = last_at (y ∷ l) k o (omega (arith, e)) h

pub last_read : {O : Type 0} (l : List O) (n : ℕ) (o : O) → n ≡ length l → 0 < n → o ≡ get_or l (n - 1) o → newest l ≡ Some o
last_read l n o e lt h =
    last_at l (n - 1) o (omega (arith, e, lt)) (slice_get_read l (length l) (n - 1) o refl (omega (arith, e, lt)) h)

pub none_read : {O : Type 0} (l : List O) (n : ℕ) → n ≡ length l → n ≤ 0 → newest l ≡ None
none_read [] n e z = refl
none_read (x ∷ l) n e z = absurd (omega (arith, e, z))

pub record Found {X : Type 0} (p : X → Bool) (xs : List X) (k : ℕ) : Type 0 where
  pub item : X
  pub is : slice_get xs k ≡ Some item
  pub passes : p item ≡ true

at_head : {X : Type 0} (p : X → Bool) (x : X) (xs : List X) → p x ≡ true → Found p (x ∷ xs) (position_or_len p (x ∷ xs))
at_head p x xs e = let zero_is : 0 ≡ position_or_len p (x ∷ xs) = sym (ap (λ b. cond (not b) (1 + position_or_len p xs) 0) e) in
    subst (λ k. Found p (x ∷ xs) k) zero_is (record { item = x; is = refl; passes = e })

in_tail : {X : Type 0} (p : X → Bool) (x : X) (xs : List X) → p x ≡ false → Found p xs (position_or_len p xs) → Found p (x ∷ xs) (position_or_len p (x ∷ xs))
in_tail p x xs e f = let more : 1 + position_or_len p xs ≡ position_or_len p (x ∷ xs) =
    sym (ap (λ b. cond (not b) (1 + position_or_len p xs) 0) e) in let one : suc (position_or_len p xs) ≡ 1 + position_or_len p xs = omega arith in
    subst (λ k. Found p (x ∷ xs) k) (one ∙ more) (record { item = f.item; is = f.is; passes = f.passes })

tail_lt : {X : Type 0} (p : X → Bool) (x : X) (xs : List X) → p x ≡ false → position_or_len p (x ∷ xs) < length (x ∷ xs) → position_or_len p xs < length xs
tail_lt p x xs e lt = let more : position_or_len p (x ∷ xs) ≡ 1 + position_or_len p xs = ap (λ b. cond (not b) (1 + position_or_len p xs) 0) e in omega (arith, more, lt)

find_by : {X : Type 0} (p : X → Bool) (x : X) (xs : List X) (b : Bool) → p x ≡ b → (position_or_len p xs < length xs → Found p xs (position_or_len p xs))
    → position_or_len p (x ∷ xs) < length (x ∷ xs) → Found p (x ∷ xs) (position_or_len p (x ∷ xs))
find_by p x xs true e f lt = at_head p x xs e
find_by p x xs false e f lt = in_tail p x xs e (f (tail_lt p x xs e lt))

find_it : {X : Type 0} (p : X → Bool) (xs : List X) → position_or_len p xs < length xs → Found p xs (position_or_len p xs)
find_it p [] lt = absurd (omega (arith, lt))
find_it p (x ∷ xs) lt = find_by p x xs (p x) refl (find_it p xs) lt

-- where the first that passes stands
pub found : {X : Type 0} (p : X → Bool) (xs : List X) (k : ℕ) → position p xs ≡ Some k → Found p xs k
found p xs k e =
    let lt : position_or_len p xs < length xs = grind (arith, e) in
    let is : position_or_len p xs ≡ k = grind (arith, e, lt) in
    subst (λ i. Found p xs i) is (find_it p xs lt)
