-- Lists of slots, lowered, counted and run in two halves.
use Rattle.std.proofs.Common.{◌≡◌, ℕ, zero, suc, ◌+◌, ◌-◌, ◌≤◌, [], ◌∷◌, ◌++◌, Option, Some, None, length, arith, refl, ap, sym, ◌∙◌}
use Rattle.std.proofs.Math.ListN.{replicate}
use Rattle.std.specs.Prelude.{min}
use Rattle.cw_greedy.specs.Slots.{Slots, nones, ready_slots, run_slots}
use Rattle.cw_greedy.specs.lemmas.Slots.{run-append}
use Rattle.cw_greedy_schedule.specs.Boards.{left_at, lowered, minus, lesser, least_slot, least_first}

pub lowered-append : (by : ℕ) (xs ys : Slots) → lowered by (xs ++ ys) ≡ lowered by xs ++ lowered by ys
lowered-append by [] ys = refl
lowered-append by (None ∷ xs) ys = ap (λ (zs : Slots). None ∷ zs) (lowered-append by xs ys)
lowered-append by (Some k ∷ xs) ys = ap (λ (zs : Slots). Some (k - by) ∷ zs) (lowered-append by xs ys)

pub lowered-lowered : (more by : ℕ) (xs : Slots) → lowered more (lowered by xs) ≡ lowered (by + more) xs
lowered-lowered more by [] = refl
lowered-lowered more by (None ∷ xs) = ap (λ (zs : Slots). None ∷ zs) (lowered-lowered more by xs)
lowered-lowered more by (Some k ∷ xs) =
    let e : (k - by) - more ≡ k - (by + more) = omega arith in
    ap (λ n. Some n ∷ lowered more (lowered by xs)) e ∙ ap (λ (zs : Slots). Some (k - (by + more)) ∷ zs) (lowered-lowered more by xs)

pub ready-lowered : (by : ℕ) (xs : Slots) → ready_slots (lowered by xs) ≡ ready_slots xs
ready-lowered by [] = refl
ready-lowered by (None ∷ xs) = ready-lowered by xs
ready-lowered by (Some k ∷ xs) = ap (λ n. 1 + n) (ready-lowered by xs)

minus-lesser : (a b : Option ℕ) (by : ℕ) → minus (lesser a b) by ≡ lesser (minus a by) (minus b by)
minus-lesser None b by = refl
minus-lesser (Some a) None by = refl
minus-lesser (Some a) (Some b) by = let e : min a b - by ≡ min (a - by) (b - by) = omega arith in ap Some e

pub least-lowered : (by : ℕ) (xs : Slots) → least_slot (lowered by xs) ≡ minus (least_slot xs) by
least-lowered by [] = refl
least-lowered by (None ∷ xs) = least-lowered by xs
least-lowered by (Some k ∷ xs) = ap (lesser (Some (k - by))) (least-lowered by xs) ∙ sym (minus-lesser (Some k) (least_slot xs) by)

pub lesser-none : (a : Option ℕ) → lesser a None ≡ a
lesser-none None = refl
lesser-none (Some a) = refl

pub lesser-regroup : (a b c : Option ℕ) → lesser (lesser a b) c ≡ lesser a (lesser b c)
lesser-regroup None b c = refl
lesser-regroup (Some a) None c = refl
lesser-regroup (Some a) (Some b) None = refl
lesser-regroup (Some a) (Some b) (Some c) = let e : min (min a b) c ≡ min a (min b c) = omega arith in ap Some e

pub least-append : (xs ys : Slots) → least_slot (xs ++ ys) ≡ lesser (least_slot xs) (least_slot ys)
least-append [] ys = refl
least-append (None ∷ xs) ys = least-append xs ys
least-append (Some k ∷ xs) ys = ap (lesser (Some k)) (least-append xs ys) ∙ sym (lesser-regroup (Some k) (least_slot xs) (least_slot ys))

pub first-none : (xs : Slots) → least_first 0 xs ≡ None
first-none [] = refl
first-none (None ∷ xs) = first-none xs
first-none (Some k ∷ xs) = refl

pub first-append : (p : ℕ) (xs ys : Slots) → least_first p (xs ++ ys) ≡ lesser (least_first p xs) (least_first (p - ready_slots xs) ys)
first-append p [] ys = let e : p ≡ p - 0 = omega arith in ap (λ q. least_first q ys) e
first-append p (None ∷ xs) ys = first-append p xs ys
first-append zero (Some k ∷ xs) ys =
    let e : 0 ≡ 0 - (1 + ready_slots xs) = omega arith in
    sym (first-none ys) ∙ ap (λ q. least_first q ys) e
first-append (suc p) (Some k ∷ xs) ys =
    let q = suc p - 1 in
    let e : q - ready_slots xs ≡ suc p - (1 + ready_slots xs) = omega arith in
    ap (lesser (Some k)) (first-append q xs ys ∙ ap (λ m. lesser (least_first q xs) (least_first m ys)) e)
    ∙ sym (lesser-regroup (Some k) (least_first q xs) (least_first (suc p - (1 + ready_slots xs)) ys))

-- the number of ready strands is at most the number of strands that run
pub first-all : (p : ℕ) (xs : Slots) → ready_slots xs ≤ p → least_first p xs ≡ least_slot xs
first-all p [] h = refl
first-all p (None ∷ xs) h = first-all p xs h
first-all zero (Some k ∷ xs) h = absurd (omega (arith, h))
first-all (suc p) (Some k ∷ xs) h = ap (lesser (Some k)) (first-all (suc p - 1) xs (omega (arith, h)))

pub run-all : (p n : ℕ) (xs : Slots) → ready_slots xs ≤ p → run_slots p n xs ≡ lowered n xs
run-all p n [] h = refl
run-all p n (None ∷ xs) h = ap (λ (zs : Slots). None ∷ zs) (run-all p n xs h)
run-all zero n (Some k ∷ xs) h = absurd (omega (arith, h))
run-all (suc p) n (Some k ∷ xs) h = ap (λ (zs : Slots). Some (k - n) ∷ zs) (run-all (suc p - 1) n xs (omega (arith, h)))

pub run-none : (n : ℕ) (xs : Slots) → run_slots 0 n xs ≡ xs
run-none n [] = refl
run-none n (None ∷ xs) = ap (λ (zs : Slots). None ∷ zs) (run-none n xs)
run-none n (Some k ∷ xs) =
    let e : 0 - 1 ≡ 0 = omega arith in
    ap (λ q. Some k ∷ run_slots q n xs) e ∙ ap (λ (zs : Slots). Some k ∷ zs) (run-none n xs)

-- the second half does not run if the first half has enough strands
pub run_first : (p n : ℕ) (xs ys : Slots) → p ≤ ready_slots xs → run_slots p n (xs ++ ys) ≡ run_slots p n xs ++ ys
run_first p n xs ys h =
    let e : p - ready_slots xs ≡ 0 = omega (arith, h) in
    run-append p n xs ys ∙ ap (λ q. run_slots p n xs ++ run_slots q n ys) e ∙ ap (λ zs. run_slots p n xs ++ zs) (run-none n ys)

pub first_first : (p : ℕ) (xs ys : Slots) → p ≤ ready_slots xs → least_first p (xs ++ ys) ≡ least_first p xs
first_first p xs ys h =
    let e : p - ready_slots xs ≡ 0 = omega (arith, h) in
    first-append p xs ys ∙ ap (λ q. lesser (least_first p xs) (least_first q ys)) e ∙ ap (lesser (least_first p xs)) (first-none ys)
    ∙ lesser-none (least_first p xs)

pub length-lowered : (by : ℕ) (xs : Slots) → length (lowered by xs) ≡ length xs
length-lowered by [] = refl
length-lowered by (None ∷ xs) = omega (arith, length-lowered by xs)
length-lowered by (Some k ∷ xs) = omega (arith, length-lowered by xs)

pub least_of_none : (xs : Slots) → ready_slots xs ≡ 0 → least_slot xs ≡ None
least_of_none [] h = refl
least_of_none (None ∷ xs) h = least_of_none xs h
least_of_none (Some k ∷ xs) h = absurd (omega (arith, h))

-- lowering changes nothing if no strand is ready
pub lowered-none : (by : ℕ) (xs : Slots) → least_slot xs ≡ None → lowered by xs ≡ xs
lowered-none by [] h = refl
lowered-none by (None ∷ xs) h = ap (λ (zs : Slots). None ∷ zs) (lowered-none by xs h)
lowered-none by (Some k ∷ xs) h = absurd (some_first (least_slot xs) h)
  where
    some_first : (a : Option ℕ) → lesser (Some k) a ≡ None → ⊥
    some_first None e = cc
    some_first (Some b) e = cc

pub nones-append : (m n : ℕ) → nones m ++ nones n ≡ nones (m + n)
nones-append zero n = let e : n ≡ 0 + n = omega arith in ap nones e
nones-append (suc m) n = let e : suc (m + n) ≡ suc m + n = omega arith in ap (λ (zs : Slots). None ∷ zs) (nones-append m n) ∙ ap nones e

pub replicated : (n : ℕ) → replicate n None ≡ nones n
replicated zero = refl
replicated (suc n) = ap (λ (zs : Slots). None ∷ zs) (replicated n)

pub length-nones : (n : ℕ) → length (nones n) ≡ n
length-nones zero = refl
length-nones (suc n) = omega (arith, length-nones n)

pub nones_at : (n k : ℕ) → left_at (nones n) k ≡ None
nones_at zero k = refl
nones_at (suc n) zero = refl
nones_at (suc n) (suc k) = nones_at n k

pub least-nones : (n : ℕ) → least_slot (nones n) ≡ None
least-nones zero = refl
least-nones (suc n) = least-nones n

pub lesser-swap : (a b : Option ℕ) → lesser a b ≡ lesser b a
lesser-swap None None = refl
lesser-swap None (Some b) = refl
lesser-swap (Some a) None = refl
lesser-swap (Some a) (Some b) = let e : min a b ≡ min b a = omega arith in ap Some e
