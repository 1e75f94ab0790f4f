-- Lists of slots that are laid one over the other.
use Rattle.std.proofs.Common.{◌≡◌, ℕ, zero, suc, ◌+◌, ◌-◌, ◌≤◌, ◌<◌, [], ◌∷◌, Option, Some, None, length, set, arith, refl, ap, sym, ◌∙◌, subst}
use Rattle.cw_greedy.specs.Slots.{Slots, ready_slots, run_slots}
use Rattle.cw_greedy_schedule.specs.Boards.{left_at, lowered, minus, lesser, least_slot, least_first, over, one_if_none, EndFrom, HasRoom, NoneFrom, NoneBefore}
use Rattle.cw_greedy_schedule.proofs.Slots.{lowered-none, first-none, first-all, run-none, run-all, lesser-regroup, least_of_none}
use Rattle.cw_greedy_schedule.proofs.Parts.{room_less, room_rest}

-- one place of a list

pub lowered-cons : (n : ℕ) (a : Option ℕ) (xs : Slots) → lowered n (a ∷ xs) ≡ minus a n ∷ lowered n xs
lowered-cons n None xs = refl
lowered-cons n (Some k) xs = refl

pub lowered-set : (n p : ℕ) (a : Option ℕ) (xs : Slots) → lowered n (set xs p a) ≡ set (lowered n xs) p (minus a n)
lowered-set n p a [] = refl
lowered-set n zero a (None ∷ xs) = lowered-cons n a xs
lowered-set n zero a (Some k ∷ xs) = lowered-cons n a xs
lowered-set n (suc p) a (None ∷ xs) = ap (λ (zs : Slots). None ∷ zs) (lowered-set n p a xs)
lowered-set n (suc p) a (Some k ∷ xs) = ap (λ (zs : Slots). Some (k - n) ∷ zs) (lowered-set n p a xs)

pub left_at-lowered : (n k : ℕ) (xs : Slots) → left_at (lowered n xs) k ≡ minus (left_at xs k) n
left_at-lowered n k [] = refl
left_at-lowered n zero (None ∷ xs) = refl
left_at-lowered n zero (Some m ∷ xs) = refl
left_at-lowered n (suc k) (None ∷ xs) = left_at-lowered n k xs
left_at-lowered n (suc k) (Some m ∷ xs) = left_at-lowered n k xs

minus_none : (a : Option ℕ) (n : ℕ) → minus a n ≡ None → a ≡ None
minus_none None n e = refl
minus_none (Some k) n e = cc

pub none_of_lowered : (n k : ℕ) (xs : Slots) → left_at (lowered n xs) k ≡ None → left_at xs k ≡ None
none_of_lowered n k xs e = minus_none (left_at xs k) n (sym (left_at-lowered n k xs) ∙ e)

pub lowered_of_none : (n k : ℕ) (xs : Slots) → left_at xs k ≡ None → left_at (lowered n xs) k ≡ None
lowered_of_none n k xs e = left_at-lowered n k xs ∙ ap (λ a. minus a n) e

pub ready_set : (xs : Slots) (p k : ℕ) → p < length xs → ready_slots (set xs p (Some k)) ≡ ready_slots xs + one_if_none (left_at xs p)
ready_set [] p k h = absurd (omega (arith, h))
ready_set (None ∷ xs) zero k h = omega arith
ready_set (Some m ∷ xs) zero k h = omega arith
ready_set (None ∷ xs) (suc p) k h = ready_set xs p k (omega (arith, h))
ready_set (Some m ∷ xs) (suc p) k h = omega (arith, ready_set xs p k (omega (arith, h)))

pub ready_unset : (xs : Slots) (p k : ℕ) → left_at xs p ≡ Some k → ready_slots xs ≡ ready_slots (set xs p None) + 1
ready_unset [] p k e = cc
ready_unset (None ∷ xs) zero k e = cc
ready_unset (Some m ∷ xs) zero k e = omega arith
ready_unset (None ∷ xs) (suc p) k e = ready_unset xs p k e
ready_unset (Some m ∷ xs) (suc p) k e = omega (arith, ready_unset xs p k e)

pub none_ready : (xs : Slots) → NoneFrom 0 xs → ready_slots xs ≡ 0
none_ready [] h = refl
none_ready (None ∷ xs) h = none_ready xs (λ k l. h (suc k) (omega arith))
none_ready (Some m ∷ xs) h = let e = h 0 (omega arith) in cc

-- each strand has at least the minimum left
pub room_at : (n k m : ℕ) (xs : Slots) → HasRoom n (least_slot xs) → left_at xs k ≡ Some m → n ≤ m
room_at n k m [] h e = cc
room_at n zero m (None ∷ xs) h e = cc
room_at n zero m (Some j ∷ xs) h e = let l = room_less n j (least_slot xs) h in let s : j ≡ m = cc in omega (arith, l, s)
room_at n (suc k) m (None ∷ xs) h e = room_at n k m xs h e
room_at n (suc k) m (Some j ∷ xs) h e = room_at n k m xs (room_rest n j (least_slot xs) h) e

pub least_ends : (m : ℕ) (xs : Slots) → least_slot xs ≡ Some m → EndFrom m xs
least_ends m xs e k end at = room_at m k end xs (subst (HasRoom m) (sym e) own) at
  where
    own : m ≤ m
    own = omega arith

-- one list over the other

pub over_set_first : (xs ys : Slots) (p k : ℕ) → length xs ≡ length ys → p < length xs → over (set xs p (Some k)) ys ≡ set (over xs ys) p (Some k)
over_set_first [] ys p k e h = absurd (omega (arith, h))
over_set_first (x ∷ xs) [] p k e h = absurd (omega (arith, e))
over_set_first (None ∷ xs) (y ∷ ys) zero k e h = refl
over_set_first (Some m ∷ xs) (y ∷ ys) zero k e h = refl
over_set_first (None ∷ xs) (y ∷ ys) (suc p) k e h = ap (λ (zs : Slots). y ∷ zs) (over_set_first xs ys p k (omega (arith, e)) (omega (arith, h)))
over_set_first (Some m ∷ xs) (y ∷ ys) (suc p) k e h = ap (λ (zs : Slots). Some m ∷ zs) (over_set_first xs ys p k (omega (arith, e)) (omega (arith, h)))

pub over_unset_first : (xs ys : Slots) (p : ℕ) → length xs ≡ length ys → left_at ys p ≡ None → over (set xs p None) ys ≡ set (over xs ys) p None
over_unset_first [] ys p e n = let z : ys ≡ [] = no_more ys (omega (arith, e)) in sym (ap (λ (zs : Slots). set zs p None) z ∙ sym z)
  where
    no_more : (ys : Slots) → length ys ≡ 0 → ys ≡ []
    no_more [] h = refl
    no_more (y ∷ ys) h = absurd (omega (arith, h))
over_unset_first (x ∷ xs) [] p e n = absurd (omega (arith, e))
over_unset_first (None ∷ xs) (y ∷ ys) zero e n = ap (λ a. a ∷ over xs ys) n
over_unset_first (Some m ∷ xs) (y ∷ ys) zero e n = ap (λ a. a ∷ over xs ys) n
over_unset_first (None ∷ xs) (y ∷ ys) (suc p) e n = ap (λ (zs : Slots). y ∷ zs) (over_unset_first xs ys p (omega (arith, e)) n)
over_unset_first (Some m ∷ xs) (y ∷ ys) (suc p) e n = ap (λ (zs : Slots). Some m ∷ zs) (over_unset_first xs ys p (omega (arith, e)) n)

pub over_set_second : (xs ys : Slots) (p : ℕ) (a : Option ℕ) → length xs ≡ length ys → left_at xs p ≡ None → over xs (set ys p a) ≡ set (over xs ys) p a
over_set_second [] ys p a e n = refl
over_set_second (x ∷ xs) [] p a e n = absurd (omega (arith, e))
over_set_second (None ∷ xs) (y ∷ ys) zero a e n = refl
over_set_second (Some m ∷ xs) (y ∷ ys) zero a e n = cc
over_set_second (None ∷ xs) (y ∷ ys) (suc p) a e n = ap (λ (zs : Slots). y ∷ zs) (over_set_second xs ys p a (omega (arith, e)) n)
over_set_second (Some m ∷ xs) (y ∷ ys) (suc p) a e n = ap (λ (zs : Slots). Some m ∷ zs) (over_set_second xs ys p a (omega (arith, e)) n)

pub length-over : (xs ys : Slots) → length xs ≡ length ys → length (over xs ys) ≡ length ys
length-over [] ys e = refl
length-over (x ∷ xs) [] e = absurd (omega (arith, e))
length-over (None ∷ xs) (y ∷ ys) e = omega (arith, length-over xs ys (omega (arith, e)))
length-over (Some m ∷ xs) (y ∷ ys) e = omega (arith, length-over xs ys (omega (arith, e)))

pub over_at_first : (xs ys : Slots) (p k : ℕ) → length xs ≡ length ys → left_at xs p ≡ Some k → left_at (over xs ys) p ≡ Some k
over_at_first [] ys p k e h = cc
over_at_first (x ∷ xs) [] p k e h = absurd (omega (arith, e))
over_at_first (None ∷ xs) (y ∷ ys) zero k e h = cc
over_at_first (Some m ∷ xs) (y ∷ ys) zero k e h = h
over_at_first (None ∷ xs) (y ∷ ys) (suc p) k e h = over_at_first xs ys p k (omega (arith, e)) h
over_at_first (Some m ∷ xs) (y ∷ ys) (suc p) k e h = over_at_first xs ys p k (omega (arith, e)) h

pub over_at_second : (xs ys : Slots) (p : ℕ) → length xs ≡ length ys → left_at xs p ≡ None → left_at (over xs ys) p ≡ left_at ys p
over_at_second [] ys p e h = refl
over_at_second (x ∷ xs) [] p e h = absurd (omega (arith, e))
over_at_second (None ∷ xs) (y ∷ ys) zero e h = refl
over_at_second (Some m ∷ xs) (y ∷ ys) zero e h = cc
over_at_second (None ∷ xs) (y ∷ ys) (suc p) e h = over_at_second xs ys p (omega (arith, e)) h
over_at_second (Some m ∷ xs) (y ∷ ys) (suc p) e h = over_at_second xs ys p (omega (arith, e)) h

pub over_none : (xs ys : Slots) → length xs ≡ length ys → ready_slots xs ≡ 0 → over xs ys ≡ ys
over_none [] ys e h = refl
over_none (x ∷ xs) [] e h = absurd (omega (arith, e))
over_none (None ∷ xs) (y ∷ ys) e h = ap (λ (zs : Slots). y ∷ zs) (over_none xs ys (omega (arith, e)) h)
over_none (Some m ∷ xs) (y ∷ ys) e h = absurd (omega (arith, h))

pub ready_over : (xs ys : Slots) → length xs ≡ length ys → ready_slots (over xs ys) ≤ ready_slots xs + ready_slots ys
ready_over [] ys e = omega arith
ready_over (x ∷ xs) [] e = absurd (omega (arith, e))
ready_over (None ∷ xs) (None ∷ ys) e = ready_over xs ys (omega (arith, e))
ready_over (None ∷ xs) (Some j ∷ ys) e = omega (arith, ready_over xs ys (omega (arith, e)))
ready_over (Some m ∷ xs) (None ∷ ys) e = omega (arith, ready_over xs ys (omega (arith, e)))
ready_over (Some m ∷ xs) (Some j ∷ ys) e = omega (arith, ready_over xs ys (omega (arith, e)))

-- the first list has strands only before a border, and the second only from there on

rest_from : (b : ℕ) (x : Option ℕ) (xs : Slots) → NoneFrom (suc b) (x ∷ xs) → NoneFrom b xs
rest_from b x xs h k l = h (suc k) (omega (arith, l))

rest_before : (b : ℕ) (y : Option ℕ) (ys : Slots) → NoneBefore (suc b) (y ∷ ys) → NoneBefore b ys
rest_before b y ys h k l = h (suc k) (omega (arith, l))

no_second : {A : Type 0} (b m : ℕ) (ys : Slots) → NoneBefore (suc b) (Some m ∷ ys) → A
no_second b m ys h = let e : Some m ≡ None = h 0 (omega arith) in absurd (some_none e)
  where
    some_none : Some m ≡ None → ⊥
    some_none e = cc

pub least_over : (b : ℕ) (xs ys : Slots) → length xs ≡ length ys → NoneFrom b xs → NoneBefore b ys → least_slot (over xs ys) ≡ lesser (least_slot xs) (least_slot ys)
least_over zero xs ys e f g =
    let z = none_ready xs f in
    ap least_slot (over_none xs ys e z) ∙ ap (λ a. lesser a (least_slot ys)) (sym (least_of_none xs z))
least_over (suc b) [] ys e f g = refl
least_over (suc b) (x ∷ xs) [] e f g = absurd (omega (arith, e))
least_over (suc b) (x ∷ xs) (Some m ∷ ys) e f g = no_second b m ys g
least_over (suc b) (None ∷ xs) (None ∷ ys) e f g = least_over b xs ys (omega (arith, e)) (rest_from b None xs f) (rest_before b None ys g)
least_over (suc b) (Some k ∷ xs) (None ∷ ys) e f g =
    ap (lesser (Some k)) (least_over b xs ys (omega (arith, e)) (rest_from b (Some k) xs f) (rest_before b None ys g))
    ∙ sym (lesser-regroup (Some k) (least_slot xs) (least_slot ys))

-- a list of which no strand runs: no processor is left for it, or no strand is ready
first_of_few : (p : ℕ) (ys : Slots) → (0 < p → ready_slots ys ≡ 0) → least_first p ys ≡ None
first_of_few zero ys h = first-none ys
first_of_few (suc p) ys h = let z = h (omega arith) in first-all (suc p) ys (omega (arith, z)) ∙ least_of_none ys z

run_of_few : (p n : ℕ) (ys : Slots) → (0 < p → ready_slots ys ≡ 0) → run_slots p n ys ≡ ys
run_of_few zero n ys h = run-none n ys
run_of_few (suc p) n ys h = let z = h (omega arith) in run-all (suc p) n ys (omega (arith, z)) ∙ lowered-none n ys (least_of_none ys z)

-- the first ready strands are in the first list
pub first_over : (p b : ℕ) (xs ys : Slots) → length xs ≡ length ys → NoneFrom b xs → NoneBefore b ys → ready_slots xs ≤ p
    → (ready_slots xs < p → ready_slots ys ≡ 0) → least_first p (over xs ys) ≡ least_slot xs
first_over p zero xs ys e f g few all =
    let z = none_ready xs f in
    ap (least_first p) (over_none xs ys e z) ∙ first_of_few p ys (λ h. all (omega (arith, h, z))) ∙ sym (least_of_none xs z)
first_over p (suc b) [] ys e f g few all = first_of_few p ys (λ h. all (omega (arith, h)))
first_over p (suc b) (x ∷ xs) [] e f g few all = absurd (omega (arith, e))
first_over p (suc b) (x ∷ xs) (Some m ∷ ys) e f g few all = no_second b m ys g
first_over p (suc b) (None ∷ xs) (None ∷ ys) e f g few all =
    first_over p b xs ys (omega (arith, e)) (rest_from b None xs f) (rest_before b None ys g) few all
first_over zero (suc b) (Some k ∷ xs) (None ∷ ys) e f g few all = absurd (omega (arith, few))
first_over (suc p) (suc b) (Some k ∷ xs) (None ∷ ys) e f g few all =
    ap (lesser (Some k)) (first_over (suc p - 1) b xs ys (omega (arith, e)) (rest_from b (Some k) xs f) (rest_before b None ys g)
    (omega (arith, few)) (λ h. all (omega (arith, h))))

pub run_over : (p n b : ℕ) (xs ys : Slots) → length xs ≡ length ys → NoneFrom b xs → NoneBefore b ys → ready_slots xs ≤ p
    → (ready_slots xs < p → ready_slots ys ≡ 0) → run_slots p n (over xs ys) ≡ over (lowered n xs) ys
run_over p n zero xs ys e f g few all =
    let z = none_ready xs f in
    let same = lowered-none n xs (least_of_none xs z) in
    ap (run_slots p n) (over_none xs ys e z) ∙ run_of_few p n ys (λ h. all (omega (arith, h, z)))
    ∙ sym (over_none xs ys e z) ∙ ap (λ zs. over zs ys) (sym same)
run_over p n (suc b) [] ys e f g few all = run_of_few p n ys (λ h. all (omega (arith, h)))
run_over p n (suc b) (x ∷ xs) [] e f g few all = absurd (omega (arith, e))
run_over p n (suc b) (x ∷ xs) (Some m ∷ ys) e f g few all = no_second b m ys g
run_over p n (suc b) (None ∷ xs) (None ∷ ys) e f g few all =
    ap (λ (zs : Slots). None ∷ zs) (run_over p n b xs ys (omega (arith, e)) (rest_from b None xs f) (rest_before b None ys g) few all)
run_over zero n (suc b) (Some k ∷ xs) (None ∷ ys) e f g few all = absurd (omega (arith, few))
run_over (suc p) n (suc b) (Some k ∷ xs) (None ∷ ys) e f g few all =
    ap (λ (zs : Slots). Some (k - n) ∷ zs) (run_over (suc p - 1) n b xs ys (omega (arith, e)) (rest_from b (Some k) xs f) (rest_before b None ys g)
    (omega (arith, few)) (λ h. all (omega (arith, h))))
