-- Groups of a row, and the row of their minima.
use Rattle.std.proofs.Common.{◌≡◌, ◌≢◌, ℕ, zero, suc, ◌+◌, ◌-◌, ◌*◌, ◌/◌, ◌≤◌, ◌<◌, [], ◌∷◌, Option, Some, None, length, length-drop, take, drop, length-take}
use Rattle.std.proofs.Common.{take-append-drop, set, length-set, get_or-set_same, get_or-set_other, get_or-take, get_or-drop, arith, refl, ap, sym, ◌∙◌, subst}
use Rattle.std.specs.Prelude.{min}
use Rattle.std.proofs.lemmas.List.{take_min, drop-drop, drop-set-lt, drop-set-add, take-set-le, get_or_past}
use Rattle.std.proofs.lemmas.Option.{same_Some}
use Rattle.cw_greedy.specs.Slots.{Slots, nones, ready_slots}
use Rattle.cw_greedy.specs.lemmas.Slots.{ready_nones, ready-append}
use Rattle.cw_greedy_schedule.specs.Boards.{left_at, lesser, least_slot, NoneFrom}
use Rattle.cw_greedy_schedule.specs.MinTrees.{group, Leasts, HasFrom, IsRows, numbers_of}
use Rattle.cw_greedy_schedule.specs.declared.rows.Row.{Row}
use Rattle.cw_greedy_schedule.proofs.Slots.{least-append, least_of_none, length-nones, lesser-regroup, lesser-swap, nones_at}
use Rattle.cw_greedy_schedule.proofs.Over.{none_ready}
use Rattle.cw_greedy_schedule.proofs.Releasing.{by_less, by_same}

-- the invariant of a row that equals a known row
pub opened : {r s : Row} → IsRows r → r ≡ s → IsRows s
opened h e = subst IsRows e h

pub opened_numbers : {r s : Row} {v : Slots} → numbers_of r ≡ v → r ≡ s → numbers_of s ≡ v
opened_numbers h e = ap numbers_of (sym e) ∙ h

-- the minimum, and its place

least-cons : (a : Option ℕ) (xs : Slots) → least_slot (a ∷ xs) ≡ lesser a (least_slot xs)
least-cons None xs = refl
least-cons (Some k) xs = refl

pub none_at : (xs : Slots) (k : ℕ) → least_slot xs ≡ None → left_at xs k ≡ None
none_at [] k e = refl
none_at (None ∷ xs) zero e = refl
none_at (None ∷ xs) (suc k) e = none_at xs k e
none_at (Some j ∷ xs) k e = absurd (some_first (least_slot xs) e)
  where
    some_first : (a : Option ℕ) → lesser (Some j) a ≡ None → ⊥
    some_first None h = cc
    some_first (Some i) h = cc

pub ready_none : (xs : Slots) → least_slot xs ≡ None → ready_slots xs ≡ 0
ready_none xs e = none_ready xs (λ k l. none_at xs k e)

has_more : (x : Option ℕ) (xs : Slots) (m : ℕ) → HasFrom 0 m xs → HasFrom 0 m (x ∷ xs)
has_more x xs m h = (suc h.0, (omega arith, h.1.1))

by_lesser : {A : Type 0} (j m : ℕ) (a : Option ℕ) → lesser (Some j) a ≡ Some m → (j ≡ m → A) → (a ≡ Some m → A) → A
by_lesser j m None e f g = f (same_Some j m e)
by_lesser j m (Some i) e f g =
    let s = same_Some (min j i) m e in
    by_less i j (λ h. g (let z : i ≡ m = omega (arith, s, h) in ap Some z)) (λ h. f (omega (arith, s, h)))

pub stands_somewhere : (xs : Slots) (m : ℕ) → least_slot xs ≡ Some m → HasFrom 0 m xs
stands_somewhere [] m e = cc
stands_somewhere (None ∷ xs) m e = has_more None xs m (stands_somewhere xs m e)
stands_somewhere (Some j ∷ xs) m e =
    by_lesser j m (least_slot xs) e
    (λ s. (0, (omega arith, ap Some s)))
    (λ s. has_more (Some j) xs m (stands_somewhere xs m s))

-- a number among the first ones is in the whole list
at_first : (n k m : ℕ) (xs : Slots) → left_at (take n xs) k ≡ Some m → left_at xs k ≡ Some m
at_first zero k m xs e = cc
at_first (suc n) k m [] e = cc
at_first (suc n) zero m (x ∷ xs) e = e
at_first (suc n) (suc k) m (x ∷ xs) e = at_first n k m xs e

pub within : (xs : Slots) (k m : ℕ) → left_at xs k ≡ Some m → k < length xs
within [] k m e = cc
within (x ∷ xs) zero m e = omega arith
within (x ∷ xs) (suc k) m e = omega (arith, within xs k m e)

-- lemmas on groups

pub stands_in_group : (xs : Slots) (g m : ℕ) → least_slot (group xs g) ≡ Some m → HasFrom (8 * g) m xs
stands_in_group xs g m e =
    let h = stands_somewhere (group xs g) m e in
    (8 * g + h.0, (omega arith, sym (get_or-drop (8 * g) xs h.0 None) ∙ at_first 8 h.0 m (drop (8 * g) xs) h.1.1))

pub none_in_group : (xs : Slots) (g k : ℕ) → least_slot (group xs g) ≡ None → 8 * g ≤ k → k < 8 * g + 8 → left_at xs k ≡ None
none_in_group xs g k e l h =
    let i = k - 8 * g in
    let s : k ≡ 8 * g + i = omega (arith, l) in
    ap (left_at xs) s ∙ sym (get_or-drop (8 * g) xs i None) ∙ sym (get_or-take 8 (drop (8 * g) xs) i None (omega (arith, l, h)))
    ∙ none_at (group xs g) i e

-- setting a place leaves every other group unchanged
group_other : (xs : Slots) (g p : ℕ) (a : Option ℕ) → g ≢ p / 8 → group (set xs p a) g ≡ group xs g
group_other xs g p a n =
    by_less p (8 * g)
    (λ h. ap (take 8) (drop-set-lt (8 * g) xs p a h))
    (λ h.
    let i = p - 8 * g in
    let s : p ≡ 8 * g + i = omega (arith, h) in
    let far : 8 ≤ i = by_less i 8 (λ l. absurd (n (omega (arith, h, l)))) (λ l. l) in
    ap (λ q. take 8 (drop (8 * g) (set xs q a))) s ∙ ap (take 8) (drop-set-add (8 * g) xs i a) ∙ take-set-le 8 (drop (8 * g) xs) i a far)

-- a number is set at a place that had none

least_put : (xs : Slots) (i : ℕ) (a : Option ℕ) → i < length xs → left_at xs i ≡ None → least_slot (set xs i a) ≡ lesser (least_slot xs) a
least_put [] i a h e = absurd (omega (arith, h))
least_put (None ∷ xs) zero a h e = least-cons a xs ∙ lesser-swap a (least_slot xs)
least_put (Some m ∷ xs) zero a h e = cc
least_put (None ∷ xs) (suc i) a h e = least_put xs i a (omega (arith, h)) e
least_put (Some m ∷ xs) (suc i) a h e =
    ap (lesser (Some m)) (least_put xs i a (omega (arith, h)) e) ∙ sym (lesser-regroup (Some m) (least_slot xs) a)

set_taken : (n i : ℕ) (xs : Slots) (a : Option ℕ) → i < n → take n (set xs i a) ≡ set (take n xs) i a
set_taken zero i xs a h = absurd (omega (arith, h))
set_taken (suc n) i [] a h = refl
set_taken (suc n) zero (x ∷ xs) a h = refl
set_taken (suc n) (suc i) (x ∷ xs) a h = ap (λ (zs : Slots). x ∷ zs) (set_taken n i xs a (omega (arith, h)))

pub group_put : (xs : Slots) (p : ℕ) (a : Option ℕ) → p < length xs → left_at xs p ≡ None
    → least_slot (group (set xs p a) (p / 8)) ≡ lesser (least_slot (group xs (p / 8))) a
group_put xs p a h e =
    let g = p / 8 in
    let i = p - 8 * g in
    let ys = drop (8 * g) xs in
    let s : p ≡ 8 * g + i = omega arith in
    let few : i < 8 = omega arith in
    ap (λ q. least_slot (take 8 (drop (8 * g) (set xs q a)))) s ∙ ap (λ zs. least_slot (take 8 zs)) (drop-set-add (8 * g) xs i a)
    ∙ ap least_slot (set_taken 8 i ys a few)
    ∙ least_put (group xs g) i a (omega (arith, length-take 8 ys, length-drop (8 * g) xs, h))
    (get_or-take 8 ys i None few ∙ get_or-drop (8 * g) xs i None ∙ ap (left_at xs) (sym s) ∙ e)

-- the row above holds the minima

pub leasts_set : (xs above : Slots) (p : ℕ) (a least : Option ℕ) → Leasts xs above → p < length xs → least ≡ least_slot (group (set xs p a) (p / 8))
    → Leasts (set xs p a) (set above (p / 8) least)
leasts_set xs above p a least h l e = record {
  all = omega (arith, h.all, length-set xs p a, length-set above (p / 8) least);
  fewer = omega (arith, h.fewer, length-set xs p a, length-set above (p / 8) least);
  least = λ g. by_same g (p / 8)
      (λ s. ap (left_at (set above (p / 8) least)) s ∙ get_or-set_same above (p / 8) least None (omega (arith, h.all, l)) ∙ e
      ∙ ap (λ q. least_slot (group (set xs p a) q)) (sym s))
      (λ n. get_or-set_other above (p / 8) g least None n ∙ h.least g ∙ ap least_slot (sym (group_other xs g p a n)));
}

pub leasts_same : (xs above : Slots) (p : ℕ) (a least : Option ℕ) → Leasts xs above → least ≡ least_slot (group (set xs p a) (p / 8)) → left_at above (p / 8) ≡ least
    → Leasts (set xs p a) above
leasts_same xs above p a least h e s = record {
  all = omega (arith, h.all, length-set xs p a);
  fewer = omega (arith, h.fewer, length-set xs p a);
  least = λ g. by_same g (p / 8)
      (λ t. ap (left_at above) t ∙ s ∙ e ∙ ap (λ q. least_slot (group (set xs p a) q)) (sym t))
      (λ n. h.least g ∙ ap least_slot (sym (group_other xs g p a n)));
}

least_of_all : (xs above : Slots) → length xs ≤ 8 * length above → ((g : ℕ) → left_at above g ≡ least_slot (group xs g)) → least_slot above ≡ least_slot xs
least_of_all [] [] h e = refl
least_of_all (x ∷ xs) [] h e = absurd (omega (arith, h))
least_of_all xs (a ∷ above) h e =
    let first : a ≡ least_slot (take 8 xs) = e 0 in
    let rest = least_of_all (drop 8 xs) above (omega (arith, h, length-drop 8 xs))
    (λ g.
    let s : 8 * suc g ≡ 8 + 8 * g = omega arith in
    e (suc g) ∙ ap (λ n. least_slot (take 8 (drop n xs))) s ∙ ap (λ ys. least_slot (take 8 ys)) (sym (drop-drop (8 * g) 8 xs))) in
    least-cons a above ∙ ap (λ b. lesser b (least_slot above)) first ∙ ap (lesser (least_slot (take 8 xs))) rest
    ∙ sym (least-append (take 8 xs) (drop 8 xs)) ∙ ap least_slot (take-append-drop 8 xs)

pub least_above : (xs above : Slots) → Leasts xs above → least_slot above ≡ least_slot xs
least_above xs above h = least_of_all xs above h.all h.least

pub ready_above : (xs above : Slots) → Leasts xs above → 1 ≤ ready_slots xs → 1 ≤ ready_slots above
ready_above xs above h some =
    by_less (ready_slots above) 1
    (λ l. absurd (omega (arith, some, ready_none xs (sym (least_above xs above h) ∙ least_of_none above (omega (arith, l))))))
    (λ l. l)

-- rows without numbers

few_taken : (n : ℕ) (xs : Slots) → ready_slots xs ≡ 0 → ready_slots (take n xs) ≡ 0
few_taken n xs e = omega (arith, e, ready-append (take n xs) (drop n xs), ap ready_slots (take-append-drop n xs))

few_dropped : (n : ℕ) (xs : Slots) → ready_slots xs ≡ 0 → ready_slots (drop n xs) ≡ 0
few_dropped n xs e = omega (arith, e, ready-append (take n xs) (drop n xs), ap ready_slots (take-append-drop n xs))

pub leasts_none : (m n : ℕ) → m ≤ 8 * n → n < m → Leasts (nones m) (nones n)
leasts_none m n h l = record {
  all = omega (arith, h, length-nones m, length-nones n);
  fewer = omega (arith, l, length-nones m, length-nones n);
  least = λ g.
      nones_at n g
      ∙ sym (least_of_none (group (nones m) g) (few_taken 8 (drop (8 * g) (nones m)) (few_dropped (8 * g) (nones m) (ready_nones m))));
}

-- the last number

pub last_end : (xs : Slots) (at : ℕ) → ((g : ℕ) → at < g → least_slot (group xs g) ≡ None) → NoneFrom (8 * at + 8) xs
last_end xs at h k l = none_in_group xs (k / 8) k (h (k / 8) (omega (arith, l))) (omega arith) (omega arith)

pub last_of_group : (xs : Slots) (at end : ℕ) → end ≡ 8 * at + min (length xs - 8 * at) 8 → ((g : ℕ) → at < g → least_slot (group xs g) ≡ None)
    → NoneFrom end xs
last_of_group xs at end e h k l =
    by_less k (length xs)
    (λ m. last_end xs at h k (omega (arith, e, l, m)))
    (λ m. get_or_past xs k None m)

pub some_of_group : (xs : Slots) (g : ℕ) → (least_slot (group xs g) ≡ None → ⊥) → 1 ≤ ready_slots xs
some_of_group xs g h =
    by_less (ready_slots xs) 1
    (λ l.
    let z : ready_slots xs ≡ 0 = omega (arith, l) in
    absurd (h (least_of_none (group xs g) (few_taken 8 (drop (8 * g) xs) (few_dropped (8 * g) xs z)))))
    (λ l. l)

pub some_before : (xs : Slots) (end : ℕ) → 1 ≤ ready_slots xs → NoneFrom end xs → 1 ≤ end
some_before xs end some h =
    by_less end 1
    (λ l. absurd (omega (arith, some, none_ready xs (λ k m. h k (omega (arith, l))))))
    (λ l. l)

-- no number at a place and none after it
pub none_from : (xs : Slots) (p : ℕ) → left_at xs p ≡ None → NoneFrom (1 + p) xs → NoneFrom p xs
none_from xs p e h k l =
    by_same k p
    (λ s. ap (left_at xs) s ∙ e)
    (λ n. h k (by_less k (1 + p) (λ m. absurd (n (omega (arith, l, m)))) (λ m. m)))

pub group_slice : (xs : Slots) (from n g : ℕ) → from ≡ 8 * g → n ≡ min (length xs - from) 8 → take n (drop from xs) ≡ group xs g
group_slice xs from n g e m =
    let s : n ≡ min 8 (length (drop from xs)) = omega (arith, m, length-drop from xs) in
    ap (λ k. take k (drop from xs)) s ∙ take_min 8 (drop from xs) ∙ ap (λ k. take 8 (drop k xs)) e
