-- A jump of the first ready strands ends one of them.
use Rattle.std.proofs.Common.{◌≡◌, ℕ, zero, suc, ◌-◌, ◌≤◌, [], ◌∷◌, Option, Some, None, arith, refl, ap, sym, ◌∙◌, subst}
use Rattle.std.specs.Prelude.{min}
use Rattle.std.proofs.lemmas.Option.{same_Some}
use Rattle.cw_greedy.specs.Slots.{Slots, ready_slots, run_slots, EachLeft, RoomFor}
use Rattle.cw_greedy_schedule.specs.Boards.{lesser, least_slot, least_first, HasRoom}
use Rattle.cw_greedy_schedule.proofs.Slots.{first-none}
use Rattle.cw_greedy_schedule.proofs.Parts.{room_less, room_rest}

-- the first strands have at least the minimum left
room_within : (p n : ℕ) (xs : Slots) → HasRoom n (least_first p xs) → RoomFor p n xs
room_within p n [] h = tt
room_within p n (None ∷ xs) h = room_within p n xs h
room_within zero n (Some k ∷ xs) h = ((λ l. absurd (omega (arith, l))), room_within (0 - 1) n xs (subst (HasRoom n) (sym (first-none xs)) tt))
room_within (suc p) n (Some k ∷ xs) h =
    let q = suc p - 1 in
    ((λ l. room_less n k (least_first q xs) h), room_within q n xs (room_rest n k (least_first q xs) h))

pub room_first_least : (p n : ℕ) (xs : Slots) → least_first p xs ≡ Some n → RoomFor p n xs
room_first_least p n xs e = room_within p n xs (subst (HasRoom n) (sym e) own)
  where
    own : n ≤ n
    own = omega arith

pub zero_left : (a : Option ℕ) → lesser (Some 0) a ≡ Some 0
zero_left None = refl
zero_left (Some n) = let e : min 0 n ≡ 0 = omega arith in ap Some e

pub zero_right : (k : ℕ) → lesser (Some k) (Some 0) ≡ Some 0
zero_right k = let e : min k 0 ≡ 0 = omega arith in ap Some e

by_le : {A : Type 0} (a b : ℕ) → (a ≤ b → A) → (b ≤ a → A) → A
by_le zero b f g = f (omega arith)
by_le (suc a) zero f g = g (omega arith)
by_le (suc a) (suc b) f g = by_le a b (λ h. f (omega (arith, h))) (λ h. g (omega (arith, h)))

-- one of the first strands has exactly the minimum left
done_here : (p n k : ℕ) (xs : Slots) (a : Option ℕ) → least_first p xs ≡ a → lesser (Some k) a ≡ Some n →
    ((m : ℕ) → least_first p xs ≡ Some m → least_slot (run_slots p m xs) ≡ Some 0) → lesser (Some (k - n)) (least_slot (run_slots p n xs)) ≡ Some 0
done_here p n k xs None e h f =
    let z : k - n ≡ 0 = let s = same_Some k n h in omega (arith, s) in
    ap (λ i. lesser (Some i) (least_slot (run_slots p n xs))) z ∙ zero_left (least_slot (run_slots p n xs))
done_here p n k xs (Some m) e h f =
    let s = same_Some (min k m) n h in
    by_le k m
    (λ l. let z : k - n ≡ 0 = omega (arith, s, l) in
    ap (λ i. lesser (Some i) (least_slot (run_slots p n xs))) z ∙ zero_left (least_slot (run_slots p n xs)))
    (λ l. let z : n ≡ m = omega (arith, s, l) in
    ap (lesser (Some (k - n))) (ap (λ i. least_slot (run_slots p i xs)) z ∙ f m e) ∙ zero_right (k - n))

pub run_ends_one : (p n : ℕ) (xs : Slots) → least_first p xs ≡ Some n → least_slot (run_slots p n xs) ≡ Some 0
run_ends_one p n [] e = cc
run_ends_one p n (None ∷ xs) e = run_ends_one p n xs e
run_ends_one zero n (Some k ∷ xs) e = cc
run_ends_one (suc p) n (Some k ∷ xs) e =
    let q = suc p - 1 in
    done_here q n k xs (least_first q xs) refl e (λ m d. run_ends_one q m xs d)

not_none : (k : ℕ) (a : Option ℕ) → lesser (Some k) a ≡ None → ⊥
not_none k None e = cc
not_none k (Some m) e = cc

-- if a strand is ready, one of the first strands is
pub some_first : (p : ℕ) (xs : Slots) → 1 ≤ p → 1 ≤ ready_slots xs → least_first p xs ≡ None → ⊥
some_first p [] h r e = omega (arith, r)
some_first p (None ∷ xs) h r e = some_first p xs h r e
some_first zero (Some k ∷ xs) h r e = omega (arith, h)
some_first (suc p) (Some k ∷ xs) h r e = not_none k (least_first (suc p - 1) xs) e

-- if no strand is done, each has an instruction left
pub each_left : (xs : Slots) → (least_slot xs ≡ Some 0 → ⊥) → EachLeft xs
each_left [] h = tt
each_left (None ∷ xs) h = each_left xs h
each_left (Some zero ∷ xs) h = absurd (h (zero_left (least_slot xs)))
each_left (Some (suc k) ∷ xs) h = (omega arith, each_left xs (λ e. h (ap (lesser (Some (suc k))) e ∙ zero_right (suc k))))
