-- A board as a list in two parts: its ready strands, its state after a jump, and the room for a jump.
use Rattle.std.proofs.Common.{◌≡◌, ℕ, zero, suc, ◌+◌, ◌-◌, [], ◌∷◌, ◌++◌, Some, None, arith, refl, ap, ◌∙◌, subst}
use Rattle.cw_greedy.specs.Greedy.{if_done}
use Rattle.cw_greedy.specs.Slots.{Slots, nones, ready_slots, run_slots, RoomFor}

pub ready_nones : (n : ℕ) → ready_slots (nones n) ≡ 0
ready_nones zero = refl
ready_nones (suc n) = ready_nones n

pub ready-append : (xs ys : Slots) → ready_slots (xs ++ ys) ≡ ready_slots xs + ready_slots ys
ready-append [] ys = omega arith
ready-append (None ∷ xs) ys = ready-append xs ys
ready-append (Some k ∷ xs) ys = omega (arith, ready-append xs ys)

pub run-append : (p n : ℕ) (xs ys : Slots) → run_slots p n (xs ++ ys) ≡ run_slots p n xs ++ run_slots (p - ready_slots xs) n ys
run-append p n [] ys = let e : p ≡ p - 0 = omega arith in ap (λ q. run_slots q n ys) e
run-append p n (None ∷ xs) ys = ap (λ (zs : Slots). None ∷ zs) (run-append p n xs ys)
run-append p n (Some k ∷ xs) ys =
    let e : (p - 1) - ready_slots xs ≡ p - (1 + ready_slots xs) = omega arith in
    ap (λ (zs : Slots). Some (if_done p k (k - n)) ∷ zs) (run-append (p - 1) n xs ys ∙ ap (λ q. run_slots (p - 1) n xs ++ run_slots q n ys) e)

pub room_first : (p n : ℕ) (xs ys : Slots) → RoomFor p n (xs ++ ys) → RoomFor p n xs
room_first p n [] ys h = tt
room_first p n (None ∷ xs) ys h = room_first p n xs ys h
room_first p n (Some k ∷ xs) ys h = (h.0, room_first (p - 1) n xs ys h.1)

pub room_second : (p n : ℕ) (xs ys : Slots) → RoomFor p n (xs ++ ys) → RoomFor (p - ready_slots xs) n ys
room_second p n [] ys h = let e : p ≡ p - 0 = omega arith in subst (λ q. RoomFor q n ys) e h
room_second p n (None ∷ xs) ys h = room_second p n xs ys h
room_second p n (Some k ∷ xs) ys h =
    let e : (p - 1) - ready_slots xs ≡ p - (1 + ready_slots xs) = omega arith in
    subst (λ q. RoomFor q n ys) e (room_second (p - 1) n xs ys h.1)
