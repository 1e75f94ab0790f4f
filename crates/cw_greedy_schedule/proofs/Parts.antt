-- The slots of a list that has two parts.
use Rattle.std.proofs.Common.{◌≡◌, ℕ, zero, suc, ◌+◌, ◌≤◌, [], ◌∷◌, ◌++◌, Option, Some, None, length, arith, refl, ap, ◌∙◌, set}
use Rattle.std.specs.Prelude.{min, slice_get}
use Rattle.std.proofs.lemmas.Option.{same_Some}
use Rattle.cw_greedy.specs.Slots.{Slots}
use Rattle.cw_greedy_schedule.specs.Boards.{lesser, HasRoom}

pub room_less : (n k : ℕ) (a : Option ℕ) → HasRoom n (lesser (Some k) a) → n ≤ k
room_less n k None h = h
room_less n k (Some m) h = omega (arith, h)

pub room_rest : (n k : ℕ) (a : Option ℕ) → HasRoom n (lesser (Some k) a) → HasRoom n a
room_rest n k None h = tt
room_rest n k (Some m) h = omega (arith, h)

-- a strand that has no instruction left and is not in the first part is in the second
pub zero_second : (a b : Option ℕ) → lesser a b ≡ Some 0 → (a ≡ Some 0 → ⊥) → b ≡ Some 0
zero_second None b e f = e
zero_second (Some a) None e f = absurd (f e)
zero_second (Some a) (Some b) e f = by_zero b (same_Some (min a b) 0 e) (λ h. f (ap Some h))
  where
    by_zero : (b : ℕ) → min a b ≡ 0 → (a ≡ 0 → ⊥) → Some b ≡ Some 0
    by_zero zero h g = refl
    by_zero (suc b) h g = absurd (g (omega (arith, h)))

pub get_second : (xs ys : Slots) (n i : ℕ) → n ≡ length xs → slice_get (xs ++ ys) (n + i) ≡ slice_get ys i
get_second xs ys n i e = ap (λ m. slice_get (xs ++ ys) (m + i)) e ∙ behind xs
  where
    behind : (xs : Slots) → slice_get (xs ++ ys) (length xs + i) ≡ slice_get ys i
    behind [] = let f : 0 + i ≡ i = omega arith in ap (slice_get ys) f
    behind (x ∷ xs) =
        let f : length (x ∷ xs) + i ≡ suc (length xs + i) = omega arith in
        ap (slice_get (x ∷ (xs ++ ys))) f ∙ behind xs

pub set_second : (xs ys : Slots) (n i : ℕ) (a : Option ℕ) → n ≡ length xs → set (xs ++ ys) (n + i) a ≡ xs ++ set ys i a
set_second xs ys n i a e = ap (λ m. set (xs ++ ys) (m + i) a) e ∙ behind xs
  where
    behind : (xs : Slots) → set (xs ++ ys) (length xs + i) a ≡ xs ++ set ys i a
    behind [] = let f : 0 + i ≡ i = omega arith in ap (λ m. set ys m a) f
    behind (x ∷ xs) =
        let f : length (x ∷ xs) + i ≡ suc (length xs + i) = omega arith in
        ap (λ m. set (x ∷ (xs ++ ys)) m a) f ∙ ap (λ (zs : Slots). x ∷ zs) (behind xs)
