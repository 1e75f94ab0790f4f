-- Rows of bits as sets of slots.
use Rattle.std.proofs.Common.{◌≡◌, ◌≢◌, ℕ, zero, suc, ◌*◌, ◌/◌, ◌%◌, ◌^◌, ◌<◌, ◌==◌, ◌||◌, List, [], ◌∷◌, length, slice_index, slice_set, bit_or}
use Rattle.std.proofs.Common.{bit_and, ◌&&◌, not, min, max, w64, refl, sym, ap, ◌∙◌, arith, inl, inr, get_or-set_same, get_or-set_other}
use Rattle.std.specs.Int.{bit_at, bit_not}
use Rattle.std.proofs.lemmas.Nat.Bits.{bit_at-lt, bit_at_or, bit_at_and, bit_at_set_same, bit_at_set_other, bit_at_clear_same, bit_at_clear_other}
use Rattle.std.proofs.lemmas.Bool.{eq-eqb}
use Rattle.std.proofs.lemmas.Bool.Decides.{eqb_tells}
use Rattle.cw_facts.specs.Tests.{not_equal}
use Rattle.cw_model.specs.declared.limits.TheConstants.{MOST_DECLARED}
use Rattle.cw_own.specs.Sets.{Slots, with_slot, without_slot, either, both, slots_of}

pub same_sets : (s t : Slots) → ((slot : ℕ) → s slot ≡ t slot) → s ≡ t
same_sets s t h = λ i. λ slot. h slot i

abbrev row_with : ℕ → ℕ → ℕ
row_with row place = bit_or row (1 * 2 ^ place % 2 ^ 64)

from_parts : (k new : ℕ) → k / 64 ≡ new / 64 → k % 64 ≡ new % 64 → k ≡ new
from_parts k new p q = omega (arith, p, q)

-- slots in the same word as the new slot
same_row : (rows : List ℕ) (new k : ℕ) → new / 64 < length rows → new % 64 < 64 → k / 64 ≡ new / 64 →
    slots_of (slice_set rows (new / 64) (row_with (slice_index rows (new / 64)) (new % 64))) k ≡ with_slot new (slots_of rows) k
same_row rows new k inside small same =
    let row = slice_index rows (new / 64) in
    let found : slice_index (slice_set rows (new / 64) (row_with row (new % 64))) (k / 64) ≡ row_with row (new % 64) =
    ap (λ i. slice_index (slice_set rows (new / 64) (row_with row (new % 64))) i) same
    ∙ get_or-set_same rows (new / 64) (row_with row (new % 64)) 0 inside in
    ap (λ r. bit_at r (k % 64) == 1) found
    ∙ elim (eqb_tells (k % 64) (new % 64)) [
      | inl e ↦
          let one : bit_at (row_with row (new % 64)) (k % 64) ≡ 1 =
          ap (λ i. bit_at (row_with row (new % 64)) i) e.1 ∙ bit_at_set_same w64 row (new % 64) small in
          ap (λ b. b == 1) one
          ∙ sym (ap (λ b. b || slots_of rows k) (eq-eqb k new (from_parts k new same e.1)))
      | inr e ↦
          let other : bit_at (row_with row (new % 64)) (k % 64) ≡ bit_at row (k % 64) = bit_at_set_other w64 row (new % 64) small (k % 64) e.1 in
          ap (λ b. b == 1) (other ∙ ap (λ i. bit_at (slice_index rows i) (k % 64)) (sym same))
          ∙ sym (ap (λ b. b || slots_of rows k) (not_equal k new (λ h. e.1 (ap (λ x. x % 64) h))))
    ]

-- slots in another word than the new slot
other_row : (rows : List ℕ) (new k : ℕ) → k / 64 ≢ new / 64 →
    slots_of (slice_set rows (new / 64) (row_with (slice_index rows (new / 64)) (new % 64))) k ≡ with_slot new (slots_of rows) k
other_row rows new k apart =
    ap (λ r. bit_at r (k % 64) == 1) (get_or-set_other rows (new / 64) (k / 64) (row_with (slice_index rows (new / 64)) (new % 64)) 0 apart)
    ∙ sym (ap (λ b. b || slots_of rows k) (not_equal k new (λ h. apart (ap (λ x. x / 64) h))))

pub one_taken : (rows : List ℕ) (new : ℕ) → length rows ≡ 4 → new < MOST_DECLARED →
    slots_of (slice_set rows (new / 64) (row_with (slice_index rows (new / 64)) (new % 64))) ≡ with_slot new (slots_of rows)
one_taken rows new four bound =
    let inside : new / 64 < length rows = omega (arith, four, bound) in
    let small : new % 64 < 64 = omega arith in
    same_sets (slots_of (slice_set rows (new / 64) (row_with (slice_index rows (new / 64)) (new % 64)))) (with_slot new (slots_of rows)) (λ k.
    elim (eqb_tells (k / 64) (new / 64)) [
      | inl e ↦ same_row rows new k inside small e.1
      | inr e ↦ other_row rows new k e.1
    ])

abbrev row_without : ℕ → ℕ → ℕ
row_without row place = bit_and row (bit_not w64 (1 * 2 ^ place % 2 ^ 64))

-- slots in the same word as the old slot
same_row_less : (rows : List ℕ) (old k : ℕ) → old / 64 < length rows → old % 64 < 64 → k % 64 < 64 → k / 64 ≡ old / 64 →
    slots_of (slice_set rows (old / 64) (row_without (slice_index rows (old / 64)) (old % 64))) k ≡ without_slot old (slots_of rows) k
same_row_less rows old k inside small small' same =
    let row = slice_index rows (old / 64) in
    let found : slice_index (slice_set rows (old / 64) (row_without row (old % 64))) (k / 64) ≡ row_without row (old % 64) =
    ap (λ i. slice_index (slice_set rows (old / 64) (row_without row (old % 64))) i) same
    ∙ get_or-set_same rows (old / 64) (row_without row (old % 64)) 0 inside in
    ap (λ r. bit_at r (k % 64) == 1) found
    ∙ elim (eqb_tells (k % 64) (old % 64)) [
      | inl e ↦
          let none : bit_at (row_without row (old % 64)) (k % 64) ≡ 0 =
          ap (λ i. bit_at (row_without row (old % 64)) i) e.1 ∙ bit_at_clear_same w64 row (old % 64) small in
          ap (λ b. b == 1) none
          ∙ sym (ap (λ b. not b && slots_of rows k) (eq-eqb k old (from_parts k old same e.1)))
      | inr e ↦
          let other : bit_at (row_without row (old % 64)) (k % 64) ≡ bit_at row (k % 64) = bit_at_clear_other w64 row (old % 64) small (k % 64) small' e.1 in
          ap (λ b. b == 1) (other ∙ ap (λ i. bit_at (slice_index rows i) (k % 64)) (sym same))
          ∙ sym (ap (λ b. not b && slots_of rows k) (not_equal k old (λ h. e.1 (ap (λ x. x % 64) h))))
    ]

-- slots in another word than the old slot
other_row_less : (rows : List ℕ) (old k : ℕ) → k / 64 ≢ old / 64 →
    slots_of (slice_set rows (old / 64) (row_without (slice_index rows (old / 64)) (old % 64))) k ≡ without_slot old (slots_of rows) k
other_row_less rows old k apart =
    ap (λ r. bit_at r (k % 64) == 1) (get_or-set_other rows (old / 64) (k / 64) (row_without (slice_index rows (old / 64)) (old % 64)) 0 apart)
    ∙ sym (ap (λ b. not b && slots_of rows k) (not_equal k old (λ h. apart (ap (λ x. x / 64) h))))

pub one_removed : (rows : List ℕ) (old : ℕ) → length rows ≡ 4 → old < MOST_DECLARED →
    slots_of (slice_set rows (old / 64) (row_without (slice_index rows (old / 64)) (old % 64))) ≡ without_slot old (slots_of rows)
one_removed rows old four bound =
    let inside : old / 64 < length rows = omega (arith, four, bound) in
    let small : old % 64 < 64 = omega arith in
    same_sets (slots_of (slice_set rows (old / 64) (row_without (slice_index rows (old / 64)) (old % 64)))) (without_slot old (slots_of rows)) (λ k.
    let small' : k % 64 < 64 = omega arith in
    elim (eqb_tells (k / 64) (old / 64)) [
      | inl e ↦ same_row_less rows old k inside small small' e.1
      | inr e ↦ other_row_less rows old k e.1
    ])

max_one : (x y : ℕ) → x < 2 → y < 2 → (max x y == 1) ≡ ((x == 1) || (y == 1))
max_one zero zero g h = refl
max_one zero (suc zero) g h = refl
max_one (suc zero) zero g h = refl
max_one (suc zero) (suc zero) g h = refl
max_one (suc (suc x)) y g h = absurd (omega (arith, g))
max_one x (suc (suc y)) g h = absurd (omega (arith, h))

min_one : (x y : ℕ) → x < 2 → y < 2 → (min x y == 1) ≡ ((x == 1) && (y == 1))
min_one zero zero g h = refl
min_one zero (suc zero) g h = refl
min_one (suc zero) zero g h = refl
min_one (suc zero) (suc zero) g h = refl
min_one (suc (suc x)) y g h = absurd (omega (arith, g))
min_one x (suc (suc y)) g h = absurd (omega (arith, h))

or_at : (a b c d e f g h i : ℕ) → slice_index (bit_or a e ∷ bit_or b f ∷ bit_or c g ∷ bit_or d h ∷ []) i
    ≡ bit_or (slice_index (a ∷ b ∷ c ∷ d ∷ []) i) (slice_index (e ∷ f ∷ g ∷ h ∷ []) i)
or_at a b c d e f g h zero = refl
or_at a b c d e f g h (suc zero) = refl
or_at a b c d e f g h (suc (suc zero)) = refl
or_at a b c d e f g h (suc (suc (suc zero))) = refl
or_at a b c d e f g h (suc (suc (suc (suc i)))) = refl

and_at : (a b c d e f g h i : ℕ) → slice_index (bit_and a e ∷ bit_and b f ∷ bit_and c g ∷ bit_and d h ∷ []) i
    ≡ bit_and (slice_index (a ∷ b ∷ c ∷ d ∷ []) i) (slice_index (e ∷ f ∷ g ∷ h ∷ []) i)
and_at a b c d e f g h zero = refl
and_at a b c d e f g h (suc zero) = refl
and_at a b c d e f g h (suc (suc zero)) = refl
and_at a b c d e f g h (suc (suc (suc zero))) = refl
and_at a b c d e f g h (suc (suc (suc (suc i)))) = refl

four_are : (w : List ℕ) → length w ≡ 4 → w ≡ slice_index w 0 ∷ slice_index w 1 ∷ slice_index w 2 ∷ slice_index w 3 ∷ []
four_are [] h = absurd (omega (arith, h))
four_are (a ∷ []) h = absurd (omega (arith, h))
four_are (a ∷ b ∷ []) h = absurd (omega (arith, h))
four_are (a ∷ b ∷ c ∷ []) h = absurd (omega (arith, h))
four_are (a ∷ b ∷ c ∷ d ∷ []) h = refl
four_are (a ∷ b ∷ c ∷ d ∷ e ∷ w) h = absurd (omega (arith, h))

pub either_words : (w v : List ℕ) → length w ≡ 4 → length v ≡ 4 →
    slots_of (bit_or (slice_index w 0) (slice_index v 0) ∷ bit_or (slice_index w 1) (slice_index v 1) ∷ bit_or (slice_index w 2) (slice_index v 2) ∷ bit_or (slice_index w 3) (slice_index v 3) ∷ [])
    ≡ either (slots_of w) (slots_of v)
either_words w v g h =
    let all = bit_or (slice_index w 0) (slice_index v 0) ∷ bit_or (slice_index w 1) (slice_index v 1) ∷ bit_or (slice_index w 2) (slice_index v 2) ∷ bit_or (slice_index w 3) (slice_index v 3) ∷ [] in
    same_sets (slots_of all) (either (slots_of w) (slots_of v)) (λ slot.
    ap (λ r. bit_at r (slot % 64) == 1)
    (or_at (slice_index w 0) (slice_index w 1) (slice_index w 2) (slice_index w 3) (slice_index v 0) (slice_index v 1) (slice_index v 2) (slice_index v 3) (slot / 64)
    ∙ ap (λ x. bit_or (slice_index x (slot / 64)) (slice_index (slice_index v 0 ∷ slice_index v 1 ∷ slice_index v 2 ∷ slice_index v 3 ∷ []) (slot / 64))) (sym (four_are w g))
    ∙ ap (λ x. bit_or (slice_index w (slot / 64)) (slice_index x (slot / 64))) (sym (four_are v h)))
    ∙ ap (λ x. x == 1) (bit_at_or (slice_index w (slot / 64)) (slice_index v (slot / 64)) (slot % 64))
    ∙ max_one (bit_at (slice_index w (slot / 64)) (slot % 64)) (bit_at (slice_index v (slot / 64)) (slot % 64)) (bit_at-lt _ _) (bit_at-lt _ _))

pub both_words : (w v : List ℕ) → length w ≡ 4 → length v ≡ 4 →
    slots_of (bit_and (slice_index w 0) (slice_index v 0) ∷ bit_and (slice_index w 1) (slice_index v 1) ∷ bit_and (slice_index w 2) (slice_index v 2)
    ∷ bit_and (slice_index w 3) (slice_index v 3) ∷ [])
    ≡ both (slots_of w) (slots_of v)
both_words w v g h =
    let all = bit_and (slice_index w 0) (slice_index v 0) ∷ bit_and (slice_index w 1) (slice_index v 1) ∷ bit_and (slice_index w 2) (slice_index v 2)
    ∷ bit_and (slice_index w 3) (slice_index v 3) ∷ [] in
    same_sets (slots_of all) (both (slots_of w) (slots_of v)) (λ slot.
    ap (λ r. bit_at r (slot % 64) == 1)
    (and_at (slice_index w 0) (slice_index w 1) (slice_index w 2) (slice_index w 3) (slice_index v 0) (slice_index v 1) (slice_index v 2) (slice_index v 3) (slot / 64)
    ∙ ap (λ x. bit_and (slice_index x (slot / 64)) (slice_index (slice_index v 0 ∷ slice_index v 1 ∷ slice_index v 2 ∷ slice_index v 3 ∷ []) (slot / 64))) (sym (four_are w g))
    ∙ ap (λ x. bit_and (slice_index w (slot / 64)) (slice_index x (slot / 64))) (sym (four_are v h)))
    ∙ ap (λ x. x == 1) (bit_at_and (slice_index w (slot / 64)) (slice_index v (slot / 64)) (slot % 64))
    ∙ min_one (bit_at (slice_index w (slot / 64)) (slot % 64)) (bit_at (slice_index v (slot / 64)) (slot % 64)) (bit_at-lt _ _) (bit_at-lt _ _))
