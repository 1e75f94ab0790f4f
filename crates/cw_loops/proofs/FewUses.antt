-- A body captures at most the integers that are known before it.
use Rattle.std.proofs.Common.{◌≡◌, ℕ, ◌==◌, ◌<◌, ◌≤◌, nat_lt, Bool, true, false, List, [], ◌∷◌, ◌++◌, length, arith, refl, sym, ◌∙◌}
use Rattle.std.specs.Prelude.{if◌then◌else◌, not, ◌&&◌, ◌||◌}
use Rattle.std.specs.List.{list_any, AllByRecursion, IsDistinct}
use Rattle.std.proofs.lemmas.Bool.{eqb-true, and_parts, or_parts}
use Rattle.std.proofs.lemmas.List.{map-append, length-map}
use Rattle.std.proofs.lemmas.List.Folds.{list_any-append}
use Rattle.std.proofs.lemmas.Map.Steps.{length-le_from_distinct_below}
use Rattle.cw_facts.specs.Tests.{lt_of, not_true}
use Rattle.cw_tree.specs.Resolved.{Use, is_slot_in, with_first, first_uses, reads_in_block, captured_in, Block}
use Rattle.cw_loops.specs.Moved.{slots_of}

-- distinct slots below a number
record AreApart (n : ℕ) (slots : List ℕ) : Type 0 where
  distinct : IsDistinct (λ k q. k == q) slots
  below : (q : ℕ) → list_any (λ k. q == k) slots ≡ true → q < n

others_apart : (k : ℕ) (slots : List ℕ) (s : ℕ) → (k == s) ≡ false → AllByRecursion (λ q. (k == q) ≡ false) slots → AllByRecursion (λ q. (k == q) ≡ false) (slots ++ s ∷ [])
others_apart k [] s other apart = (other, apart)
others_apart k (q ∷ slots) s other apart = (apart.0, others_apart k slots s other apart.1)

distinct_last : (slots : List ℕ) (s : ℕ) → is_slot_in s slots ≡ false → IsDistinct (λ k q. k == q) slots → IsDistinct (λ k q. k == q) (slots ++ s ∷ [])
unfolding IsDistinct
distinct_last [] s new d = (tt, d)
distinct_last (k ∷ slots) s new d =
    let two = or_parts (k == s) (is_slot_in s slots) new in
    (others_apart k slots s two.0 d.0, distinct_last slots s two.1 d.1)

below_last : (n : ℕ) (slots : List ℕ) (s : ℕ) → s < n → ((q : ℕ) → list_any (λ k. q == k) slots ≡ true → q < n) → (q : ℕ) → list_any (λ k. q == k) (slots ++ s ∷ []) ≡ true → q < n
below_last n slots s less below q h = go (list_any (λ k. q == k) slots) (q == s) refl refl (sym (list_any-append (λ k. q == k) slots (s ∷ [])) ∙ h)
  where
    go : (old new : Bool) → list_any (λ k. q == k) slots ≡ old → (q == s) ≡ new → (old || (new || false)) ≡ true → q < n
    go true new e f g = below q e
    go false true e f g = let same = eqb-true q s f in omega (arith, same, less)
    go false false e f g = absurd cc

apart_with : (n : ℕ) (found : List Use) (u : Use) → AreApart n (slots_of found) → AreApart n (slots_of (with_first n found u))
apart_with n found u h = go (nat_lt u.slot n && not (is_slot_in u.slot (slots_of found))) refl
  where
    more : nat_lt u.slot n ≡ true → is_slot_in u.slot (slots_of found) ≡ false → AreApart n (slots_of found ++ u.slot ∷ [])
    more less new = record {
      distinct = distinct_last (slots_of found) u.slot new h.distinct;
      below = below_last n (slots_of found) u.slot (lt_of u.slot n less) h.below;
    }

    go : (b : Bool) → (nat_lt u.slot n && not (is_slot_in u.slot (slots_of found))) ≡ b → AreApart n (slots_of (if b then found ++ u ∷ [] else found))
    go true e =
        let two = and_parts (nat_lt u.slot n) (not (is_slot_in u.slot (slots_of found))) e in
        rw (map-append (λ (w : Use). w.slot) found (u ∷ [])) (more two.0 (not_true _ two.1))
    go false e = h

apart_all : (n : ℕ) (found us : List Use) → AreApart n (slots_of found) → AreApart n (slots_of (first_uses n found us))
apart_all n found [] h = h
apart_all n found (u ∷ us) h = apart_all n (with_first n found u) us (apart_with n found u h)

pub few_captured : (n : ℕ) (b : Block) → length (captured_in n b) ≤ n
unfolding IsDistinct
few_captured n b =
    let apart = apart_all n [] (reads_in_block b) (record { distinct = tt; below = λ q h. absurd cc }) in
    let few = length-le_from_distinct_below (slots_of (captured_in n b)) n apart.distinct apart.below in
    let same = length-map (captured_in n b) (λ (u : Use). u.slot) in
    omega (arith, few, same)
