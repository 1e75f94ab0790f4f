-- The new slot of a name is its position among the names of its loop's function.
use Rattle.std.proofs.Common.{◌≡◌, ℕ, suc, ◌+◌, ◌-◌, ◌≤◌, nat_lt, Bool, true, false, List, [], ◌∷◌, ◌++◌, length, map, arith, sym, ◌∙◌, ap}
use Rattle.std.specs.Prelude.{if◌then◌else◌}
use Rattle.std.proofs.lemmas.Bool.Decides.{nat_tests}
use Rattle.cw_facts.specs.Tests.{below, not_below}
use Rattle.cw_model.specs.Syntax.{Name}
use Rattle.cw_model.specs.Names.{same_name, is_among}
use Rattle.cw_model.specs.lemmas.Names.{turned}
use Rattle.cw_tree.specs.Resolved.{slot_of}
use Rattle.cw_tree.specs.lemmas.NamedSlots.{one_slot, slot_in, slot_stays}
use Rattle.cw_loops.specs.Lowered.{is_plain, low, high}
use Rattle.cw_loops.specs.Moved.{most_slot, slot, Moves, place_from, moved_int, moved_array}
use Rattle.cw_loops.specs.lemmas.Apart.{plain_apart}

-- `slot` does not change a small count
pub small_slot : (n : ℕ) → n ≤ most_slot → slot n ≡ n
small_slot n h = grind (arith, nat_tests, h)

-- a name that is not found has a slot after all names
pub slot_past : (x : Name) (names more : List Name) → is_among x names ≡ false → slot_of x (names ++ more) ≡ length names + slot_of x more
slot_past x [] more h = omega arith
slot_past x (y ∷ names) more h = first (same_name x y) (slot_past x names more) h
  where
    first : (b : Bool) → (is_among x names ≡ false → slot_of x (names ++ more) ≡ length names + slot_of x more) → (if b then true else is_among x names) ≡ false →
        (if b then 0 else suc (slot_of x (names ++ more))) ≡ suc (length names) + slot_of x more
    first true f g = absurd cc
    first false f g = let e = f g in omega (arith, e)

-- the position among captured names, by their slots
pub place_is : (n : ℕ) (x : Name) (before taken : List Name) → is_among x before ≡ true → n + length taken ≤ most_slot
    → place_from n (slot_of x before) (map (λ y. slot_of y before) taken) ≡ n + slot_of x taken
place_is n x before [] h small = omega arith
place_is n x before (y ∷ taken) h small =
    ap (λ b. if b then n else place_from (slot (n + 1)) (slot_of x before) (map (λ z. slot_of z before) taken)) (one_slot y x before h ∙ turned y x)
    ∙ ap (λ k. if same_name x y then n else place_from k (slot_of x before) (map (λ z. slot_of z before) taken)) (small_slot (n + 1) (omega (arith, small)))
    ∙ first (same_name x y) (place_is (n + 1) x before taken h (omega (arith, small)))
  where
    first : (b : Bool) → place_from (n + 1) (slot_of x before) (map (λ z. slot_of z before) taken) ≡ n + 1 + slot_of x taken →
        (if b then n else place_from (n + 1) (slot_of x before) (map (λ z. slot_of z before) taken)) ≡ n + (if b then 0 else suc (slot_of x taken))
    first true e = omega arith
    first false e = omega (arith, e)

two_more : (n : ℕ) → 2 + n ≡ suc (suc n)
two_more n = omega arith

behind_two : (b n k : ℕ) → b + n - b + (2 + k) ≡ suc (suc k) + n
behind_two b n k = omega arith

module _ (m : Moves) (before taken : List Name) (before_is : m.ints_before ≡ length before)
    (taken_is : m.captured ≡ map (λ y. slot_of y before) taken) (first_is : m.first_int ≡ 2 + length taken) where
  -- an integer of the iteration itself, or a captured integer
  pub int_moved : (x : Name) (own : List Name) → is_plain x ≡ true → is_among x before ≡ true → is_among x taken ≡ true
      → 2 + length taken ≤ most_slot → moved_int m (slot_of x (before ++ own)) ≡ slot_of x ((low ∷ high ∷ taken) ++ own)
  int_moved x own plain known kept small =
      ap (λ s. moved_int m s) (slot_stays x before own known)
      ∙ ap (λ k. if nat_lt (slot_of x before) k then place_from 2 (slot_of x before) m.captured else slot (slot_of x before - k + m.first_int)) before_is
      ∙ ap (λ b. if b then place_from 2 (slot_of x before) m.captured else slot (slot_of x before - length before + m.first_int)) (below (slot_of x before) (length before) (slot_in x before known))
      ∙ ap (place_from 2 (slot_of x before)) taken_is
      ∙ place_is 2 x before taken known small
      ∙ two_more (slot_of x taken)
      ∙ sym (ap (λ b. if b then 0 else suc (if same_name x high then 0 else suc (slot_of x (taken ++ own)))) (plain_apart x (108 ∷ []) plain)
      ∙ ap (λ b. suc (if b then 0 else suc (slot_of x (taken ++ own)))) (plain_apart x (104 ∷ []) plain)
      ∙ ap (λ s. suc (suc s)) (slot_stays x taken own kept))

  pub past_int : (n : ℕ) → 2 + length taken + n ≤ most_slot → moved_int m (length before + n) ≡ suc (suc (length taken)) + n
  past_int n small =
      ap (λ k. if nat_lt (length before + n) k then place_from 2 (length before + n) m.captured else slot (length before + n - k + m.first_int)) before_is
      ∙ ap (λ b. if b then place_from 2 (length before + n) m.captured else slot (length before + n - length before + m.first_int)) (not_below (length before + n) (length before) (omega arith))
      ∙ ap (λ k. slot (length before + n - length before + k)) first_is
      ∙ small_slot (length before + n - length before + (2 + length taken)) (omega (arith, small))
      ∙ behind_two (length before) n (length taken)

  pub own_int_moved : (x : Name) (own : List Name) → is_among x before ≡ false → is_among x (low ∷ high ∷ taken) ≡ false
      → 2 + length taken + slot_of x own ≤ most_slot → moved_int m (slot_of x (before ++ own)) ≡ slot_of x ((low ∷ high ∷ taken) ++ own)
  own_int_moved x own unknown free small =
      ap (λ s. moved_int m s) (slot_past x before own unknown) ∙ past_int (slot_of x own) small
      ∙ sym (slot_past x (low ∷ high ∷ taken) own free)

module _ (m : Moves) (before over : List Name) (before_is : m.arrays_before ≡ length before) (over_is : m.over ≡ map (λ y. slot_of y before) over) (first_is : m.first_array ≡ length over) where
  -- an array of the loop, or an array of the iteration itself
  pub array_moved : (a : Name) (own : List Name) → is_among a before ≡ true → is_among a over ≡ true → length over ≤ most_slot → moved_array m (slot_of a (before ++ own)) ≡ slot_of a (over ++ own)
  array_moved a own known kept small =
      ap (λ s. moved_array m s) (slot_stays a before own known)
      ∙ ap (λ k. if nat_lt (slot_of a before) k then place_from 0 (slot_of a before) m.over else slot (slot_of a before - k + m.first_array)) before_is
      ∙ ap (λ b. if b then place_from 0 (slot_of a before) m.over else slot (slot_of a before - length before + m.first_array)) (below (slot_of a before) (length before) (slot_in a before known))
      ∙ ap (place_from 0 (slot_of a before)) over_is
      ∙ place_is 0 a before over known (omega (arith, small))
      ∙ omega arith
      ∙ sym (slot_stays a over own kept)

  pub past_array : (n : ℕ) → length over + n ≤ most_slot → moved_array m (length before + n) ≡ length over + n
  past_array n small =
      ap (λ k. if nat_lt (length before + n) k then place_from 0 (length before + n) m.over else slot (length before + n - k + m.first_array)) before_is
      ∙ ap (λ b. if b then place_from 0 (length before + n) m.over else slot (length before + n - length before + m.first_array)) (not_below (length before + n) (length before) (omega arith))
      ∙ ap (λ k. slot (length before + n - length before + k)) first_is
      ∙ small_slot (length before + n - length before + length over) (omega (arith, small))
      ∙ omega arith

  pub own_array_moved : (a : Name) (own : List Name) → is_among a before ≡ false → is_among a over ≡ false → length over + slot_of a own ≤ most_slot
      → moved_array m (slot_of a (before ++ own)) ≡ slot_of a (over ++ own)
  own_array_moved a own unknown free small =
      ap (λ s. moved_array m s) (slot_past a before own unknown) ∙ past_array (slot_of a own) small ∙ sym (slot_past a over own free)
