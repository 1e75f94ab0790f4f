-- Sets of names, represented by rows of slots.
use Rattle.std.proofs.Common.{◌≡◌, ℕ, suc, ◌<◌, ◌≤◌, ◌==◌, nat_lt, Bool, true, false, ◌||◌, if◌then◌else◌, List, [], ◌∷◌, ◌++◌, length, refl, sym, ap, ◌∙◌, arith, length-append}
use Rattle.std.proofs.lemmas.Bool.Decides.{nat_tests}
use Rattle.std.proofs.Math.Bool.{or-false, or_assoc}
use Rattle.cw_model.specs.Syntax.{Name}
use Rattle.cw_model.specs.Names.{same_name, is_among}
use Rattle.cw_tree.specs.Resolved.{Locals, slot_of}
use Rattle.cw_tree.specs.Resolved as spec
use Rattle.cw_tree.specs.lemmas.NamedSlots.{one_slot, slot_in, slot_out}
use Rattle.cw_own.specs.Sets.{Slots, Row, no_local, with_int, with_array, either_row}
use Rattle.cw_own.proofs.Words.{four_or, or_swap}

-- a known name keeps its slot
pub slot_kept : (x : Name) (names : List Name) (y : Name) → is_among x names ≡ true → slot_of x (names ++ y ∷ []) ≡ slot_of x names
slot_kept x [] y h = cc
slot_kept x (z ∷ names) y h = first (same_name x z) (slot_kept x names y) h
  where
    first : (b : Bool) → (is_among x names ≡ true → slot_of x (names ++ y ∷ []) ≡ slot_of x names) → (if b then true else is_among x names) ≡ true →
        (if b then 0 else suc (slot_of x (names ++ y ∷ []))) ≡ (if b then 0 else suc (slot_of x names))
    first true f g = refl
    first false f g = ap suc (f g)

-- if a set has no slot from the end on, appending a name does not change it
pub slot_push : (x : Name) (names : List Name) (y : Name) (slots : Slots) → ((slot : ℕ) → length names ≤ slot → slots slot ≡ false) →
    slots (slot_of x (names ++ y ∷ [])) ≡ slots (slot_of x names)
slot_push x [] y slots free = first (same_name x y)
  where
    first : (b : Bool) → slots (if b then 0 else 1) ≡ slots 0
    first true = refl
    first false = free 1 (omega arith) ∙ sym (free 0 (omega arith))
slot_push x (z ∷ names) y slots free = first (same_name x z) (slot_push x names y (λ k. slots (suc k)) (λ k h. free (suc k) (omega (arith, h))))
  where
    first : (b : Bool) → slots (suc (slot_of x (names ++ y ∷ []))) ≡ slots (suc (slot_of x names)) →
        slots (if b then 0 else suc (slot_of x (names ++ y ∷ []))) ≡ slots (if b then 0 else suc (slot_of x names))
    first true h = refl
    first false h = h

-- the names of the set are the known locals whose slots are in the row
pub record Shows (locals : Locals) (P : Name → Bool) (row : Row) : Type 0 where
  pub same : (x : Name) → P x ≡ (row.ints (slot_of x locals.ints) || row.arrays (slot_of x locals.arrays))
  pub ints_end : (k : ℕ) → length locals.ints ≤ k → row.ints k ≡ false
  pub arrays_end : (k : ℕ) → length locals.arrays ≤ k → row.arrays k ≡ false

pub shows_none : (locals : Locals) → Shows locals (λ x. false) no_local
shows_none locals = record { same = λ x. refl; ints_end = λ k h. refl; arrays_end = λ k h. refl }

pub shows_as : (locals : Locals) (P Q : Name → Bool) (row : Row) → ((x : Name) → Q x ≡ P x) → Shows locals P row → Shows locals Q row
shows_as locals P Q row h s = record { same = λ x. h x ∙ s.same x; ints_end = s.ints_end; arrays_end = s.arrays_end }

pub shows_row : (locals : Locals) (P : Name → Bool) (row other : Row) → row ≡ other → Shows locals P row → Shows locals P other
shows_row locals P row other h s = record {
  same = λ x. s.same x ∙ ap (λ r. r.ints (slot_of x locals.ints) || r.arrays (slot_of x locals.arrays)) h;
  ints_end = λ k le. ap (λ r. r.ints k) (sym h) ∙ s.ints_end k le;
  arrays_end = λ k le. ap (λ r. r.arrays k) (sym h) ∙ s.arrays_end k le;
}

pub shows_either : (locals : Locals) (P Q : Name → Bool) (r s : Row) → Shows locals P r → Shows locals Q s → Shows locals (λ x. P x || Q x) (either_row r s)
shows_either locals P Q r s a b = record {
  same = λ x.
      ap (λ p. p || Q x) (a.same x) ∙ ap (λ q. (r.ints (slot_of x locals.ints) || r.arrays (slot_of x locals.arrays)) || q) (b.same x)
      ∙ four_or (r.ints (slot_of x locals.ints)) (r.arrays (slot_of x locals.arrays)) (s.ints (slot_of x locals.ints)) (s.arrays (slot_of x locals.arrays));
  ints_end = λ k h. ap (λ p. p || s.ints k) (a.ints_end k h) ∙ b.ints_end k h;
  arrays_end = λ k h. ap (λ p. p || s.arrays k) (a.arrays_end k h) ∙ b.arrays_end k h;
}

-- a new name is known, and it is in no set
pub shows_push_int : (locals : Locals) (y : Name) (P : Name → Bool) (row : Row) → Shows locals P row → Shows (spec.with_int y locals) P row
shows_push_int locals y P row s =
    let count = length-append locals.ints (y ∷ []) in
    record {
      same = λ x. s.same x ∙ ap (λ b. b || row.arrays (slot_of x locals.arrays)) (sym (slot_push x locals.ints y row.ints s.ints_end));
      ints_end = λ k h. s.ints_end k (omega (arith, h, count));
      arrays_end = s.arrays_end;
    }

pub shows_push_array : (locals : Locals) (y : Name) (P : Name → Bool) (row : Row) → Shows locals P row → Shows (spec.with_array y locals) P row
shows_push_array locals y P row s =
    let count = length-append locals.arrays (y ∷ []) in
    record {
      same = λ x. s.same x ∙ ap (λ b. row.ints (slot_of x locals.ints) || b) (sym (slot_push x locals.arrays y row.arrays s.arrays_end));
      ints_end = s.ints_end;
      arrays_end = λ k h. s.arrays_end k (omega (arith, h, count));
    }

beyond_not : (m n k : ℕ) → m < n → n ≤ k → (k == m) ≡ false
beyond_not m n k lt le = grind (arith, nat_tests)

-- adds a known integer to the set
pub shows_int : (locals : Locals) (x : Name) (P : Name → Bool) (row : Row) → is_among x locals.ints ≡ true → Shows locals P row →
    Shows locals (λ z. same_name z x || P z) (with_int (slot_of x locals.ints) row)
shows_int locals x P row there s = record {
  same = λ z.
      ap (λ b. same_name z x || b) (s.same z)
      ∙ ap (λ b. b || (row.ints (slot_of z locals.ints) || row.arrays (slot_of z locals.arrays))) (sym (one_slot z x locals.ints there))
      ∙ sym (or_assoc (slot_of z locals.ints == slot_of x locals.ints) (row.ints (slot_of z locals.ints)) (row.arrays (slot_of z locals.arrays)));
  ints_end = λ k h. ap (λ b. b || row.ints k) (beyond_not (slot_of x locals.ints) (length locals.ints) k (slot_in x locals.ints there) h) ∙ s.ints_end k h;
  arrays_end = s.arrays_end;
}

-- adds a known array to the set
pub shows_array : (locals : Locals) (x : Name) (P : Name → Bool) (row : Row) → is_among x locals.arrays ≡ true → Shows locals P row →
    Shows locals (λ z. same_name z x || P z) (with_array (slot_of x locals.arrays) row)
shows_array locals x P row there s = record {
  same = λ z.
      ap (λ b. same_name z x || b) (s.same z)
      ∙ ap (λ b. b || (row.ints (slot_of z locals.ints) || row.arrays (slot_of z locals.arrays))) (sym (one_slot z x locals.arrays there))
      ∙ or_swap (slot_of z locals.arrays == slot_of x locals.arrays) (row.ints (slot_of z locals.ints)) (row.arrays (slot_of z locals.arrays));
  ints_end = s.ints_end;
  arrays_end = λ k h. ap (λ b. b || row.arrays k) (beyond_not (slot_of x locals.arrays) (length locals.arrays) k (slot_in x locals.arrays there) h) ∙ s.arrays_end k h;
}

-- an integer is in the set exactly if its slot is in the row
pub int_shown : (locals : Locals) (P : Name → Bool) (row : Row) (x : Name) → is_among x locals.arrays ≡ false → Shows locals P row →
    P x ≡ row.ints (slot_of x locals.ints)
int_shown locals P row x apart s =
    let end : row.arrays (slot_of x locals.arrays) ≡ false = let e = slot_out x locals.arrays apart in s.arrays_end (slot_of x locals.arrays) (omega (arith, e)) in
    s.same x ∙ ap (λ b. row.ints (slot_of x locals.ints) || b) end ∙ or-false (row.ints (slot_of x locals.ints))

pub array_shown : (locals : Locals) (P : Name → Bool) (row : Row) (x : Name) → is_among x locals.ints ≡ false → Shows locals P row →
    P x ≡ row.arrays (slot_of x locals.arrays)
array_shown locals P row x apart s =
    let end : row.ints (slot_of x locals.ints) ≡ false = let e = slot_out x locals.ints apart in s.ints_end (slot_of x locals.ints) (omega (arith, e)) in
    s.same x ∙ ap (λ b. b || row.arrays (slot_of x locals.arrays)) end

-- the row of the known locals
abbrev pub known_row : Locals → Row
known_row locals = record { ints = λ k. nat_lt k (length locals.ints); arrays = λ k. nat_lt k (length locals.arrays) }
