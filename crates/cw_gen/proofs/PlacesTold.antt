-- The table of the places of the first array slots of a function, and the marks that it represents.
use Rattle.std.proofs.Common.{◌≡◌, ℕ, zero, suc, ◌+◌, ◌-◌, ◌<◌, ◌≤◌, List, [], ◌∷◌, ◌++◌, length, Bool, Some, true, false, refl, sym, ap, ◌∙◌, arith}
use Rattle.std.specs.Prelude.{slice_get, slice_index_or, if◌then◌else◌, ◌==◌}
use Rattle.std.proofs.lemmas.List.{append-nil, length-map}
use Rattle.std.proofs.lemmas.Option.{slice_get-get_or}
use Rattle.cw_model.specs.declared.syntax.NameKind.{NameKind}
use Rattle.std.proofs.lemmas.Bool.{eqb-true}
use Rattle.cw_code.specs.declared.code.Loan.{Loan}
use Rattle.cw_code.specs.declared.code.Loan.TheVariants as loan
use Rattle.cw_gen.specs.Marks.{Marks, place_of, behind_place, readers_in, is_reader_place, marks_in, places_from, marks_of_places, unless_none}

-- a place after this number of arrays and readers
abbrev pub place_behind : (a r : ℕ) → Loan → Loan
place_behind a r (loan.Array n) = loan.Array (a + n)
place_behind a r (loan.Reader n) = loan.Reader (r + n)

array_eq : {a b : ℕ} → a ≡ b → loan.Array a ≡ loan.Array b
array_eq e = ap loan.Array e

reader_eq : {a b : ℕ} → a ≡ b → loan.Reader a ≡ loan.Reader b
reader_eq e = ap loan.Reader e

-- a place after one more reader
behind_read : (a r : ℕ) (l : Loan) → place_behind a (suc r) l ≡ place_behind a r (behind_place true l)
behind_read a r (loan.Array n) = refl
behind_read a r (loan.Reader n) = reader_eq (omega arith)

behind_own : (a r : ℕ) (l : Loan) → place_behind (suc a) r l ≡ place_behind a r (behind_place false l)
behind_own a r (loan.Array n) = array_eq (omega arith)
behind_own a r (loan.Reader n) = refl

-- a place in the table is the place of its slot
found_from : (a r : ℕ) (marks : Marks) (s : ℕ) → s < length marks → slice_get (places_from a r marks) s ≡ Some (place_behind a r (place_of marks s))
found_from a r [] s h = absurd (omega (arith, h))
found_from a r (true ∷ marks) zero h = ap Some (reader_eq (omega arith))
found_from a r (false ∷ marks) zero h = ap Some (array_eq (omega arith))
found_from a r (true ∷ marks) (suc s) h = found_from a (suc r) marks s (omega (arith, h)) ∙ ap Some (behind_read a r (place_of marks s))
found_from a r (false ∷ marks) (suc s) h = found_from (suc a) r marks s (omega (arith, h)) ∙ ap Some (behind_own a r (place_of marks s))

behind_none : (l : Loan) → place_behind 0 0 l ≡ l
behind_none (loan.Array n) = array_eq (omega arith)
behind_none (loan.Reader n) = reader_eq (omega arith)

pub place_found : (marks : Marks) (s : ℕ) → s < length marks → slice_get (places_from 0 0 marks) s ≡ Some (place_of marks s)
place_found marks s h = found_from 0 0 marks s h ∙ ap Some (behind_none (place_of marks s))

pub few_readers : (marks : Marks) → readers_in marks ≤ length marks
few_readers [] = omega arith
few_readers (true ∷ marks) = omega (arith, few_readers marks)
few_readers (false ∷ marks) = omega (arith, few_readers marks)

-- slots after the table are arrays
pub place_beyond : (marks : Marks) (s : ℕ) → length marks ≤ s → place_of marks s ≡ loan.Array (s - readers_in marks)
place_beyond [] s h = array_eq (omega arith)
place_beyond (m ∷ marks) zero h = absurd (omega (arith, h))
place_beyond (true ∷ marks) (suc s) h = ap (behind_place true) (place_beyond marks s (omega (arith, h))) ∙ array_eq (omega arith)
place_beyond (false ∷ marks) (suc s) h = ap (behind_place false) (place_beyond marks s (omega (arith, h))) ∙ array_eq (omega (arith, h, few_readers marks))

-- the table represents the marks
pub told_from : (a r : ℕ) (marks : Marks) → marks_of_places (places_from a r marks) ≡ marks
told_from a r [] = refl
told_from a r (true ∷ marks) = ap (λ ms. true ∷ ms) (told_from a (suc r) marks)
told_from a r (false ∷ marks) = ap (λ ms. false ∷ ms) (told_from (suc a) r marks)

-- the marks of a table that is built from marks
pub told_table : (items : List Loan) (marks : Marks) → items ≡ places_from 0 0 marks → marks_of_places items ≡ marks
told_table items marks h = ap marks_of_places h ∙ told_from 0 0 marks

pub table_counted : (items : List Loan) (marks : Marks) → items ≡ places_from 0 0 marks → items ≡ places_from 0 0 (marks_of_places items)
table_counted items marks h = h ∙ ap (places_from 0 0) (sym (told_table items marks h))

pub some_kept : (marks : Marks) → 0 < readers_in marks → unless_none marks ≡ marks
some_kept marks h = test (readers_in marks == 0) refl
  where
    test : (b : Bool) → (readers_in marks == 0) ≡ b → (if b then [] else marks) ≡ marks
    test true e = absurd (omega (arith, h, eqb-true (readers_in marks) 0 e))
    test false e = refl

-- a place that is read from the table
pub place_at : (items : List Loan) (s : ℕ) (x : Loan) → items ≡ places_from 0 0 (marks_of_places items) → s < length items → x ≡ slice_index_or items s x → x ≡ place_of (marks_of_places items) s
place_at items s x counted within is =
    let n : length (marks_of_places items) ≡ length items = length-map items is_reader_place in
    let found : Some x ≡ Some (place_of (marks_of_places items) s) =
    ap Some is ∙ sym (slice_get-get_or items s x within) ∙ ap (λ l. slice_get l s) counted ∙ place_found (marks_of_places items) s (omega (arith, within, n)) in
    cc found

-- the number of readers is at most the position of a slot after the table
pub readers_behind : (items : List Loan) (readers s : ℕ) → readers ≡ readers_in (marks_of_places items) → length items ≤ s → readers ≤ s
readers_behind items readers s many le = omega (arith, many, le, few_readers (marks_of_places items), length-map items is_reader_place)

pub place_past : (items : List Loan) (readers s : ℕ) → readers ≡ readers_in (marks_of_places items) → length items ≤ s → loan.Array (s - readers) ≡ place_of (marks_of_places items) s
place_past items readers s many le =
    let n : length (marks_of_places items) ≡ length items = length-map items is_reader_place in
    ap (λ k. loan.Array (s - k)) many ∙ sym (place_beyond (marks_of_places items) s (omega (arith, le, n)))

-- the table after the last parameter
pub table_ends : (kinds left : List NameKind) (items : List Loan) (a r : ℕ) → left ≡ []
    → items ++ places_from a r (marks_in left) ≡ places_from 0 0 (marks_in kinds) → items ≡ places_from 0 0 (marks_in kinds)
table_ends kinds left items a r none before = sym (append-nil items) ∙ sym (ap (λ l. items ++ places_from a r (marks_in l)) none) ∙ before

pub readers_end : (kinds left : List NameKind) (readers : ℕ) → left ≡ [] → readers + readers_in (marks_in left) ≡ readers_in (marks_in kinds) → readers ≡ readers_in (marks_in kinds)
readers_end kinds left readers none before =
    let z : readers_in (marks_in left) ≡ 0 = ap (λ l. readers_in (marks_in l)) none in
    omega (arith, z, before)
