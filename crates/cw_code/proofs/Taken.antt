-- Arrays that are taken from slots, and that return to them.
use Rattle.std.proofs.Common.{◌≡◌, ℕ, zero, suc, ◌<◌, ◌≤◌, ℤ, true, Option, Some, None, List, [], ◌∷◌, length, refl, ap, ◌∙◌, subst, arith}
use Rattle.std.specs.Prelude.{map, slice_get}
use Rattle.std.proofs.lemmas.Bool.{false≢true}
use Rattle.cw_facts.specs.Tests.{taken}
use Rattle.cw_code.specs.declared.code.Func.{Func}
use Rattle.cw_code.specs.declared.code.Loan.{Loan}
use Rattle.cw_code.specs.Run.{Slots, Results, Readers, Taken, State, is_full, put_in, slot_taken, moved_out, and_array}
use Rattle.cw_code.specs.Run.{arrays_in, reader, loaned, lent_in, parts_of, restored, and_result, given_back, given}
use Rattle.cw_code.specs.Fits.{Shape, empty_rows, gone_rows, cleared, CoversEach, AreLaidOutFrom}
use Rattle.cw_code.specs.Good.{slots_in, ints_round, arrays_round, Holds, Good, FitSettles}
use Rattle.cw_code.proofs.Slots.{covered_row, covered_empty, covered_gone, covered_cuts, slots_in_both}
use Rattle.cw_code.proofs.Keeps.{AllThere, still_full, with_rows, with_settled, with_joined}
use Rattle.cw_code.specs.lemmas.Lying.{lie_up}

-- a place in consecutive functions
pub lie_within : (from : ℕ) (fs : List Func) (to k : ℕ) (f : Func) → AreLaidOutFrom from fs to → slice_get fs k ≡ Some f → f.end ≤ to
lie_within from [] to k f h e = cc
lie_within from (g ∷ fs) to zero f h e = let same : g ≡ f = cc in omega (arith, lie_up g.end fs to h.2, ap (λ (x : Func). x.end) same)
lie_within from (g ∷ fs) to (suc k) f h e = lie_within g.end fs to k f h.2 e

-- the arrays that a call returns, if its array slots are full
pub gives_back : (taken : List Taken) (arrays : Slots (List ℤ)) → length taken ≤ length arrays → ((a : ℕ) → a < length arrays → is_full (slice_get arrays a) ≡ true)
    → (results : Results (List ℤ)) × (given_back taken arrays ≡ Some results) × (slots_in results ≡ map slot_taken taken)
gives_back [] arrays le h = ([], refl, refl)
gives_back (x ∷ taken) [] le h = absurd (omega (arith, le))
gives_back (x ∷ taken) (None ∷ arrays) le h = absurd (false≢true (h 0 (omega arith)))
gives_back (x ∷ taken) (Some xs ∷ arrays) le h =
    let r = gives_back taken arrays (omega (arith, le)) (λ a lt. h (suc a) (omega (arith, lt))) in
    ((slot_taken x, restored x xs) ∷ r.0, ap (and_result x (Some xs)) r.1, ap (λ ks. slot_taken x ∷ ks) r.2)

-- arrays that exist can be taken
pub there_arrays : (passed : List ℕ) (arrays : Slots (List ℤ)) → AllThere passed arrays → (given : List (List ℤ)) × (arrays_in passed arrays ≡ Some given) × (length given ≡ length passed)
there_arrays [] arrays h = ([], refl, refl)
there_arrays (a ∷ passed) arrays h =
    let r = there_arrays passed arrays h.2 in
    cases r.0 r.1 r.2 (slice_get (moved_out passed arrays) a) refl (still_full passed arrays a h.0 h.1)
  where
    cases : (given : List (List ℤ)) → arrays_in passed arrays ≡ Some given → length given ≡ length passed → (o : Option (Option (List ℤ)))
        → slice_get (moved_out passed arrays) a ≡ o → is_full o ≡ true
        → (more : List (List ℤ)) × (arrays_in (a ∷ passed) arrays ≡ Some more) × (length more ≡ suc (length passed))
    cases given e n None f k = cc
    cases given e n (Some None) f k = cc
    cases given e n (Some (Some xs)) f k =
        (xs ∷ given, ap (λ o. and_array o (arrays_in passed arrays)) f ∙ ap (and_array (Some (Some xs))) e, ap suc n)

-- an array that a call was lent exists
pub reader_full : (readers : Readers) (r : ℕ) → r < length readers → is_full (reader readers r) ≡ true
reader_full [] r lt = absurd (omega (arith, lt))
reader_full (xs ∷ readers) zero lt = refl
reader_full (xs ∷ readers) (suc r) lt = reader_full readers r (omega (arith, lt))

-- the slot of each loan is full
abbrev pub AllLoaned : List Loan → Slots (List ℤ) → Readers → Type 0
AllLoaned [] arrays readers = Unit {0}
AllLoaned (loan ∷ loans) arrays readers = (is_full (loaned loan arrays readers) ≡ true) × AllLoaned loans arrays readers

-- loans of full slots can be made
pub there_lent : (loans : List Loan) (arrays : Slots (List ℤ)) (readers : Readers) → AllLoaned loans arrays readers
    → (lent : Readers) × (lent_in loans arrays readers ≡ Some lent) × (length lent ≡ length loans)
there_lent [] arrays readers h = ([], refl, refl)
there_lent (loan ∷ loans) arrays readers h =
    let r = there_lent loans arrays readers h.1 in
    cases r.0 r.1 r.2 (loaned loan arrays readers) refl h.0
  where
    cases : (lent : Readers) → lent_in loans arrays readers ≡ Some lent → length lent ≡ length loans → (o : Option (Option (List ℤ))) → loaned loan arrays readers ≡ o → is_full o ≡ true
        → (more : Readers) × (lent_in (loan ∷ loans) arrays readers ≡ Some more) × (length more ≡ suc (length loans))
    cases lent e n None f k = cc
    cases lent e n (Some None) f k = cc
    cases lent e n (Some (Some xs)) f k =
        (xs ∷ lent, ap (λ o. and_array o (lent_in loans arrays readers)) f ∙ ap (and_array (Some (Some xs))) e, ap suc n)

pub part_slots : (from : ℕ) (passed : List ℕ) (given : List (List ℤ)) → length given ≡ length passed → map slot_taken (parts_of from passed given) ≡ passed
part_slots from [] [] e = refl
part_slots from [] (xs ∷ given) e = absurd (omega (arith, e))
part_slots from (a ∷ passed) [] e = absurd (omega (arith, e))
part_slots from (a ∷ passed) (xs ∷ given) e = ap (λ ks. a ∷ ks) (part_slots from passed given (omega (arith, e)))

-- a good call in another state with the same slots
module _ (f : Func) where
  pub covered : (there out : Shape) (s : State) → there.operands ≡ out.operands
      → CoversEach (record { empty = there.empty; gone = there.gone; frozen = there.frozen; cut = None } ∷ there.outer)
      (record { empty = out.empty; gone = out.gone; frozen = out.frozen; cut = None } ∷ out.outer) → Good f out s → Good f there s
  covered there out s e c g = record {
    as_many = e ∙ g.as_many;
    ints = with_rows f.slots out.empty there.empty (empty_rows out.outer) (empty_rows there.outer) s.slots (slots_in s.results) (ints_round s.around)
        (covered_row f.slots there.empty out.empty (slots_in s.results) c.0 g.ints.row_holds) (covered_empty f.slots there.outer out.outer (ints_round s.around) c.4 g.ints.rows_hold) g.ints;
    arrays = with_rows f.arrays out.gone there.gone (gone_rows out.outer) (gone_rows there.outer) s.arrays (slots_in s.arrived) (arrays_round s.around)
        (covered_row f.arrays there.gone out.gone (slots_in s.arrived) c.1 g.arrays.row_holds) (covered_gone f.arrays there.outer out.outer (arrays_round s.around) c.4 g.arrays.rows_hold) g.arrays;
    readers = g.readers;
    cuts = covered_cuts there.outer out.outer s.around c.4 g.cuts;
  }

  -- a join: all pending results of the innermost block went back
  pub joined : (shape : Shape) (s : State) → Good f shape s → Good f (cleared shape) (put_in s)
  joined shape s g = record {
    as_many = g.as_many;
    ints = with_joined f.slots shape.empty (empty_rows shape.outer) s.slots s.results (ints_round s.around) (length shape.empty) g.ints.row_holds.as_wide g.ints;
    arrays = with_joined f.arrays shape.gone (gone_rows shape.outer) s.arrays s.arrived (arrays_round s.around) (length shape.gone) g.arrays.row_holds.as_wide g.arrays;
    readers = g.readers;
    cuts = g.cuts;
  }

pub settles : FitSettles
settles f shape s newest others newest' others' g = record {
  as_many = g.as_many;
  ints = with_settled f.slots shape.empty (empty_rows shape.outer) s.slots newest (slots_in others) (ints_round s.around)
      (subst (λ ws. Holds f.slots shape.empty (empty_rows shape.outer) s.slots ws (ints_round s.around)) (slots_in_both newest others) g.ints);
  arrays = with_settled f.arrays shape.gone (gone_rows shape.outer) s.arrays newest' (slots_in others') (arrays_round s.around)
      (subst (λ ws. Holds f.arrays shape.gone (gone_rows shape.outer) s.arrays ws (arrays_round s.around)) (slots_in_both newest' others') g.arrays);
  readers = g.readers;
  cuts = g.cuts;
}
