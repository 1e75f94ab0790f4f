-- Operations that preserve the agreement of slots with their rows.
use Rattle.std.proofs.Common.{◌≡◌, ℕ, ◌<◌, Bool, true, false, Some, None, List, [], ◌∷◌, ◌++◌, length, refl, sym, ap, ◌∙◌, subst, arith, append_assoc}
use Rattle.std.specs.Prelude.{slice_get, slice_set, not, nat_eq}
use Rattle.std.proofs.lemmas.List.{length-set, length-map, append-nil}
use Rattle.cw_facts.specs.Lists.{set_other}
use Rattle.cw_facts.specs.Tests.{first_true, second_true, ne_of}
use Rattle.cw_code.specs.lemmas.Slots.{not_in_first, not_in_both, row_there, once_in_second, none_waits, full_is_full, settled_count}
use Rattle.cw_code.specs.Run.{Slots, Results, is_full, settled, full, moved_out}
use Rattle.cw_code.specs.Fits.{Row, is_full_in, full_in_all, none_empty, is_none_of, with_gone}
use Rattle.cw_code.specs.Good.{IsNotAmong, IsOnce, slots_in, all_of, RowHolds, RowsHold, Holds}
use Rattle.cw_code.proofs.Slots.{set_full, was_full, full_apart, row_apart, AllFull, AllApart, settled_full, settled_apart, empty_row, fewer_wait, filled_row}

-- if the test fails for all elements, the slot is not in the list
pub none_of : (a : ℕ) (bs : List ℕ) → is_none_of a bs ≡ true → IsNotAmong a bs
none_of a [] h = tt
none_of a (b ∷ bs) h = (λ e. differs (nat_eq a b) (first_true (not (nat_eq a b)) (is_none_of a bs) h) refl e, none_of a bs (second_true (not (nat_eq a b)) (is_none_of a bs) h))
  where
    differs : (c : Bool) → not c ≡ true → nat_eq a b ≡ c → a ≡ b → ⊥
    differs true k same e = cc
    differs false k same e = ne_of a b same e

module _ {A : Type 0} where
  -- a slot that was not emptied is still full
  pub still_full : (passed : List ℕ) (slots : Slots A) (a : ℕ) → IsNotAmong a passed → is_full (slice_get slots a) ≡ true → is_full (slice_get (moved_out passed slots) a) ≡ true
  still_full [] slots a n h = h
  still_full (b ∷ passed) slots a n h = ap is_full (set_other (moved_out passed slots) b a None n.0) ∙ still_full passed slots a n.1 h

  -- the slots are full and distinct
  abbrev pub AllThere : List ℕ → Slots A → Type 0
  AllThere [] slots = Unit {0}
  AllThere (a ∷ passed) slots = IsNotAmong a passed × (is_full (slice_get slots a) ≡ true) × AllThere passed slots

module _ {A : Type 0} (width : ℕ) where
  -- a slot that is full in all rows is full
  pub finds : (row : Row) (rows : List Row) (slots : Slots A) (waits : List ℕ) (others : List (List ℕ)) → Holds width row rows slots waits others
      → (a : ℕ) → full_in_all (row ∷ rows) a ≡ true → is_full (slice_get slots a) ≡ true
  finds row rows slots waits others g a h =
      let own = first_true (is_full_in (slice_get row a)) (full_in_all rows a) h in
      g.awaited a (omega (arith, row_there row a own, g.row_holds.as_wide, g.as_wide))
      (not_in_both a waits (all_of others) (g.row_holds.apart a own) (none_waits width rows others a g.rows_hold (second_true (is_full_in (slice_get row a)) (full_in_all rows a) h)))

  -- the rows may be replaced
  pub with_rows : (row row' : Row) (rows rows' : List Row) (slots : Slots A) (waits : List ℕ) (others : List (List ℕ)) → RowHolds width row' waits
      → RowsHold width rows' others → Holds width row rows slots waits others → Holds width row' rows' slots waits others
  with_rows row row' rows rows' slots waits others h k g = record { as_wide = g.as_wide; row_holds = h; rows_hold = k; awaited = g.awaited; apart = g.apart; once = g.once }

  -- a full slot is written
  pub with_slot : (row : Row) (rows : List Row) (slots : Slots A) (waits : List ℕ) (others : List (List ℕ)) (a : ℕ) (v : A)
      → is_full (slice_get slots a) ≡ true → Holds width row rows slots waits others → Holds width row rows (slice_set slots a (Some v)) waits others
  with_slot row rows slots waits others a v h g = record {
    as_wide = omega (arith, g.as_wide, length-set slots a (Some v));
    row_holds = g.row_holds;
    rows_hold = g.rows_hold;
    awaited = λ b lt none. let lt' : b < length slots = omega (arith, lt, length-set slots a (Some v)) in set_full slots a b v lt' (λ n. g.awaited b lt' none);
    apart = λ b k. g.apart b (was_full slots a b v h k);
    once = g.once;
  }

  -- a full slot was emptied, and its result is pending
  pub with_taken : (row : Row) (rows : List Row) (slots : Slots A) (waits : List ℕ) (others : List (List ℕ)) (a : ℕ) → is_full (slice_get slots a) ≡ true → Holds width row rows slots waits others
      → Holds width (slice_set row a true) rows (slice_set slots a None) (a ∷ waits) others
  with_taken row rows slots waits others a h g = record {
    as_wide = omega (arith, g.as_wide, length-set slots a None);
    row_holds = record {
      as_wide = length-set row a true ∙ g.row_holds.as_wide;
      apart = λ b k. let r = row_apart row a b k in (r.0, g.row_holds.apart b r.1);
    };
    rows_hold = g.rows_hold;
    awaited = λ b lt none. ap is_full (set_other slots a b None none.0) ∙ g.awaited b (omega (arith, lt, length-set slots a None)) none.1;
    apart = λ b k. let r = full_apart slots a b k in (r.0, g.apart b r.1);
    once = (g.apart a h, g.once);
  }

  -- several slots were emptied, and their results are pending
  pub with_all_taken : (passed : List ℕ) (row : Row) (rows : List Row) (slots : Slots A) (waits : List ℕ) (others : List (List ℕ)) → AllThere passed slots → Holds width row rows slots waits others
      → Holds width (with_gone passed row) rows (moved_out passed slots) (passed ++ waits) others
  with_all_taken [] row rows slots waits others h g = g
  with_all_taken (a ∷ passed) row rows slots waits others h g =
      with_taken (with_gone passed row) rows (moved_out passed slots) (passed ++ waits) others a (still_full passed slots a h.0 h.1) (with_all_taken passed row rows slots waits others h.2 g)

  -- a sync block begins
  pub with_block : (row : Row) (rows : List Row) (slots : Slots A) (waits : List ℕ) (others : List (List ℕ)) (count : ℕ) → count ≡ width
      → Holds width row rows slots waits others → Holds width (none_empty count) (row ∷ rows) slots [] (waits ∷ others)
  with_block row rows slots waits others count e g = record {
    as_wide = g.as_wide;
    row_holds = empty_row width count e;
    rows_hold = (g.row_holds, g.rows_hold);
    awaited = g.awaited;
    apart = g.apart;
    once = g.once;
  }

  -- a block ends
  pub with_outer : (row row' : Row) (rows : List Row) (slots : Slots A) (waits : List ℕ) (others : List (List ℕ))
      → Holds width row (row' ∷ rows) slots [] (waits ∷ others) → Holds width row' rows slots waits others
  with_outer row row' rows slots waits others g = record {
    as_wide = g.as_wide;
    row_holds = g.rows_hold.0;
    rows_hold = g.rows_hold.1;
    awaited = g.awaited;
    apart = g.apart;
    once = g.once;
  }

  -- some results went back into their slots
  pub with_settled : (row : Row) (rows : List Row) (slots : Slots A) (newest : Results A) (waits : List ℕ) (others : List (List ℕ))
      → Holds width row rows slots (slots_in newest ++ waits) others → Holds width row rows (settled newest slots) waits others
  with_settled row rows slots newest waits others g =
      let same = append_assoc (slots_in newest) waits (all_of others) in
      record {
        as_wide = omega (arith, g.as_wide, settled_count newest slots);
        row_holds = fewer_wait width row (slots_in newest) waits g.row_holds;
        rows_hold = g.rows_hold;
        awaited = settled_full newest (waits ++ all_of others) slots (subst (λ xs. AllFull xs slots) same g.awaited);
        apart = settled_apart newest (waits ++ all_of others) slots (subst (λ xs. AllApart xs slots) same g.apart) (subst IsOnce same g.once);
        once = once_in_second (slots_in newest) (waits ++ all_of others) (subst IsOnce same g.once);
      }

  -- a join: all results went back into their slots
  pub with_joined : (row : Row) (rows : List Row) (slots : Slots A) (results : Results A) (others : List (List ℕ)) (count : ℕ) → count ≡ width
      → Holds width row rows slots (slots_in results) others → Holds width (none_empty count) rows (settled results slots) [] others
  with_joined row rows slots results others count e g =
      let h = with_settled row rows slots results [] others (subst (λ ws. Holds width row rows slots ws others) (sym (append-nil (slots_in results))) g) in
      with_rows row (none_empty count) rows rows (settled results slots) [] others (empty_row width count e) h.rows_hold h

  -- the slot of a cut array is full again
  pub with_filled : (row : Row) (rows : List Row) (slots : Slots A) (a : ℕ) (v : A) (waits : List ℕ) (others : List (List ℕ))
      → Holds width row rows slots (a ∷ waits) others → Holds width (slice_set row a false) rows (slice_set slots a (Some v)) waits others
  with_filled row rows slots a v waits others g =
      let h = with_settled row rows slots ((a, v) ∷ []) waits others g in
      with_rows row (slice_set row a false) rows rows (slice_set slots a (Some v)) waits others (filled_row width row a waits (not_in_first a waits (all_of others) g.once.0) h.row_holds) h.rows_hold h

  -- a call begins
  pub begins_full : (xs : List A) → length xs ≡ width → Holds width (none_empty width) [] (full xs) [] []
  begins_full xs n = record {
    as_wide = sym (length-map xs (λ x. Some x) ∙ n);
    row_holds = empty_row width width refl;
    rows_hold = tt;
    awaited = λ a lt free. full_is_full xs a (omega (arith, lt, length-map xs (λ x. Some x)));
    apart = λ a h. tt;
    once = tt;
  }
