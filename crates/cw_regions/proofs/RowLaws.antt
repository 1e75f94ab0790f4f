-- Rows by tag number, and the join of two pieces.
use Rattle.std.proofs.Common.{◌≡◌, ℕ, ◌+◌, ◌<◌, ◌≤◌, ◌==◌, Bool, true, false, if◌then◌else◌, length, refl, sym, ap, subst, ◌∙◌, inl, inr, arith}
use Rattle.std.proofs.lemmas.Bool.{cases_lt}
use Rattle.std.proofs.lemmas.List.{get_or_past}
use borrow.Author.Tests.{eqb-true}
use Rattle.cw_facts.specs.Tests.{less_differs, less_where_it_differs, equal}
use Rattle.cw_measure.specs.Outermost.{unless_at}
use Rattle.cw_measure.specs.lemmas.Outermost.{unless_nothing}
use Rattle.cw_regions.specs.declared.rows.RowsByTag.{RowsByTag}
use Rattle.cw_regions.specs.declared.rows.Row.{Row}
use Rattle.cw_regions.specs.RegionRows.{row_of, zero_row, summed, under, FitsRow, IsGiven, IsReadAs, AddsEach, JoinsRows}

-- the rows below a place were added, and the others not yet
pub record Added (add : Row → Row → Row) (old shorter now : RowsByTag) (place : ℕ) : Type 0 where
  pub as_long : length now.by_tag.items ≡ length old.by_tag.items
  pub below : (q : ℕ) → q < place → FitsRow (add (row_of old q) (row_of shorter q)) → row_of now q ≡ add (row_of old q) (row_of shorter q)
  pub beyond : (q : ℕ) → place ≤ q → row_of now q ≡ row_of old q

pub none_added : (add : Row → Row → Row) (old shorter : RowsByTag) → Added add old shorter old 0
none_added add old shorter = record { as_long = refl; below = λ q h fits. absurd (omega arith); beyond = λ q h. refl }

given_here : (now new : RowsByTag) (place : ℕ) (sum : Row) → IsGiven now new place sum → row_of new place ≡ sum
given_here now new place sum g = g place ∙ ap (λ (b : Bool). if b then sum else row_of now place) (equal place place refl)

given_other : (now new : RowsByTag) (place q : ℕ) (sum : Row) → IsGiven now new place sum → (place == q) ≡ false → row_of new q ≡ row_of now q
given_other now new place q sum g e = g q ∙ ap (λ (b : Bool). if b then sum else row_of now q) e

pub one_added : (add : Row → Row → Row) (old shorter now new : RowsByTag) (place : ℕ) (current row sum : Row) → current ≡ row_of now place
    → row ≡ row_of shorter place → (FitsRow (add current row) → sum ≡ add current row) → IsGiven now new place sum
    → length new.by_tag.items ≡ length now.by_tag.items → Added add old shorter now place → Added add old shorter new (place + 1)
one_added add old shorter now new place current row sum c r s g l h = record {
  as_long = l ∙ h.as_long;
  below = λ q less fits. by_place q less fits (place == q) refl;
  beyond = λ q more. given_other now new place q sum g (less_differs place q (omega arith)) ∙ h.beyond q (omega arith);
}
  where
    by_place : (q : ℕ) → q < place + 1 → FitsRow (add (row_of old q) (row_of shorter q)) → (b : Bool) → (place == q) ≡ b → row_of new q ≡ add (row_of old q) (row_of shorter q)
    by_place q less fits true e =
        let same : place ≡ q = eqb-true place q e in
        let N : ℕ → Type 0 = λ x. row_of new x ≡ sum in
        let here : current ≡ row_of old q = c ∙ ap (row_of now) same ∙ h.beyond q (omega arith) in
        let there : row ≡ row_of shorter q = r ∙ ap (row_of shorter) same in
        let C : Row → Type 0 = λ x. FitsRow (add x row) → sum ≡ add x row in
        let S : Row → Type 0 = λ x. FitsRow (add (row_of old q) x) → sum ≡ add (row_of old q) x in
        subst N same (given_here now new place sum g) ∙ (subst S there (subst C here s)) fits
    by_place q less fits false e = given_other now new place q sum g e ∙ h.below q (less_where_it_differs place q less e) fits

pub each_added : (add : Row → Row → Row) (old shorter now : RowsByTag) (place : ℕ) → place ≡ length shorter.by_tag.items → Added add old shorter now place → AddsEach add old shorter now
each_added add old shorter now place e h = record {
  within = λ q less fits. h.below q (omega arith) fits;
  beyond = λ q more. h.beyond q (omega arith);
}

-- equal rows have equal readings
read_same : (r s : Row) → r ≡ s → IsReadAs r s
read_same r s e = record {
  work = ap (λ (x : Row). x.work) e;
  span = ap (λ (x : Row). x.span) e;
  burdened = ap (λ (x : Row). x.burdened) e;
  active = ap (λ (x : Row). x.active) e;
  at_work = λ h. ap (λ (x : Row). x.at_work) e;
  at_path = λ h. ap (λ (x : Row). x.at_path) e;
  at_burdened =
      λ h. ap (λ (x : Row). x.at_burdened) e;
}

-- a row that only the piece has
read_alone : (ours piece row : Row) → ours ≡ zero_row → row ≡ piece → piece.active ≡ 0 → IsReadAs row (summed ours piece)
read_alone ours piece row none e idle =
    let P : Row → Type 0 = λ x. IsReadAs row (summed x piece) in
    subst P (sym none) (record {
      work = let n = ap (λ (x : Row). x.work) e in omega arith;
      span = let n = ap (λ (x : Row). x.span) e in omega arith;
      burdened = let n = ap (λ (x : Row). x.burdened) e in omega arith;
      active = ap (λ (x : Row). x.active) e ∙ idle;
      at_work = λ h. absurd (omega arith);
      at_path = λ h. absurd (omega arith);
      at_burdened = λ h. absurd (omega arith);
    })

summed_none : (r : Row) → summed r zero_row ≡ r
summed_none r = let z = unless_nothing (r.active == 0) in let a : r.work + unless_at (r.active == 0) 0 ≡ r.work = omega arith in
    let b : r.span + unless_at (r.active == 0) 0 ≡ r.span = omega arith in let c : r.burdened + unless_at (r.active == 0) 0 ≡ r.burdened =
    omega arith in simp (a, b, c)

-- if we have at least the piece's number of rows, and if we have fewer
pub joined_into_ours : (old piece new : RowsByTag) → AddsEach summed old piece new → JoinsRows old piece new
joined_into_ours old piece new a = λ q fits alike.
    elim (cases_lt q (length piece.by_tag.items)) [
      | inl h ↦ read_same (row_of new q) (summed (row_of old q) (row_of piece q)) (a.within q h fits)
      | inr h ↦ read_same (row_of new q) (summed (row_of old q) (row_of piece q))
          (a.beyond q h ∙ sym (summed_none (row_of old q)) ∙ ap (summed (row_of old q)) (sym (get_or_past piece.by_tag.items q zero_row h)))
    ]

pub joined_into_piece : (old piece new : RowsByTag) → AddsEach under piece old new → JoinsRows old piece new
joined_into_piece old piece new a = λ q fits alike.
    elim (cases_lt q (length old.by_tag.items)) [
      | inl h ↦ read_same (row_of new q) (summed (row_of old q) (row_of piece q)) (a.within q h fits)
      | inr h ↦ read_alone (row_of old q) (row_of piece q) (row_of new q) (get_or_past old.by_tag.items q zero_row h) (a.beyond q h) alike
    ]
