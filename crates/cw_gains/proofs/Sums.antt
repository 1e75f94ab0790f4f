-- The sums of a function are those of the rows of its sites in the tree of a run.
use Rattle.std.proofs.Common.{◌≡◌, ℕ, suc, ◌+◌, Bool, true, false, List, [], ◌∷◌, length, map, Some, arith, refl, ap, ◌∙◌}
use Prim.Native.Nat.add
use Rattle.std.specs.Prelude.{nat_eq, if◌then◌else◌, sum_by, filter, slice_get}
use Rattle.std.proofs.lemmas.Bool.{and_parts}
use Rattle.std.proofs.lemmas.Bool.Decides.{nat_tests}
use Rattle.std.proofs.lemmas.List.Sums.{sum_by-cons}
use Rattle.cw_model.specs.Syntax.{Name}
use Rattle.cw_model.specs.Names.{same_name}
use Rattle.cw_model.specs.Answers.{main_name}
use Rattle.cw_model.specs.Trees.{Tree}
use Rattle.cw_model.specs.Rows as model
use Rattle.cw_model.specs.Rows.{site_row}
use Rattle.cw_model.specs.Sites.{CallSite, are_numbered}
use Rattle.cw_model.specs.Freed.{function_row}
use Rattle.cw_sites.specs.declared.table.SiteRow.{SiteRow}
use Rattle.cw_sites.specs.Tables as tables
use Rattle.cw_sites.specs.lemmas.Tables.{AreRowsFrom}
use Rattle.cw_meter.specs.Whole.{AreSiteRows}
use Rattle.cw_code.specs.Code.{CodeSite}
use Rattle.cw_code.specs.Heads.{head_view}
use Rattle.cw_gains.specs.Counts.{no_sums, and_row, sums_from, sums_of, counted_of, row_view}
use Rattle.cw_gains.specs.Gains.{root_at}
use Rattle.cw_code.specs.declared.head.Head.{Head}
use Rattle.cw_gains.specs.declared.counts.Sums.{Sums}

-- the second sums are the first ones, with the rows of these sites in a tree added
record AreOver (t : Tree) (named : List CallSite) (from to : Sums) : Type 0 where
  calls : to.calls ≡ from.calls + sum_by (λ s. (site_row s.number t).calls) named
  own_work : to.own_work ≡ from.own_work + sum_by (λ s. (site_row s.number t).own_work) named
  own_span : to.own_span ≡ from.own_span + sum_by (λ s. (site_row s.number t).own_span) named

-- the sites among these that call a function of this name
abbrev named_in : Name → List CallSite → List CallSite
named_in name all = filter (λ s. same_name name s.callee) all

module _ (t : Tree) where
  sum_more : (reading : model.SiteRow → ℕ) (s : CallSite) (named : List CallSite) (of first last : ℕ) → of ≡ reading (site_row s.number t)
      → last ≡ first + of + sum_by (λ s. reading (site_row s.number t)) named
      → last ≡ first + sum_by (λ s. reading (site_row s.number t)) (s ∷ named)
  sum_more reading s named of first last e h =
      rw (sum_by-cons (λ (s : CallSite). reading (site_row s.number t)) s named) (omega (arith, e, h))

  -- one more site, whose row is that of the tree
  one_more : (b : Bool) (s : CallSite) (named : List CallSite) (row : SiteRow) (from to : Sums) → tables.IsRow row (site_row s.number t)
      → AreOver t named (and_row from b row) to → AreOver t (if b then s ∷ named else named) from to
  one_more true s named row from to is h = record {
    calls = sum_more (λ row. row.calls) s named row.calls from.calls to.calls is.calls h.calls;
    own_work = sum_more (λ row. row.own_work) s named row.own_work from.own_work to.own_work is.own_work h.own_work;
    own_span = sum_more (λ row. row.own_span) s named row.own_span from.own_span to.own_span is.own_span h.own_span;
  }
  one_more false s named row from to is h = h

  none_more : (sums : Sums) → AreOver t [] sums sums
  none_more sums = record { calls = omega arith; own_work = omega arith; own_span = omega arith }

  sums_over : (name : Name) (n : ℕ) (from : Sums) (sites : List CodeSite) (rows : List SiteRow) → length rows ≡ length sites
      → are_numbered n (map (λ s. s.told) sites) ≡ true → AreRowsFrom (suc n) t rows
      → AreOver t (named_in name (map (λ s. s.told) sites)) from (sums_from name from sites rows)
  sums_over name n from [] rows count numbered h = none_more from
  sums_over name n from (s ∷ sites) [] count numbered h = absurd (omega (arith, count))
  sums_over name n from (s ∷ sites) (row ∷ rows) count numbered h =
      let split = and_parts (nat_eq s.told.number (suc n)) (are_numbered (suc n) (map (λ s. s.told) sites)) numbered in
      let number : s.told.number ≡ suc n = grind (arith, nat_tests, split.0) in
      let rest = sums_over name (suc n) (and_row from (same_name name s.told.callee) row) sites rows (omega (arith, count)) split.1
      (λ k site r at there. h (suc k) site r (omega (arith, at)) there) in
      one_more (same_name name s.told.callee) s.told (named_in name (map (λ s. s.told) sites)) row from
      (sums_from name from (s ∷ sites) (row ∷ rows)) (h 0 s.told.number row (omega (arith, number)) refl) rest

  sums_of_all : (name : Name) (line : ℕ) (sites : List CodeSite) (rows : List SiteRow) → AreSiteRows (length sites + 1) t rows
      → are_numbered 0 (map (λ s. s.told) sites) ≡ true
      → AreOver t (named_in name (root_at line ∷ map (λ s. s.told) sites)) no_sums (sums_of name sites rows)
  sums_of_all name line sites [] h numbered = let e = h.as_many in absurd (omega (arith, e))
  sums_of_all name line sites (row ∷ rows) h numbered =
      let e = h.as_many in
      let from : AreRowsFrom 1 t rows = λ k site r at there. h.are site r (there_at k site r (omega (arith, at)) there) in
      let rest = sums_over name 0 (and_row no_sums (same_name name main_name) row) sites rows (omega (arith, e)) numbered from in
      one_more (same_name name main_name) (root_at line) (named_in name (map (λ s. s.told) sites)) row no_sums
      (sums_of name sites (row ∷ rows)) (h.are 0 row refl) rest
    where
      there_at : (k site : ℕ) (r : SiteRow) → site ≡ suc k → slice_get rows k ≡ Some r → slice_get (row ∷ rows) site ≡ Some r
      there_at k site r at there = ap (slice_get (row ∷ rows)) at ∙ there

  -- a function with its sums is its row
  pub counted_is : (head : Head) (line : ℕ) (sites : List CodeSite) (rows : List SiteRow) → AreSiteRows (length sites + 1) t rows
      → are_numbered 0 (map (λ s. s.told) sites) ≡ true
      → row_view (counted_of head sites rows) ≡ function_row (root_at line ∷ map (λ s. s.told) sites) t (head_view head)
  counted_is head line sites rows h numbered =
      let all = sums_of_all head.name line sites rows h numbered in
      let calls = all.calls ∙ add.zero _ in
      let own_work = all.own_work ∙ add.zero _ in
      let own_span = all.own_span ∙ add.zero _ in
      cc
