-- The sites that take no time by a list are those of a function.
use Rattle.std.proofs.Common.{◌≡◌, ℕ, zero, suc, ◌+◌, ◌≤◌, Bool, true, false, ◌&&◌, ◌||◌, ◌<◌, List, [], ◌∷◌, ◌++◌, length, map, take, get_or, arith, refl, sym, ap, ap₂, ◌∙◌}
use Rattle.std.proofs.lemmas.List.{map-append, take_more}
use Rattle.std.specs.Prelude.{nat_eq, ◌==◌}
use Rattle.std.proofs.lemmas.Bool.{and_parts}
use Rattle.std.proofs.lemmas.Bool.Decides.{nat_tests}
use Rattle.cw_model.specs.declared.burden.Burden.{Burden}
use Rattle.cw_model.specs.Syntax.{Name}
use Rattle.cw_model.specs.Names.{same_name}
use Rattle.cw_model.specs.Answers.{main_name}
use Rattle.cw_model.specs.Trees.{Tree, Leaf, Seq, Par, Marked, span, burdened_span}
use Rattle.cw_model.specs.Rows.{site_inside}
use Rattle.cw_model.specs.Sites.{CallSite, are_numbered}
use Rattle.cw_model.specs.Freed.{FunctionRow, freed, is_site_of}
use Rattle.cw_code.specs.Code.{Code, CodeSite}
use Rattle.cw_machine.specs.Freed.{is_freed}
use Rattle.cw_gains.specs.Free.{callees_are, frees_from, freed_row}
use Rattle.cw_gains.specs.Gains.{all_sites, free_row, root_at}

same_site : (a b : ℕ) → a ≡ b → a == b ≡ true
same_site a b e = grind (arith, nat_tests, e)

other_site : (a b : ℕ) → (a ≡ b → ⊥) → a == b ≡ false
other_site a b h = grind (arith, nat_tests, h)

module _ (name : Name) where
  abbrev told : List CodeSite → List CallSite
  told sites = map (λ s. s.told) sites

  -- no later site has a number up to this one
  none_before : (n site : ℕ) (sites : List CodeSite) → site ≤ n → are_numbered n (told sites) ≡ true
      → is_site_of (told sites) name site ≡ false
  none_before n site [] h numbered = refl
  none_before n site (s ∷ sites) h numbered =
      let split = and_parts (nat_eq s.told.number (suc n)) (are_numbered (suc n) (told sites)) numbered in
      let number : s.told.number ≡ suc n = grind (arith, nat_tests, split.0) in
      ap₂ (λ a b. (a && same_name name s.told.callee) || b) (other_site site s.told.number (λ e. omega (arith, e, number, h)))
      (none_before (suc n) site sites (omega (arith, h)) split.1)

  -- a later site calls the function if and only if its entry says so
  by_entry : (n k site : ℕ) (sites : List CodeSite) → site ≡ suc n + k → are_numbered n (told sites) ≡ true
      → is_site_of (told sites) name site ≡ is_freed (callees_are name sites) k
  by_entry n k site [] at numbered = refl
  by_entry n zero site (s ∷ sites) at numbered =
      let split = and_parts (nat_eq s.told.number (suc n)) (are_numbered (suc n) (told sites)) numbered in
      let number : s.told.number ≡ suc n = grind (arith, nat_tests, split.0) in
      ap₂ (λ a b. (a && same_name name s.told.callee) || b) (same_site site s.told.number (omega (arith, at, number)))
      (none_before (suc n) site sites (omega (arith, at)) split.1) ∙ or_false (same_name name s.told.callee)
    where
      or_false : (b : Bool) → ((true && b) || false) ≡ b
      or_false true = refl
      or_false false = refl
  by_entry n (suc k) site (s ∷ sites) at numbered =
      let split = and_parts (nat_eq s.told.number (suc n)) (are_numbered (suc n) (told sites)) numbered in
      let number : s.told.number ≡ suc n = grind (arith, nat_tests, split.0) in
      ap₂ (λ a b. (a && same_name name s.told.callee) || b) (other_site site s.told.number (λ e. omega (arith, e, number, at)))
      (by_entry (suc n) k site sites (omega (arith, at)) split.1)

  same_frees : (line : ℕ) (sites : List CodeSite) → are_numbered 0 (told sites) ≡ true → (site : ℕ)
      → is_freed (frees_from name sites) site ≡ is_site_of (root_at line ∷ told sites) name site
  same_frees line sites numbered zero =
      rw (none_before 0 0 sites (omega arith) numbered) (first (same_name name main_name))
    where
      first : (b : Bool) → b ≡ ((true && b) || false)
      first true = refl
      first false = refl
  same_frees line sites numbered (suc k) =
      sym (ap₂ (λ a b. (a && same_name name main_name) || b) (other_site (suc k) 0 (λ e. omega (arith, e)))
      (by_entry 0 k (suc k) sites (omega arith) numbered))

-- two tests of sites that agree give a tree the same spans
freed_alike : (frees others : ℕ → Bool) → ((site : ℕ) → frees site ≡ others site) → (site : ℕ) (t : Tree)
    → freed frees site t ≡ freed others site t
freed_alike frees others h site (Leaf k) = rw (h site) refl
freed_alike frees others h site (Seq a b) = rw (freed_alike frees others h site a, freed_alike frees others h site b) refl
freed_alike frees others h site (Par a b) = rw (freed_alike frees others h site a, freed_alike frees others h site b) refl
freed_alike frees others h site (Marked mark t) = rw (freed_alike frees others h (site_inside mark site) t) refl

-- so the spans are those if the function took no time
pub freed_row_is : (code : Code) → are_numbered 0 (map (λ s. s.told) code.sites) ≡ true → (burden : Burden) (t : Tree) (row : FunctionRow)
    → freed_row code burden t row ≡ free_row (all_sites code) burden t row
freed_row_is code numbered burden t row =
    let alike = freed_alike (is_freed (frees_from row.name code.sites)) (is_site_of (all_sites code) row.name)
    (same_frees row.name code.main_line code.sites numbered) 0 t in
    ap (λ u. record { counted = row; span = span u; burdened = burdened_span burden u }) alike

-- one more listed function
pub told_more : {A B C : Type 0} (view : B → C) (F : A → C) (old new : List B) (one : B) (all : List A) (i : ℕ) (d : A)
    → new ≡ old ++ one ∷ [] → i < length all → map view old ≡ map F (take i all) → view one ≡ F (get_or all i d)
    → map view new ≡ map F (take (i + 1) all)
told_more view F old new one all i d is within before one_is =
    ap (map view) is ∙ map-append view old (one ∷ []) ∙ ap₂ (λ xs x. xs ++ x ∷ []) before one_is
    ∙ sym (map-append F (take i all) (get_or all i d ∷ [])) ∙ ap (map F) (sym (take_more all i d within))
