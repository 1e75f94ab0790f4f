-- Rows by site number, and the join of two pieces.
use Rattle.std.proofs.Common.{◌≡◌, ℕ, ◌+◌, ◌*◌, ◌<◌, ◌≤◌, ◌==◌, max, zero, suc, ◌∷◌, ◌++◌, Bool, true, false, if◌then◌else◌, List, [], length, get_or, set, refl, sym, ap, subst, ◌∙◌, inl, inr, arith}
use Rattle.std.proofs.lemmas.Bool.{cases_lt}
use Rattle.std.proofs.lemmas.Bool.Decides.{nat_tests}
use Rattle.std.proofs.lemmas.List.{get_or_past, get_or-set_same, get_or-set_other, get_or_default}
use borrow.Author.Tests.{eqb-true}
use Rattle.cw_facts.specs.Tests.{less_differs, less_where_it_differs, taken, not_taken}
use Rattle.cw_measure.specs.Outermost.{unless_at}
use Rattle.cw_measure.specs.lemmas.Outermost.{unless_nothing}
use Rattle.cw_facts.specs.Items.{item, Gives, HasNoPage, HasNoPageFrom, HasNoShelfFrom}
use Rattle.cw_facts.specs.declared.pages.Pages.{Pages}
use Rattle.cw_facts.specs.lemmas.Places.{on_page, on_pages_from, on_shelves_from}
use Rattle.cw_sites.specs.declared.rows.RowsBySite.{RowsBySite}
use Rattle.cw_sites.specs.declared.rows.Row.{Row}
use Rattle.cw_sites.specs.declared.rows.SiteEntry.{SiteEntry}
use Rattle.cw_sites.specs.SiteRows.{kept_of, further_of, row_of, zero_row, none_kept, summed, under, FitsRow, Becomes, OthersStay, IsReadAs, JoinsBelow, JoinsFurther, JoinsOn, JoinsRows}

summed_none : (r : Row) → summed r zero_row ≡ r
summed_none r = let a : r.calls + 0 ≡ r.calls = omega arith in let b : r.own + 0 ≡ r.own = omega arith in let z = unless_nothing (r.active == 0) in
    let c : r.work + unless_at (r.active == 0) 0 ≡ r.work = omega arith in let d : r.span + unless_at (r.active == 0) 0 ≡ r.span = omega arith in simp (a, b, c, d)

-- the entry of a site outside of the vector
page_item : (further : Pages SiteEntry) (q : ℕ) → further_of further q ≡ item none_kept further q
unfolding further_of
page_item further q = refl

pub kept_further : (rows : RowsBySite) (q : ℕ) → length rows.by_site.items ≤ q → kept_of rows q ≡ item none_kept rows.further q
kept_further rows q past = get_or_past rows.by_site.items q (further_of rows.further q) past ∙ page_item rows.further q

-- the entries are unchanged, and the vector has this many sites
pub record IsReached (old now : RowsBySite) (count : ℕ) : Type 0 where
  pub same : (q : ℕ) → kept_of now q ≡ kept_of old q
  pub count_is : length now.by_site.items ≡ count

-- one more site moves to the vector, unchanged
pub kept_pushed : (xs ys : List SiteEntry) (x : SiteEntry) (further : Pages SiteEntry) → ys ≡ xs ++ x ∷ [] → x ≡ item none_kept further (length xs) → (q : ℕ)
    → get_or ys q (further_of further q) ≡ get_or xs q (further_of further q)
kept_pushed xs ys x further is at q =
    let start : length xs ≡ 0 + length xs = omega arith in
    let number : 0 + q ≡ q = omega arith in
    let P : ℕ → Type 0 = λ m. get_or (xs ++ x ∷ []) q (further_of further m) ≡ get_or xs q (further_of further m) in
    ap (λ (zs : List SiteEntry). get_or zs q (further_of further q)) is ∙ subst P number (pushed xs 0 q (at ∙ ap (item none_kept further) start))
  where
    pushed : (zs : List SiteEntry) (n k : ℕ) → x ≡ item none_kept further (n + length zs) → get_or (zs ++ x ∷ []) k (further_of further (n + k)) ≡ get_or zs k (further_of further (n + k))
    pushed [] n zero e = e ∙ sym (page_item further (n + 0))
    pushed [] n (suc k) e = refl
    pushed (z ∷ zs) n zero e = refl
    pushed (z ∷ zs) n (suc k) e =
        let s : n + suc k ≡ suc n + k = omega arith in
        let l : n + suc (length zs) ≡ suc n + length zs = omega arith in
        ap (λ (m : ℕ). get_or (zs ++ x ∷ []) k (further_of further m)) s ∙ pushed zs (suc n) k (e ∙ ap (item none_kept further) l) ∙ sym (ap (λ (m : ℕ). get_or zs k (further_of further m)) s)

-- an entry is set in a page, for a site outside of the vector
pub kept_in_page : (by_site : List SiteEntry) (old new : Pages SiteEntry) (place : ℕ) (kept : SiteEntry) → length by_site ≤ place
    → Gives none_kept old new place kept → (q : ℕ) → get_or by_site q (further_of new q) ≡ (if place == q then kept else get_or by_site q (further_of old q))
kept_in_page by_site old new place kept past g q = elim (cases_lt q (length by_site)) [
  | inl less ↦ get_or_default by_site q (further_of new q) (further_of old q) less ∙ sym (not_taken (place == q) kept (get_or by_site q (further_of old q)) (other q (omega arith)))
  | inr beyond ↦ get_or_past by_site q (further_of new q) beyond ∙ page_item new q ∙ g q
      ∙ ap (λ (x : SiteEntry). if place == q then kept else x) (sym (get_or_past by_site q (further_of old q) beyond ∙ page_item old q))
]
  where
    other : (k : ℕ) → k < place → (place == k) ≡ false
    other k less = grind (arith, nat_tests)

pub kept_here : (xs : List SiteEntry) (place : ℕ) (kept : SiteEntry) (others : ℕ → SiteEntry) → place < length xs → (q : ℕ)
    → get_or (set xs place kept) q (others q) ≡ (if place == q then kept else get_or xs q (others q))
kept_here xs place kept others less q = elim (cases_lt place q) [
  | inl l ↦ get_or-set_other xs place q kept (others q) (λ e. absurd (omega arith)) ∙ sym (not_taken (place == q) kept (get_or xs q (others q)) (grind (arith, nat_tests)))
  | inr m ↦ elim (cases_lt q place) [
    | inl l ↦ get_or-set_other xs place q kept (others q) (λ e. absurd (omega arith)) ∙ sym (not_taken (place == q) kept (get_or xs q (others q)) (grind (arith, nat_tests)))
    | inr n ↦
        (let same : place ≡ q = omega arith in
        let P : ℕ → Type 0 = λ k. get_or (set xs place kept) k (others k) ≡ (if place == k then kept else get_or xs k (others k)) in
        subst P same (get_or-set_same xs place kept (others place) less ∙ sym (taken (place == place) kept (get_or xs place (others place)) (grind (arith, nat_tests)))))
  ]
]

-- a site outside of the vector and of all pages
free_row : (rows : RowsBySite) (q : ℕ) → length rows.by_site.items ≤ q → item none_kept rows.further q ≡ none_kept → row_of rows q ≡ zero_row
free_row rows q past none = ap (λ (x : SiteEntry). x.row) (kept_further rows q past ∙ none)

pub empty_rows : (by_site : List SiteEntry) (further : Pages SiteEntry) → by_site ≡ [] → ((k : ℕ) → item none_kept further k ≡ none_kept) → (q : ℕ) → (get_or by_site q (further_of further q)).row ≡ zero_row
empty_rows by_site further e none q = let n = ap length e in ap (λ (x : SiteEntry). x.row) (get_or_past by_site q (further_of further q) (omega arith) ∙ page_item further q ∙ none q)

-- no row is added yet, and one more row is added
pub none_joined : (piece ours : RowsBySite) → JoinsBelow piece 0 ours ours
none_joined piece ours = record { within = λ q less fits. absurd (omega arith); beyond = λ q more. refl }

pub one_joined : (piece ours now new : RowsBySite) (n : ℕ) (row : Row) → row ≡ row_of piece n → Becomes (under row) now new n → OthersStay now new n
    → JoinsBelow piece n ours now → JoinsBelow piece (n + 1) ours new
one_joined piece ours now new n row is own others h = record {
  within = λ q less fits. by_site q less fits (n == q) refl;
  beyond = λ q more. others q (less_differs n q (omega arith)) ∙ h.beyond q (omega arith);
}
  where
    by_site : (q : ℕ) → q < n + 1 → FitsRow (summed (row_of ours q) (row_of piece q)) → (b : Bool) → (n == q) ≡ b → row_of new q ≡ summed (row_of ours q) (row_of piece q)
    by_site q less fits true e =
        let same : n ≡ q = eqb-true n q e in
        let S : ℕ → Type 0 = λ x. FitsRow (summed (row_of ours x) (row_of piece x)) → row_of new x ≡ summed (row_of ours x) (row_of piece x) in
        let R : Row → Type 0 = λ x. FitsRow (summed x row) → row_of new n ≡ summed x row in
        let P : Row → Type 0 = λ x. FitsRow (summed (row_of ours n) x) → row_of new n ≡ summed (row_of ours n) x in
        subst S same (subst P is (subst R (h.beyond n (omega arith)) own)) fits
    by_site q less fits false e = others q e ∙ h.within q (less_where_it_differs n q less e) fits

-- rows of zeros need not be added
rows_skipped : (piece ours now : RowsBySite) (a b : ℕ) → a ≤ b → ((q : ℕ) → a ≤ q → q < b → row_of piece q ≡ zero_row) → JoinsBelow piece a ours now → JoinsBelow piece b ours now
rows_skipped piece ours now a b order free h = record {
  within = λ q less fits. elim (cases_lt q a) [
    | inl l ↦ h.within q l fits
    | inr l ↦ h.beyond q l ∙ sym (summed_none (row_of ours q)) ∙ ap (summed (row_of ours q)) (sym (free q l less))
  ];
  beyond = λ q more. h.beyond q (omega arith);
}

-- the rows outside of the piece's vector
pub on_none : (piece old : RowsBySite) (a b : ℕ) → a ≡ b → JoinsOn piece a b old old
on_none piece old a b e = λ ours h.
    let B : ℕ → Type 0 = λ n. JoinsBelow piece (max (length piece.by_site.items) n) ours old in
    subst B e h

pub on_more : (piece old mid new : RowsBySite) (a b c d e : ℕ) → b ≡ c → d ≡ e → JoinsOn piece a b old mid → JoinsOn piece c d mid new → JoinsOn piece a e old new
on_more piece old mid new a b c d e bc de first second = λ ours h.
    let M : ℕ → Type 0 = λ n. JoinsBelow piece (max (length piece.by_site.items) n) ours mid in
    let N : ℕ → Type 0 = λ n. JoinsBelow piece (max (length piece.by_site.items) n) ours new in
    subst N de (second ours (subst M bc (first ours h)))

on_skip : (piece old : RowsBySite) (a b : ℕ) → a ≤ b → ((q : ℕ) → length piece.by_site.items ≤ q → a ≤ q → q < b → row_of piece q ≡ zero_row) → JoinsOn piece a b old old
on_skip piece old a b order free = λ ours h.
    let l = length piece.by_site.items in
    rows_skipped piece ours old (max l a) (max l b) (omega arith) (λ q from to. free q (omega arith) (omega arith) (omega arith)) h

pub on_row : (piece old new : RowsBySite) (n : ℕ) (row : Row) → length piece.by_site.items ≤ n → row ≡ row_of piece n → Becomes (under row) old new n → OthersStay old new n → JoinsOn piece n (n + 1) old new
on_row piece old new n row past is own others = λ ours h.
    let l = length piece.by_site.items in
    let at : max l n ≡ n = omega arith in
    let next : n + 1 ≡ max l (n + 1) = omega arith in
    let O : ℕ → Type 0 = λ k. JoinsBelow piece k ours old in
    let N : ℕ → Type 0 = λ k. JoinsBelow piece k ours new in
    subst N next (one_joined piece ours old new n row is own others (subst O at h))

pub on_first : (piece old : RowsBySite) (n : ℕ) → n < length piece.by_site.items → JoinsOn piece n (n + 1) old old
on_first piece old n within = on_skip piece old n (n + 1) (omega arith) (λ q past from to. absurd (omega arith))

pub on_page_free : (piece old : RowsBySite) (shelf page : ℕ) → page < 32 → HasNoPage piece.further shelf page → JoinsOn piece (shelf * 256 + page * 8) (shelf * 256 + page * 8 + 8) old old
on_page_free piece old shelf page less none = on_skip piece old (shelf * 256 + page * 8) (shelf * 256 + page * 8 + 8) (omega arith)
    (λ q past from to. let at = on_page shelf page q less from to in free_row piece q past (none none_kept q at.0 at.1))

pub on_rest_free : (piece old : RowsBySite) (shelf page : ℕ) → page ≤ 32 → HasNoPageFrom piece.further shelf page → JoinsOn piece (shelf * 256 + page * 8) (shelf * 256 + 256) old old
on_rest_free piece old shelf page less none = on_skip piece old (shelf * 256 + page * 8) (shelf * 256 + 256) (omega arith)
    (λ q past from to. let at = on_pages_from shelf page q from to in free_row piece q past (none none_kept q at.0 at.1))

-- all shelves have been added
pub all_joined : (piece old new : RowsBySite) (shelf shelves : ℕ) → shelf ≡ shelves → HasNoShelfFrom piece.further shelves → JoinsOn piece 0 (shelf * 256) old new → JoinsFurther piece old new
all_joined piece old new shelf shelves is none on = λ ours h q fits.
    let l = length piece.by_site.items in
    let O : ℕ → Type 0 = λ k. JoinsBelow piece k ours old in
    let start : l ≡ max l 0 = omega arith in
    let j : JoinsBelow piece (max l (shelf * 256)) ours new = on ours (subst O start h) in
    elim (cases_lt q (max l (shelf * 256))) [
      | inl less ↦ j.within q less fits
      | inr more ↦ j.beyond q more ∙ sym (summed_none (row_of ours q)) ∙ ap (summed (row_of ours q)) (sym (free_row piece q (omega arith) (none none_kept q (on_shelves_from shelves q (omega arith)))))
    ]

-- equal rows have equal readings
read_same : (r s : Row) → r ≡ s → IsReadAs r s
read_same r s e = record {
  calls = ap (λ (x : Row). x.calls) e;
  own = ap (λ (x : Row). x.own) e;
  work = ap (λ (x : Row). x.work) e;
  span = ap (λ (x : Row). x.span) e;
  active = ap (λ (x : Row). x.active) e;
  at_work = λ h. ap (λ (x : Row). x.at_work) e;
  at_path =
      λ h. ap (λ (x : Row). x.at_path) e;
}

pub rows_joined : (old piece mid new : RowsBySite) → JoinsBelow piece (length piece.by_site.items) old mid → JoinsFurther piece mid new → JoinsRows old piece new
rows_joined old piece mid new firsts further = λ q fits idle. read_same (row_of new q) (summed (row_of old q) (row_of piece q)) (further old firsts q fits)
