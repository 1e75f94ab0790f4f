-- The measures that the normal form of a tree preserves, and the trees with equal normal forms.
use Rattle.std.specs.Prelude.{◌≡◌, ℕ, ◌+◌, sum_by}
use Rattle.std.specs.List.{range_with_len}
use Rattle.cw_model.specs.declared.burden.Burden.{Burden}
use Rattle.cw_model.specs.Syntax.{Name}
use Rattle.cw_model.specs.Trees.{Mark, Tree, Leaf, Seq, Par, Marked, work, span, burdened_span}
use Rattle.cw_model.specs.Rows.{site_row, region_row}

-- the trees differ only in the grouping of series, the division into strands, and the positions of empty strands
pub data Regrouped : Tree → Tree → Type 0 where
  same : (t : Tree) → Regrouped t t
  back : {t u : Tree} → Regrouped t u → Regrouped u t
  further : {t u v : Tree} → Regrouped t u → Regrouped u v → Regrouped t v
  to_the_right : (a b c : Tree) → Regrouped (Seq (Seq a b) c) (Seq a (Seq b c))
  as_one_strand : (j k : ℕ) → Regrouped (Seq (Leaf j) (Leaf k)) (Leaf (j + k))
  nothing_before : (t : Tree) → Regrouped (Seq (Leaf 0) t) t
  nothing_after : (t : Tree) → Regrouped (Seq t (Leaf 0)) t
  in_series : {a a' b b' : Tree} → Regrouped a a' → Regrouped b b' → Regrouped (Seq a b) (Seq a' b')
  in_fork : {child child' rest rest' : Tree} → Regrouped child child' → Regrouped rest rest'
      → Regrouped (Par child rest) (Par child' rest')
  in_mark : {t t' : Tree} → (mark : Mark) → Regrouped t t' → Regrouped (Marked mark t) (Marked mark t')

-- the measures of two trees are equal: work, burdened spans, and the rows of all sites and all regions
pub record ReadSame (t u : Tree) : Type 0 where
  pub same_work : work t ≡ work u
  pub same_span : (burden : Burden) → burdened_span burden t ≡ burdened_span burden u
  pub same_site_row : (site : ℕ) → site_row site t ≡ site_row site u
  pub same_region_row : (burden : Burden) (tag : Name) → region_row burden tag t ≡ region_row burden tag u

-- the own work of the sites below a number adds up to the tree's work, and their own span to its span
pub record SitesAddUp (count : ℕ) (t : Tree) : Type 0 where
  pub work_adds_up : sum_by (λ site. (site_row site t).own_work) (range_with_len 0 count) ≡ work t
  pub span_adds_up : sum_by (λ site. (site_row site t).own_span) (range_with_len 0 count) ≡ span t
