-- Site rows and region rows: the measures of each call site and each tag in a tree.
use Rattle.std.specs.Prelude.{ℕ, ◌+◌, ◌==◌, nat_le, nat_lt, ◌&&◌, Bool, true, false, if◌then◌else◌, List, [], ◌∷◌}
use Rattle.std.specs.Prelude.{◌++◌, sum_by, filter}
use Rattle.cw_model.specs.declared.burden.Burden.{Burden}
use Rattle.cw_model.specs.Syntax.{Name}
use Rattle.cw_model.specs.Names.{same_name}
use Rattle.cw_model.specs.Trees.{Mark, Invocation, Execution, Tree, Leaf, Seq, Par, Marked, work, span, burdened_span}

-- the site to which the leaves inside a marked part belong, if those outside belong to `site`
abbrev pub site_inside : Mark → ℕ → ℕ
site_inside (Invocation inner) site = inner
site_inside (Execution tag) site = site

-- all leaves, each with the site of the innermost invocation around it
abbrev pub leaves : ℕ → Tree → List (ℕ × ℕ)
leaves site (Leaf k) = (site, k) ∷ []
leaves site (Seq a b) = leaves site a ++ leaves site b
leaves site (Par child rest) = leaves site child ++ leaves site rest
leaves site (Marked mark t) = leaves (site_inside mark site) t

-- the leaves on the chosen path: at a fork it takes the child if the child's span is at least the continuation's
abbrev pub chosen_leaves : ℕ → Tree → List (ℕ × ℕ)
chosen_leaves site (Leaf k) = (site, k) ∷ []
chosen_leaves site (Seq a b) = chosen_leaves site a ++ chosen_leaves site b
chosen_leaves site (Par child rest) =
    if nat_le (span rest) (span child) then chosen_leaves site child else chosen_leaves site rest
chosen_leaves site (Marked mark t) = chosen_leaves (site_inside mark site) t

-- the number of instructions in the leaves of one site
abbrev pub weight_of_site : ℕ → List (ℕ × ℕ) → ℕ
weight_of_site site all = sum_by (λ leaf. leaf.1) (filter (λ leaf. leaf.0 == site) all)

-- the mark is an invocation of this site
abbrev pub is_site : ℕ → Mark → Bool
is_site site (Invocation inner) = inner == site
is_site site (Execution tag) = false

-- the mark is an execution of this tag
abbrev pub is_tag : Name → Mark → Bool
is_tag tag (Invocation site) = false
is_tag tag (Execution inner) = same_name tag inner

-- the outermost parts whose mark is `marked`: no other part with a `marked` mark is around them
abbrev pub outermost : (Mark → Bool) → Tree → List Tree
outermost marked (Leaf k) = []
outermost marked (Seq a b) = outermost marked a ++ outermost marked b
outermost marked (Par child rest) = outermost marked child ++ outermost marked rest
outermost marked (Marked mark t) = if marked mark then t ∷ [] else outermost marked t

-- the number of invocations of a site
abbrev pub calls_of : ℕ → Tree → ℕ
calls_of site (Leaf k) = 0
calls_of site (Seq a b) = calls_of site a + calls_of site b
calls_of site (Par child rest) = calls_of site child + calls_of site rest
calls_of site (Marked mark t) = (if is_site site mark then 1 else 0) + calls_of site t

-- the measures of a site
pub record SiteRow : Type 0 where
  pub calls : ℕ
  pub own_work : ℕ
  pub own_span : ℕ
  pub work : ℕ
  pub span : ℕ

-- the row of a site in the tree of a run
abbrev pub site_row : ℕ → Tree → SiteRow
site_row site t = record {
  calls = calls_of site t;
  own_work = weight_of_site site (leaves 0 t);
  own_span = weight_of_site site (chosen_leaves 0 t);
  work = sum_by work (outermost (is_site site) t);
  span = sum_by span (outermost (is_site site) t);
}

-- the measures of a tag
pub record RegionRow : Type 0 where
  pub work : ℕ
  pub span : ℕ
  pub burdened : ℕ

-- the row of a tag in the tree of a run
abbrev pub region_row : Burden → Name → Tree → RegionRow
region_row burden tag t = record {
  work = sum_by work (outermost (is_tag tag) t);
  span = sum_by span (outermost (is_tag tag) t);
  burdened = sum_by (burdened_span burden) (outermost (is_tag tag) t);
}

-- each invocation in the tree is of a site below `count`
abbrev pub sites_below : ℕ → Tree → Bool
sites_below count (Leaf k) = true
sites_below count (Seq a b) = sites_below count a && sites_below count b
sites_below count (Par child rest) = sites_below count child && sites_below count rest
sites_below count (Marked mark t) = is_below mark && sites_below count t
  where
    is_below : Mark → Bool
    is_below (Invocation site) = nat_lt site count
    is_below (Execution tag) = true
