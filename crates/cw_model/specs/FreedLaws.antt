-- Laws that relate the spans of a run to the spans that it would have if some sites cost nothing.
use Rattle.std.specs.Prelude.{◌≡◌, ◌≤◌, ◌<◌, ℕ, ◌+◌, Bool, true, false, List}
use Rattle.cw_model.specs.declared.burden.Burden.{Burden}
use Rattle.cw_model.specs.Syntax.{Name}
use Rattle.cw_model.specs.Trees.{Tree, span, burdened_span}
use Rattle.cw_model.specs.Rows.{sites_below}
use Rattle.cw_model.specs.Sites.{CallSite}
use Rattle.cw_model.specs.TreeLaws.{Regrouped}
use Rattle.cw_model.specs.Freed.{freed, span_if_free, burdened_if_free, is_site_of, over_sites}

-- no burdened span becomes larger if sites cost nothing, for any burden
abbrev pub FreedIsNeverAbove : Type 0
FreedIsNeverAbove =
    (burden : Burden) (frees : ℕ → Bool) (t : Tree) → burdened_if_free burden frees t ≤ burdened_span burden t

-- if a function cost nothing, the span would fall by at most the own span of its sites
abbrev pub FallsByOwnSpanAtMost : Type 0
FallsByOwnSpanAtMost = (sites : List CallSite) (name : Name) (t : Tree) →
    span t ≤ span_if_free (is_site_of sites name) t + over_sites sites name (λ row. row.own_span) t

-- if no site costs nothing, the tree is unchanged
abbrev pub NothingFreedIsTheSame : Type 0
NothingFreedIsTheSame = (frees : ℕ → Bool) (t : Tree) → ((site : ℕ) → frees site ≡ false) → freed frees 0 t ≡ t

-- if all sites cost nothing, the span is 0
abbrev pub AllFreedLeavesNothing : Type 0
AllFreedLeavesNothing =
    (frees : ℕ → Bool) (t : Tree) → ((site : ℕ) → frees site ≡ true) → span_if_free frees t ≡ 0

-- trees that differ only in grouping still differ only in grouping if sites cost nothing
abbrev pub FreedIsRegrouped : Type 0
FreedIsRegrouped =
    (frees : ℕ → Bool) (t u : Tree) → Regrouped t u → Regrouped (freed frees 0 t) (freed frees 0 u)

-- only the sites in the tree matter
abbrev pub FreedByItsSites : Type 0
FreedByItsSites = (count : ℕ) (frees others : ℕ → Bool) (t : Tree) → 0 < count → sites_below count t ≡ true
    → ((site : ℕ) → site < count → frees site ≡ others site) → freed frees 0 t ≡ freed others 0 t
