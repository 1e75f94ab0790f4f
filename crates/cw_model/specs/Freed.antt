-- The measures that a run would have if the instructions of some sites' invocations took no time.
use Rattle.std.specs.Prelude.{ℕ, Bool, if◌then◌else◌, ◌&&◌, ◌==◌, nat_lt, List, [], ◌∷◌, map, filter}
use Rattle.std.specs.Prelude.{sum_by, take}
use Rattle.std.specs.List.{list_any}
use Rattle.cw_model.specs.declared.burden.Burden.{Burden}
use Rattle.cw_model.specs.Syntax.{Name}
use Rattle.cw_model.specs.Names.{same_name}
use Rattle.cw_model.specs.Trees.{Tree, Leaf, Seq, Par, Marked, span, burdened_span}
use Rattle.cw_model.specs.Rows.{site_inside, SiteRow, site_row}
use Rattle.cw_model.specs.Sites.{CallSite, Head}

-- the tree with all strands of zero-cost sites set to 0; leaves outside every invocation in the tree belong to `site`
abbrev pub freed : (frees : ℕ → Bool) → (site : ℕ) → Tree → Tree
freed frees site (Leaf k) = Leaf (if frees site then 0 else k)
freed frees site (Seq a b) = Seq (freed frees site a) (freed frees site b)
freed frees site (Par child rest) = Par (freed frees site child) (freed frees site rest)
freed frees site (Marked mark t) = Marked mark (freed frees (site_inside mark site) t)

-- the burdened span that a tree would have if these sites cost nothing
abbrev pub burdened_if_free : Burden → (frees : ℕ → Bool) → Tree → ℕ
burdened_if_free burden frees t = burdened_span burden (freed frees 0 t)

-- the span that a tree would have if these sites cost nothing
abbrev pub span_if_free : (frees : ℕ → Bool) → Tree → ℕ
span_if_free frees t = span (freed frees 0 t)

-- a call site with this number calls a function with this name
abbrev pub is_site_of : List CallSite → Name → (site : ℕ) → Bool
is_site_of sites name site = list_any (λ s. site == s.number && same_name name s.callee) sites

-- the sum of one measure over the rows of all sites that call a function with this name
abbrev pub over_sites : List CallSite → Name → (SiteRow → ℕ) → Tree → ℕ
over_sites sites name reading t =
    sum_by (λ s. reading (site_row s.number t)) (filter (λ s. same_name name s.callee) sites)

-- the measures of a function: the number of its invocations, and the instructions that belong to them
pub record FunctionRow : Type 0 where
  pub name : Name
  pub line : ℕ
  pub calls : ℕ
  pub own_work : ℕ
  pub own_span : ℕ

-- the row of a function in the tree of a run
abbrev pub function_row : List CallSite → Tree → Head → FunctionRow
function_row sites t head = record {
  name = head.name;
  line = head.line;
  calls = over_sites sites head.name (λ row. row.calls) t;
  own_work = over_sites sites head.name (λ row. row.own_work) t;
  own_span = over_sites sites head.name (λ row. row.own_span) t;
}

-- inserts a row into rows in descending order of own span; it goes before rows with an equal own span
abbrev pub ranked : FunctionRow → List FunctionRow → List FunctionRow
ranked row [] = row ∷ []
ranked row (next ∷ rows) = if nat_lt row.own_span next.own_span then next ∷ ranked row rows else row ∷ next ∷ rows

-- sorts rows by descending own span; rows with equal own spans keep their order
abbrev pub by_own_span : List FunctionRow → List FunctionRow
by_own_span [] = []
by_own_span (row ∷ rows) = ranked row (by_own_span rows)

-- the rows to report: at most `top` functions, with the largest own spans, all above 0
abbrev pub worth_telling : (top : ℕ) → List Head → List CallSite → Tree → List FunctionRow
worth_telling top heads sites t =
    take top (by_own_span (filter (λ row. nat_lt 0 row.own_span) (map (function_row sites t) heads)))
