-- Statements of laws.
use Rattle.std.specs.Prelude.{◌≡◌, ℕ, ◌+◌, ◌*◌, ◌≤◌, Bool, true, false, ◌||◌, not, List, [], ◌∷◌, ◌++◌, length, Option}
use Rattle.cw_model.specs.Trees.{Mark, Tree, Event, Work, Join, tree_of, span}
use Rattle.cw_model.specs.Rows.{chosen_leaves}
use Rattle.cw_measure.specs.Outermost.{Meters}
use Rattle.cw_sites.specs.BlockPaths.{Straight, finished, after_all, joined_on}
use Rattle.cw_measure.specs.OpenParts.{no_joins}
use Rattle.cw_sites.specs.Tables.{IsBoundedTable, QuietParts}
use Rattle.cw_sites.specs.PathBounds.{most_steps}
use Rattle.cw_sites.specs.declared.table.SiteTable.{SiteTable}
use Rattle.cw_measure.specs.OpenParts.{Open, closed, has_spawned}
use Rattle.cw_sites.specs.ChosenPaths.{Path, nowhere, path_of, plus, steps_of, chosen}
use Rattle.cw_sites.specs.StrandPaths.{StrandPath, begins, again, ends, joins}
use Rattle.cw_sites.specs.OpenPaths.{here_in, path_in, Shows}

-- each step of a run preserves a path that represents the run, for each site; at the end it is the chosen path
pub record RunsAreShown (site base : ℕ) : Type 0 where
  pub work : (os : List Open) (es : List Event) (t : StrandPath) (k : ℕ) → Shows site base os es t
      → Shows site base os (es ++ Work k ∷ [])
      (record { now = plus t.now (steps_of site (here_in base os) k); blocks = t.blocks })
  pub enter : (os : List Open) (es : List Event) (t : StrandPath) (mark : Option Mark) → Shows site base os es t
      → Shows site base (record { spawned = false; mark = mark; outer = es } ∷ os) [] t
  pub spawn : (os : List Open) (es : List Event) (t : StrandPath) (mark : Option Mark) → has_spawned es ≡ false
      → Shows site base os es t
      → Shows site base (record { spawned = true; mark = mark; outer = es } ∷ os) [] (begins t)
  pub spawn_again : (os : List Open) (es : List Event) (t : StrandPath) (mark : Option Mark) → has_spawned es ≡ true
      → Shows site base os es t → Shows site base (record { spawned = true; mark = mark; outer = es } ∷ os) [] (again t)
  pub join : (os : List Open) (es : List Event) (t : StrandPath) → has_spawned es ≡ true → Shows site base os es t
      → Shows site base os (es ++ Join ∷ []) (joins t)
  pub no_join : (os : List Open) (es : List Event) (t : StrandPath) → has_spawned es ≡ false → Shows site base os es t
      → Shows site base os (es ++ Join ∷ []) t
  pub leave : (mark : Option Mark) (outer : List Event) (os : List Open) (es : List Event) (t : StrandPath)
      → has_spawned es ≡ false → Shows site base (record { spawned = false; mark = mark; outer = outer } ∷ os) es t
      → Shows site base os (closed (record { spawned = false; mark = mark; outer = outer }) es) t
  pub child_end : (mark : Option Mark) (outer : List Event) (os : List Open) (es : List Event) (t : StrandPath)
      → has_spawned es ≡ false → Shows site base (record { spawned = true; mark = mark; outer = outer } ∷ os) es t
      → Shows site base os (closed (record { spawned = true; mark = mark; outer = outer }) es) (ends t)
  pub end : (es : List Event) (t : StrandPath) → has_spawned es ≡ false → Shows site base [] es t
      → t.now ≡ chosen site base (tree_of es)

-- the paths of a block add the chosen path of the block's tree to the path before; it is the chosen path of the model
pub record BlocksReadChosenPaths : Type 0 where
  pub blocks : (site here : ℕ) (before : Path) (es : List Event)
      → finished (after_all site here (Straight before) es) ≡ plus before (chosen site here (tree_of es))
  pub leaves : (site here : ℕ) (t : Tree) → path_of site (chosen_leaves here t) ≡ chosen site here t

-- a piece without joins, or with joins after a block that has spawned nothing, joins as if its events had followed
abbrev pub PiecesAreOne : Type 0
PiecesAreOne =
    (site here : ℕ) (first : Bool) (before : Path) (es fs : List Event) → has_spawned es ≡ not first
    → (first || no_joins fs) ≡ true
    → joined_on (after_all site here (Straight before) es) (after_all site here (Straight nowhere) fs)
    ≡ after_all site here (Straight before) (es ++ fs)

-- over a part whose block has joined, the weight of the current path grows by the part's span
abbrev pub PathsAreMetered : Type 0
PathsAreMetered = (site base : ℕ) → Meters span (path_in site base)

-- parts that are not invocations begin and end in series without a call of the table, once the instructions so far
-- are noted
abbrev pub QuietPartsNeedNoCall : Type 0
QuietPartsNeedNoCall = (base : ℕ) (busy : ℕ → ℕ) (os : List Open) (table : SiteTable) → QuietParts base busy os table

-- for every site, `RunsAreShown` holds
abbrev pub AllRunsAreShown : Type 0
AllRunsAreShown = (site base : ℕ) → RunsAreShown site base

-- the total number of steps in a table with sites below `most`: at most `2 * most + 65` for each of three paths of each
-- open block that has spawned, and for each of two paths of the current strand
abbrev pub PathsAreFew : Type 0
PathsAreFew =
    (most : ℕ) (table : SiteTable) → IsBoundedTable most table
    → length table.paths.steps.items ≤ (most_steps most + 1) * (3 * length table.paths.blocks.items + 2)
