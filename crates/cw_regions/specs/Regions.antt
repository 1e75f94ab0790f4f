-- A region table, and the run so far that it represents.
use Rattle.std.specs.Prelude.{◌≡◌, ℕ, ◌<◌, ◌^◌, true, false, List, [], ◌∷◌, ◌++◌, Option, Some, None}
use Rattle.cw_model.specs.declared.burden.Burden.{Burden}
use Rattle.cw_model.specs.Syntax.{Name}
use Rattle.cw_model.specs.Names.{same_name}
use Rattle.cw_model.specs.Trees.{Mark, Invocation, Execution, Event, Work, Join, tree_of, work, span, burdened_span}
use Rattle.cw_model.specs.Rows.{is_tag, region_row}
use Rattle.cw_model.specs.Rows as model
use Rattle.cw_measure.specs.OpenParts.{Open, in_series, closed, has_spawned, work_in}
use Rattle.cw_measure.specs.Outermost.{active_in, Reading, Meters, Counts}
use Rattle.cw_measure.specs.StrandWeights.{FitsRun}
use Rattle.cw_regions.specs.declared.rows.Row.{Row}
use Rattle.cw_regions.specs.declared.table.RegionRow as declared
use Rattle.cw_regions.specs.declared.table.RegionTable.{RegionTable}
use Rattle.cw_regions.specs.RegionRows.{row_of, work_tally, span_tally, burdened_tally}

-- readings of the weight of the current path, in instructions and with burdens
pub record Readings (burden : Burden) : Type 0 where
  pub path : Reading
  pub burdened : Reading
  pub path_is : Meters span path
  pub burdened_is : Meters (burdened_span burden) burdened

-- the tags of a source by number, all distinct
pub record Tags : Type 0 where
  pub count : ℕ
  pub name : ℕ → Name
  pub differ : (j k : ℕ) → j < count → k < count → same_name (name j) (name k) ≡ true → j ≡ k

-- a row represents the executions of a tag over a run so far
pub record CountsTag (burden : Burden) (along : Readings burden) (tag : Name) (busy : ℕ) (os : List Open)
    (es : List Event)
    (r : Row) : Type 0 where
  pub work_is : Counts work work_in (is_tag tag) busy os es (work_tally r)
  pub span_is : Counts span along.path (is_tag tag) busy os es (span_tally r)
  pub burdened_is : Counts (burdened_span burden) along.burdened (is_tag tag) busy os es (burdened_tally r)

-- a table represents a run so far, for each tag; `busy` is the number of its executions that were open around the run
abbrev pub TracksRegions : (burden : Burden) → Readings burden → Tags → (busy : ℕ → ℕ) → List Open → List Event
    → RegionTable
    → Type 0
TracksRegions burden along tags busy os es table =
    (k : ℕ) → k < tags.count → CountsTag burden along (tags.name k) (busy k) os es (row_of table.rows k)

-- the numbers of a run fit their types
pub record SmallRegions (burden : Burden) (tags : Tags) (busy : ℕ → ℕ) (os : List Open) (es : List Event) : Type 0 where
  pub work : work_in os es < 2 ^ 64
  pub burdened : FitsRun burden os es
  pub active : (k : ℕ) → active_in (is_tag (tags.name k)) (busy k) os < 2 ^ 64

-- an execution of a tag begins after these events
abbrev pub executed : Tags → (tag : ℕ) → List Event → List Open → List Open
executed tags tag es os = in_series (Some (Execution (tags.name tag))) es os

-- the table of a run at its start
abbrev pub StartsRegions : RegionTable → Type 0
StartsRegions table =
    (burden : Burden) (along : Readings burden) (tags : Tags) → TracksRegions burden along tags (λ k. 0) [] [] table

-- begins an execution of a tag: a table that represents a run represents the run with the execution
abbrev pub BeginsRegion : RegionTable → RegionTable → (tag count path heavy : ℕ) → Type 0
BeginsRegion old new tag count path heavy =
    (burden : Burden) (along : Readings burden) (tags : Tags) (busy : ℕ → ℕ) (os : List Open) (es : List Event)
    → tag < tags.count
    → count ≡ work_in os es → path ≡ along.path os es → heavy ≡ along.burdened os es
    → SmallRegions burden tags busy (executed tags tag es os) [] → TracksRegions burden along tags busy os es old
    → TracksRegions burden along tags busy (executed tags tag es os) [] new

-- ends an execution of a tag whose block has joined
abbrev pub EndsRegion : RegionTable → RegionTable → (tag count path heavy : ℕ) → Type 0
EndsRegion old new tag count path heavy =
    (burden : Burden) (along : Readings burden) (tags : Tags) (busy : ℕ → ℕ) (os : List Open) (before es : List Event)
    → tag < tags.count
    → count ≡ work_in (executed tags tag before os) es → path ≡ along.path (executed tags tag before os) es
    → heavy ≡ along.burdened (executed tags tag before os) es → has_spawned es ≡ false
    → SmallRegions burden tags busy (executed tags tag before os) es
    → TracksRegions burden along tags busy (executed tags tag before os) es old
    → TracksRegions burden along tags busy os
    (closed (record { spawned = false; mark = Some (Execution (tags.name tag)); outer = before }) es) new

-- the row equals the row of a tag in a tree
pub record IsRow (row : declared.RegionRow) (of : model.RegionRow) : Type 0 where
  pub work : row.work ≡ of.work
  pub span : row.span ≡ of.span
  pub burdened : row.burdened ≡ of.burdened

-- the row of a tag, if no part is open
abbrev pub ReadsRegion : RegionTable → (tag : ℕ) → declared.RegionRow → Type 0
ReadsRegion table tag row =
    (burden : Burden) (along : Readings burden) (tags : Tags) (busy : ℕ → ℕ) (es : List Event) → tag < tags.count
    → busy tag ≡ 0
    → TracksRegions burden along tags busy [] es table → IsRow row (region_row burden (tags.name tag) (tree_of es))

-- a part that is not an execution of a tag: a call, a scope, a cut, an iteration or the half of a loop
abbrev pub IsNoExecution : Option Mark → Type 0
IsNoExecution None = Unit {0}
IsNoExecution (Some (Invocation site)) = Unit {0}
IsNoExecution (Some (Execution tag)) = ⊥

-- instructions, joins, and the start and end of these parts need no call of the table
pub record RegionsNeedNoCall (burden : Burden) (along : Readings burden) (tags : Tags) (busy : ℕ → ℕ) (os : List Open)
    (table : RegionTable) : Type 0 where
  pub work : (es : List Event) (k : ℕ) → TracksRegions burden along tags busy os es table
      → TracksRegions burden along tags busy os (es ++ Work k ∷ []) table
  pub join : (es : List Event) → TracksRegions burden along tags busy os es table
      → TracksRegions burden along tags busy os (es ++ Join ∷ []) table
  pub begins : (o : Open) → IsNoExecution o.mark → TracksRegions burden along tags busy os o.outer table
      → TracksRegions burden along tags busy (o ∷ os) [] table
  pub ends : (o : Open) (es : List Event) → IsNoExecution o.mark → TracksRegions burden along tags busy (o ∷ os) es table
      → TracksRegions burden along tags busy os (closed o es) table

-- this holds for every table
abbrev pub RegionsKeep : Type 0
RegionsKeep =
    (burden : Burden) (along : Readings burden) (tags : Tags) (busy : ℕ → ℕ) (os : List Open) (table : RegionTable)
    → RegionsNeedNoCall burden along tags busy os table

-- a piece knows no open executions around it
abbrev pub nothing_open : ℕ → ℕ
nothing_open tag = 0

-- appends a piece that was executed separately inside the open parts, as further events of the current block
abbrev pub JoinsRegions : RegionTable → (right : RegionTable) → RegionTable → Type 0
JoinsRegions old right new =
    (burden : Burden) (along there : Readings burden) (tags : Tags) (busy : ℕ → ℕ) (os : List Open) (es fs : List Event)
    → SmallRegions burden tags busy os (es ++ fs) → TracksRegions burden along tags busy os es old
    → TracksRegions burden there tags nothing_open [] fs right → TracksRegions burden along tags busy os (es ++ fs) new
