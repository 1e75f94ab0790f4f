-- A site table, and the run so far that it represents.
use Rattle.std.specs.Prelude.{◌≡◌, ℕ, ◌-◌, ◌^◌, ◌<◌, ◌≤◌, ◌==◌, Bool, true, false, ◌||◌, not, List, [], ◌∷◌, ◌++◌}
use Rattle.std.specs.Prelude.{Option, Some, None}
use Rattle.cw_model.specs.Trees.{Mark, Invocation, Execution, Event, Join, tree_of}
use Rattle.cw_model.specs.Rows.{SiteRow, is_site, site_row}
use Rattle.cw_measure.specs.OpenParts.{Open, in_series, in_fork, closed, has_spawned, Since, work_in}
use Rattle.cw_measure.specs.Outermost.{active_in}
use Rattle.cw_sites.specs.declared.table.SiteRow as declared
use Rattle.cw_sites.specs.declared.table.SiteTable.{SiteTable}
use Rattle.cw_sites.specs.ChosenPaths.{plus, steps_of}
use Rattle.cw_measure.specs.OpenParts.{no_joins}
use Rattle.cw_sites.specs.StepSums.{Fits}
use Rattle.cw_sites.specs.StepLists.{strand_path, Laid}
use Rattle.cw_sites.specs.PathBounds.{IsBounded, IsTight}
use Rattle.cw_sites.specs.OpenPaths.{here_in, path_in, Shows}
use Rattle.cw_sites.specs.SiteRows.{row_of, worked, entered, left, calls_in, CountsSite, FitsRow}

-- the numbers of a run fit 64 bits
pub record Small (busy : ℕ → ℕ) (os : List Open) (es : List Event) : Type 0 where
  pub work : work_in os es < 2 ^ 64
  pub calls : (site : ℕ) → calls_in site os es < 2 ^ 64
  pub active : (site : ℕ) → active_in (is_site site) (busy site) os < 2 ^ 64

-- a table represents a run so far, for each site
pub record Tracks (base : ℕ) (busy : ℕ → ℕ) (os : List Open) (es : List Event) (table : SiteTable) : Type 0 where
  pub rows : (site : ℕ) → CountsSite site base (busy site) os es (row_of table.rows site)
  pub paths : (site : ℕ) → Shows site base os es (strand_path site table.paths)
  pub laid : Laid table.paths
  pub noted_is : table.noted ≡ work_in os es
  pub here_is : table.here ≡ here_in base os

-- a plain call begins after these events
abbrev pub called : (site : ℕ) → List Event → List Open → List Open
called site es os = in_series (Some (Invocation site)) es os

-- a spawned call begins after these events
abbrev pub spawned : (site : ℕ) → List Event → List Open → List Open
spawned site es os = in_fork (Some (Invocation site)) es os

-- the internal steps of a table's methods, for counts that do not decrease
pub record Flushed (old new : SiteTable) (count : ℕ) : Type 0 where
  pub rows : old.noted ≤ count → (q : ℕ)
      → FitsRow (worked (steps_of q old.here (count - old.noted)).own (row_of old.rows q))
      → row_of new.rows q ≡ worked (steps_of q old.here (count - old.noted)).own (row_of old.rows q)
  pub laid : Laid old.paths → Laid new.paths
  pub paths : old.noted ≤ count → Laid old.paths → (q : ℕ)
      → Fits (plus (strand_path q old.paths).now (steps_of q old.here (count - old.noted)))
      → strand_path q new.paths
      ≡ record {
        now = plus (strand_path q old.paths).now (steps_of q old.here (count - old.noted));
        blocks = (strand_path q old.paths).blocks;
      }
  pub noted_is : new.noted ≡ count
  pub here_is : new.here ≡ old.here

-- the row of a site after an invocation began; nothing else changes but the current site
pub record RowBegun (old new : SiteTable) (site path : ℕ) : Type 0 where
  pub own : FitsRow (entered old.noted path (row_of old.rows site))
      → row_of new.rows site ≡ entered old.noted path (row_of old.rows site)
  pub others : (q : ℕ) → (site == q) ≡ false → row_of new.rows q ≡ row_of old.rows q
  pub paths : new.paths ≡ old.paths
  pub noted_is : new.noted ≡ old.noted
  pub here_is : new.here ≡ site

-- the row of the current site after its invocation ended; nothing else changes but the current site
pub record RowLeft (old new : SiteTable) (outer : ℕ) : Type 0 where
  pub own : FitsRow (left old.noted (strand_path 0 old.paths).now.weight (row_of old.rows old.here))
      → row_of new.rows old.here ≡ left old.noted (strand_path 0 old.paths).now.weight (row_of old.rows old.here)
  pub others : (q : ℕ) → (old.here == q) ≡ false → row_of new.rows q ≡ row_of old.rows q
  pub paths : new.paths ≡ old.paths
  pub noted_is : new.noted ≡ old.noted
  pub here_is : new.here ≡ outer

-- the row equals the row of a site in a tree
pub record IsRow (row : declared.SiteRow) (of : SiteRow) : Type 0 where
  pub calls : row.calls ≡ of.calls
  pub own_work : row.own_work ≡ of.own_work
  pub own_span : row.own_span ≡ of.own_span
  pub work : row.work ≡ of.work
  pub span : row.span ≡ of.span

-- a part that is not an invocation: a scope, a cut, an iteration of a loop, or a region
abbrev pub IsQuiet : Option Mark → Type 0
IsQuiet None = Unit {0}
IsQuiet (Some (Invocation site)) = ⊥
IsQuiet (Some (Execution tag)) = Unit {0}

-- a part that is not an invocation begins and ends in series without a call of the table
pub record QuietParts (base : ℕ) (busy : ℕ → ℕ) (os : List Open) (table : SiteTable) : Type 0 where
  pub begins : (mark : Option Mark) (es : List Event) → IsQuiet mark → Tracks base busy os es table
      → Tracks base busy (in_series mark es os) [] table
  pub ends : (mark : Option Mark) (outer es : List Event) → IsQuiet mark → has_spawned es ≡ false
      → Tracks base busy (in_series mark outer os) es table
      → Tracks base busy os (closed (record { spawned = false; mark = mark; outer = outer }) es) table

-- includes the instructions up to a count: a table that represents a run represents the run after the events
abbrev pub RecordsUpTo : SiteTable → SiteTable → (count : ℕ) → Type 0
RecordsUpTo old new count =
    (base : ℕ) (busy : ℕ → ℕ) (os : List Open) (es fs : List Event) → Since old.noted count es fs
    → Small busy os (es ++ fs)
    → Tracks base busy os es old → Tracks base busy os (es ++ fs) new

-- begins a plain call
abbrev pub Enters : SiteTable → SiteTable → (count site : ℕ) → Type 0
Enters old new count site =
    (base : ℕ) (busy : ℕ → ℕ) (os : List Open) (es fs : List Event) → Since old.noted count es fs
    → Small busy (called site (es ++ fs) os) []
    → Tracks base busy os es old → Tracks base busy (called site (es ++ fs) os) [] new

-- begins a spawned call
abbrev pub Spawns : SiteTable → SiteTable → (count site : ℕ) → (first : Bool) → Type 0
Spawns old new count site first =
    (base : ℕ) (busy : ℕ → ℕ) (os : List Open) (es fs : List Event) → Since old.noted count es fs
    → has_spawned es ≡ not first
    → Small busy (spawned site (es ++ fs) os) [] → Tracks base busy os es old
    → Tracks base busy (spawned site (es ++ fs) os) [] new

-- ends a plain call, whose block has joined
abbrev pub Leaves : SiteTable → SiteTable → (count outer : ℕ) → Type 0
Leaves old new count outer =
    (base : ℕ) (busy : ℕ → ℕ) (os : List Open) (before es fs : List Event) (site : ℕ) → Since old.noted count es fs
    → has_spawned es ≡ false
    → outer ≡ here_in base os → Small busy (called site before os) (es ++ fs)
    → Tracks base busy (called site before os) es old
    → Tracks base busy os (closed (record { spawned = false; mark = Some (Invocation site); outer = before }) (es ++ fs))
    new

-- ends a spawned call, whose block has joined
abbrev pub EndsChild : SiteTable → SiteTable → (count outer : ℕ) → Type 0
EndsChild old new count outer =
    (base : ℕ) (busy : ℕ → ℕ) (os : List Open) (before es fs : List Event) (site : ℕ) → Since old.noted count es fs
    → has_spawned es ≡ false
    → outer ≡ here_in base os → Small busy (spawned site before os) (es ++ fs)
    → Tracks base busy (spawned site before os) es old
    → Tracks base busy os (closed (record { spawned = true; mark = Some (Invocation site); outer = before }) (es ++ fs))
    new

-- joins a block that has spawned
abbrev pub Joins : SiteTable → SiteTable → (count : ℕ) → Type 0
Joins old new count =
    (base : ℕ) (busy : ℕ → ℕ) (os : List Open) (es fs : List Event) → Since old.noted count es fs
    → has_spawned es ≡ true
    → Small busy os (es ++ fs) → Tracks base busy os es old → Tracks base busy os ((es ++ fs) ++ Join ∷ []) new

-- a join, if the table represents the whole run so far
abbrev pub JoinsRecorded : SiteTable → SiteTable → Type 0
JoinsRecorded old new =
    (base : ℕ) (busy : ℕ → ℕ) (os : List Open) (es : List Event) → has_spawned es ≡ true → Small busy os es
    → Tracks base busy os es old → Tracks base busy os (es ++ Join ∷ []) new

-- the row of a site, if no part is open and the block has joined
abbrev pub ReadsSite : SiteTable → (site : ℕ) → declared.SiteRow → Type 0
ReadsSite table site row =
    (busy : ℕ → ℕ) (es : List Event) → busy site ≡ 0 → has_spawned es ≡ false → Small busy [] es
    → Tracks 0 busy [] es table
    → IsRow row (site_row site (tree_of es))

-- begins a spawned part that is not a call, the half of a loop
abbrev pub SpawnsHalf : SiteTable → SiteTable → (count : ℕ) → (first : Bool) → Type 0
SpawnsHalf old new count first =
    (base : ℕ) (busy : ℕ → ℕ) (mark : Option Mark) (os : List Open) (es fs : List Event) → IsQuiet mark
    → Since old.noted count es fs
    → has_spawned es ≡ not first → Small busy os (es ++ fs) → Tracks base busy os es old
    → Tracks base busy (in_fork mark (es ++ fs) os) [] new

-- ends a spawned part that is not a call, the half of a loop
abbrev pub EndsHalf : SiteTable → SiteTable → (count : ℕ) → Type 0
EndsHalf old new count =
    (base : ℕ) (busy : ℕ → ℕ) (mark : Option Mark) (os : List Open) (before es fs : List Event) → IsQuiet mark
    → Since old.noted count es fs
    → has_spawned es ≡ false → Small busy (in_fork mark before os) (es ++ fs)
    → Tracks base busy (in_fork mark before os) es old
    → Tracks base busy os (closed (record { spawned = true; mark = mark; outer = before }) (es ++ fs)) new

-- the weight of the current strand's path
abbrev pub ReadsPath : SiteTable → (weight : ℕ) → Type 0
ReadsPath table weight =
    (site base : ℕ) (busy : ℕ → ℕ) (os : List Open) (es : List Event) → Tracks base busy os es table
    → weight ≡ path_in site base os es

-- the steps of a table are of sites below `most`, and each path of the strand and of its open blocks has at most
-- twice this number of steps plus a constant; after a join, the strand has two such paths
pub record IsBoundedTable (most : ℕ) (table : SiteTable) : Type 0 where
  pub paths : IsBounded most table.paths
  pub here : table.here < most

-- the bound once the instructions so far are included
pub record IsTightTable (most : ℕ) (table : SiteTable) : Type 0 where
  pub paths : IsTight most table.paths
  pub here : table.here < most

-- the bound is tight after the instructions so far were included
abbrev pub FlushesBounded : SiteTable → SiteTable → Type 0
FlushesBounded old new = (most : ℕ) → IsBoundedTable most old → IsTightTable most new

-- a join, once the instructions so far are included
abbrev pub JoinsBounded : SiteTable → SiteTable → Type 0
JoinsBounded old new = (most : ℕ) → IsTightTable most old → IsBoundedTable most new

-- the bound is kept if an invocation of this site becomes the innermost one
abbrev pub StaysBoundedIn : (site : ℕ) → SiteTable → SiteTable → Type 0
StaysBoundedIn site old new = (most : ℕ) → site < most → IsBoundedTable most old → IsBoundedTable most new

-- a piece knows no open invocations around it
abbrev pub nothing_open : ℕ → ℕ
nothing_open site = 0

-- a table represents a piece that was executed separately inside the open parts and has no open part itself; it knows
-- only the site of the innermost invocation around it
abbrev pub TellsPiece : (base : ℕ) → List Open → List Event → SiteTable → Type 0
TellsPiece base os fs piece = Tracks (here_in base os) nothing_open [] fs piece

-- appends the piece as the next events of the current block: it has no join, or the block has spawned nothing since
-- its last join
abbrev pub JoinsPiece : SiteTable → (piece : SiteTable) → SiteTable → (first : Bool) → Type 0
JoinsPiece old piece new first =
    (base : ℕ) (busy : ℕ → ℕ) (os : List Open) (es fs : List Event) → has_spawned es ≡ not first
    → (first || no_joins fs) ≡ true
    → Small busy os (es ++ fs) → Tracks base busy os es old → TellsPiece base os fs piece
    → Tracks base busy os (es ++ fs) new

-- the bound is kept if the piece is bounded
abbrev pub StaysBoundedBeside : (piece : SiteTable) → SiteTable → SiteTable → Type 0
StaysBoundedBeside piece old new =
    (most : ℕ) → IsBoundedTable most piece → IsBoundedTable most old → IsBoundedTable most new
