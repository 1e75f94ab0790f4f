-- The effect of each call on the tables of a run.
use Rattle.std.specs.Prelude.{◌≡◌, ℕ, ◌+◌, ◌≤◌, ◌<◌, Bool, true, false, List, [], ◌∷◌, ◌++◌, Option, Some}
use Rattle.cw_model.specs.declared.burden.Burden.{Burden}
use Rattle.cw_model.specs.declared.limits.TheConstants.{MOST_LIMIT, MOST_BURDEN}
use Rattle.cw_model.specs.Trees.{Mark, Execution, Event, Join}
use Rattle.cw_measure.specs.OpenParts.{Open, closed, no_joins}
use Rattle.cw_sites.specs.OpenPaths.{here_in}
use Rattle.cw_regions.specs.Regions.{Tags}
use Rattle.cw_meter.specs.Origins.{Origin, Main, Rest, base_of, main_open}
use Rattle.cw_meter.specs.declared.parts.Part.{Part}
use Rattle.cw_meter.specs.declared.parts.PartKind.{PartKind}
use Rattle.cw_meter.specs.declared.tables.Tables.{Tables}
use Rattle.cw_meter.specs.Meters.{AreUpToDate, IsCounted, TablesTrackLate}
use Rattle.cw_meter.specs.Parts.{IsPart}

-- if the old tables represent one run so far, the new tables represent another, within the maximum limit
abbrev pub TellOf : (old new : Tables) → (count : ℕ) → Burden → Tags → (from : Origin) → (os os' : List Open)
    → (es es' : List Event) → Type 0
TellOf old new count burden tags from os os' es es' =
    count ≤ MOST_LIMIT → burden.charge ≤ MOST_BURDEN → TablesTrackLate burden tags from count os es old
    → TablesTrackLate burden tags from count os' es' new

-- the tables of a run that begins
abbrev pub StartsTables : Burden → Tables → Type 0
StartsTables burden t = (tags : Tags) → TablesTrackLate burden tags Main 0 main_open [] t

-- the tables include all events of the run so far
abbrev pub Settles : (old new : Tables) → (count : ℕ) → Type 0
Settles old new count =
    (burden : Burden) (tags : Tags) (from : Origin) (os : List Open) (es : List Event) → count ≤ MOST_LIMIT
    → burden.charge ≤ MOST_BURDEN
    → TablesTrackLate burden tags from count os es old → AreUpToDate burden tags from count os es new

-- one more part is open
abbrev pub opened : (spawned : Bool) → Option Mark → List Event → List Open → List Open
opened spawned mark es os = record { spawned = spawned; mark = mark; outer = es } ∷ os

-- a part that is no region begins after these events, if the numbers are the numbers of a run
abbrev pub Opens : (old new : Tables) → (count : ℕ) → (spawned : Bool) → Option Mark → Type 0
Opens old new count spawned mark =
    (burden : Burden) (tags : Tags) (from : Origin) (os : List Open) (es : List Event)
    → IsCounted burden from count (opened spawned mark es os) []
    → TellOf old new count burden tags from os (opened spawned mark es os) es []

-- a region begins after these events
abbrev pub OpensRegion : (old new : Tables) → (count tag : ℕ) → Type 0
OpensRegion old new count tag =
    (burden : Burden) (tags : Tags) (from : Origin) (os : List Open) (es : List Event) → tag < tags.count
    → IsCounted burden from count (opened false (Some (Execution (tags.name tag))) es os) []
    → TellOf old new count burden tags from os (opened false (Some (Execution (tags.name tag))) es os) es []

-- the current block, which has spawned, joins
abbrev pub JoinsSpawned : (old new : Tables) → (count : ℕ) → Type 0
JoinsSpawned old new count =
    (burden : Burden) (tags : Tags) (from : Origin) (os : List Open) (es : List Event) → old.spawned ≡ true
    → TellOf old new count burden tags from os os es (es ++ Join ∷ [])

-- the innermost part, which has this record and whose block has joined, ends
abbrev pub Closes : (old new : Tables) → (count : ℕ) → Part → Type 0
Closes old new count part =
    (burden : Burden) (tags : Tags) (from : Origin) (o : Open) (os : List Open) (es : List Event)
    → IsPart from tags o os part → old.spawned ≡ false
    → TellOf old new count burden tags from (o ∷ os) os es (closed o es)

-- the tables of a continuation that begins in an invocation of this site
abbrev pub StartsTablesOfRest : Burden → (site : ℕ) → Tables → Type 0
StartsTablesOfRest burden site t = (tags : Tags) → TablesTrackLate burden tags (Rest site) 0 [] [] t

-- the tables of the continuation of the current block, which was executed separately up to its join, are appended;
-- both include all events
abbrev pub TakesIn : (old rest new : Tables) → Type 0
TakesIn old rest new =
    (burden : Burden) (tags : Tags) (from : Origin) (count cost : ℕ) (os : List Open) (es fs : List Event)
    → count + cost ≤ MOST_LIMIT → burden.charge ≤ MOST_BURDEN
    → no_joins fs ≡ true → AreUpToDate burden tags from count os es old
    → AreUpToDate burden tags (Rest (here_in (base_of from) os)) cost [] fs rest
    → AreUpToDate burden tags from (count + cost) os (es ++ fs) new

-- the record of an open part
abbrev pub part_of : PartKind → (site : ℕ) → (spawned : Bool) → Part
part_of kind site spawned = record { kind = kind; site = site; spawned = spawned }
