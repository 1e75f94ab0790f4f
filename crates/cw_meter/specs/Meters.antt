-- What a meter tells of a run so far, and what each call on it does.
use Rattle.std.specs.Prelude.{◌≡◌, ℕ, ◌+◌, ◌*◌, ◌≤◌, ◌<◌, Bool, true, false, nat_eq, List, [], ◌∷◌, ◌++◌, length, reverse}
use Rattle.std.specs.Prelude.{Option, Some}
use Rattle.cw_model.specs.declared.burden.Burden.{Burden}
use Rattle.cw_model.specs.declared.limits.TheConstants.{MOST_LIMIT}
use Rattle.cw_model.specs.Trees.{Mark, Execution, Event}
use Rattle.cw_measure.specs.OpenParts.{Open, closed, has_spawned, no_joins, Since, work_in}
use Rattle.cw_greedy.specs.Recording.{IsOpen, RecordsIn}
use Rattle.cw_measure.specs.BlockWeights.{weight_in, burdened_work_in}
use Rattle.cw_measure.specs.StrandWeights.{TracksLate, TracksWeight}
use Rattle.cw_sites.specs.OpenPaths.{here_in, path_in}
use Rattle.cw_sites.specs.SiteRows.{calls_in}
use Rattle.cw_sites.specs.Tables as sites
use Rattle.cw_regions.specs.Regions.{Readings, Tags, TracksRegions}
use Rattle.cw_regions.specs.declared.table.RegionTable.{RegionTable}
use Rattle.cw_meter.specs.declared.detail.Detail.{Detail}
use Rattle.cw_meter.specs.declared.detail.Detail.TheVariants.{Values, Strands, Measures}
use Rattle.cw_meter.specs.declared.meter.Meter.{Meter}
use Rattle.cw_meter.specs.declared.tables.Tables.{Tables}
use Rattle.cw_meter.specs.Alike.{AreAlike, AreOpenAlike}
use Rattle.cw_meter.specs.Details.{IsLight, IsSite}
pub use Rattle.cw_greedy.specs.Runs.{ticked, synced, begun}
use Rattle.cw_meter.specs.Origins.{Origin, Main, Rest, base_of, main_open, given_open}
use Rattle.cw_meter.specs.Parts.{AreParts}

-- the numbers of a run of so many instructions: each part began by an instruction, but for those that were open as the
-- meter began
pub record IsCounted (burden : Burden) (from : Origin) (count : ℕ) (os : List Open) (es : List Event) : Type 0 where
  pub work : work_in os es ≡ count
  pub calls : (site : ℕ) → calls_in site os es ≤ count + given_open from
  pub opened : length os ≤ count + given_open from
  pub burdened : burdened_work_in burden os es ≤ count * (burden.charge + 1)

-- nothing is open round a whole run
abbrev pub nothing_open : ℕ → ℕ
nothing_open number = 0

-- a region table tells of a run so far, whose paths are read as the other tables read them
pub record TracksTags (burden : Burden) (tags : Tags) (from : Origin) (os : List Open) (es : List Event)
    (table : RegionTable)
    : Type 0 where
  pub along : Readings burden
  pub path_is : (qs : List Open) (fs : List Event) → along.path qs fs ≡ path_in 0 (base_of from) qs fs
  pub burdened_is : (qs : List Open) (fs : List Event) → along.burdened qs fs ≡ weight_in burden qs fs
  pub tells : TracksRegions burden along tags nothing_open os es table

-- the tables have been told of all of a run so far
pub record AreUpToDate (burden : Burden) (tags : Tags) (from : Origin) (count : ℕ) (os : List Open) (es : List Event)
    (t : Tables) : Type 0 where
  pub sites : sites.Tracks (base_of from) nothing_open os es t.sites
  pub path : TracksWeight burden os es t.path
  pub regions : TracksTags burden tags from os es t.regions
  pub counted : IsCounted burden from count os es
  pub burden_is : t.burden ≡ burden
  pub spawned_is : t.spawned ≡ has_spawned es

-- the same, but that what came last in the block need not have been told
pub record TablesTrackLate (burden : Burden) (tags : Tags) (from : Origin) (count : ℕ) (os : List Open) (es : List Event)
    (t : Tables) : Type 0 where
  pub told : List Event
  pub since : List Event
  pub all : told ++ since ≡ es
  pub waits : Since (work_in os told) count told since
  pub sites : sites.Tracks (base_of from) nothing_open os told t.sites
  pub path : TracksLate burden os told t.path
  pub regions : TracksTags burden tags from os es t.regions
  pub counted : IsCounted burden from count os es
  pub burden_is : t.burden ≡ burden
  pub spawned_is : t.spawned ≡ has_spawned es

-- a meter has counted all of a run so far: its tables tell of one that is alike, and the parts that are open there are kept
pub record Measured (burden : Burden) (tags : Tags) (from : Origin) (count : ℕ) (os : List Open) (es : List Event)
    (m : Meter)
    : Type 0 where
  pub recorded_open : List Open
  pub told : List Event
  pub open_alike : AreOpenAlike os recorded_open
  pub alike : AreAlike es told
  pub tables : TablesTrackLate burden tags from count recorded_open told m.tables
  pub parts : AreParts from tags recorded_open (reverse m.parts.items)

-- a meter of a run of which not all is counted knows how many parts are open, of which so many were as it began
pub record KnowsOpen (given count : ℕ) (os : List Open) (m : Meter) : Type 0 where
  pub many : m.open_parts ≡ length os
  pub few : length os ≤ count + given

-- what a meter tells of a run so far, where so much is kept
abbrev pub TracksAt : Detail → Tags → Origin → (count : ℕ) → List Open → List Event → Meter → Type 0
TracksAt Values tags from count os es m = KnowsOpen (given_open from) count os m
TracksAt Strands tags from count os es m =
    KnowsOpen (given_open from) count os m × RecordsIn from count os es m.recorder
TracksAt (Measures burden) tags from count os es m = Measured burden tags from count os es m

-- A METER TELLS OF A RUN SO FAR, of which so much is kept
abbrev pub Meters : Detail → Tags → Origin → (count : ℕ) → List Open → List Event → Meter → Type 0
Meters d tags from count os es m = (m.detail ≡ d) × TracksAt d tags from count os es m

-- a meter tells of each run so far of which it told
abbrev pub TracksAsBefore : (old new : Meter) → Type 0
TracksAsBefore old new =
    (d : Detail) (tags : Tags) (from : Origin) (count : ℕ) (os : List Open) (es : List Event)
    → Meters d tags from count os es old → Meters d tags from count os es new

-- what a meter tells goes from one run so far to another, where an instruction more is within the greatest limit and
-- the run has not ended
abbrev pub Tracks : (old new : Meter) → (count : ℕ) → Detail → Tags → (from : Origin) → (os os' : List Open)
    → (es es' : List Event) → Type 0
Tracks old new count d tags from os os' es es' =
    count < MOST_LIMIT → IsLight d → IsOpen from os → Meters d tags from count os es old
    → Meters d tags from (count + 1) os' es' new

-- the meter of a rest that begins in an invocation of this site, whatever else is open round it
abbrev pub StartsRest : Detail → (site : ℕ) → Meter → Type 0
StartsRest d site m = (tags : Tags) → Meters d tags (Rest site) 0 [] [] m

-- the meter of a run that begins
abbrev pub Starts : Detail → Meter → Type 0
Starts d m = (tags : Tags) → Meters d tags Main 0 main_open [] m

-- a call, a scope, a cut, or half of a loop begins
abbrev pub Begins : (old new : Meter) → (count : ℕ) → (spawned : Bool) → Option Mark → Type 0
Begins old new count spawned mark =
    (d : Detail) (tags : Tags) (from : Origin) (os : List Open) (es : List Event)
    → Tracks old new count d tags from os (begun spawned mark es os) es []

-- a region begins
abbrev pub BeginsRegion : (old new : Meter) → (count tag : ℕ) → Type 0
BeginsRegion old new count tag =
    (d : Detail) (tags : Tags) (from : Origin) (os : List Open) (es : List Event) → tag < tags.count
    → Tracks old new count d tags from os (begun false (Some (Execution (tags.name tag))) es os) es []

-- a scope, a cut or a region joins and ends, and its end is an instruction of the block round it
abbrev pub Ends : (old new : Meter) → (count : ℕ) → Type 0
Ends old new count =
    (d : Detail) (tags : Tags) (from : Origin) (o : Open) (os : List Open) (es : List Event) → o.spawned ≡ false
    → Tracks old new count d tags from (o ∷ os) os es (ticked (closed o es))

-- a call joins and ends, by an instruction of its own
abbrev pub Returns : (old new : Meter) → (count : ℕ) → Type 0
Returns old new count =
    (d : Detail) (tags : Tags) (from : Origin) (o : Open) (os : List Open) (es : List Event)
    → Tracks old new count d tags from (o ∷ os) os es (closed o (synced es))

-- the block that runs joins
abbrev pub Syncs : (old new : Meter) → (count : ℕ) → Type 0
Syncs old new count =
    (d : Detail) (tags : Tags) (from : Origin) (os : List Open) (es : List Event)
    → Tracks old new count d tags from os os es (synced es)

-- an instruction that begins, ends and joins nothing needs no call
abbrev pub InstructionsNeedNoCall : Type 0
InstructionsNeedNoCall =
    (m : Meter) (count : ℕ) (d : Detail) (tags : Tags) (from : Origin) (os : List Open) (es : List Event)
    → Tracks m m count d tags from os os es (ticked es)

-- the rest of the block that runs, which has spawned, was run apart, up to its join, by a strand with a meter of its
-- own, as so many instructions: what is told goes on by the rest's events and instructions
abbrev pub Rests : (old rest new : Meter) → (count cost : ℕ) → Type 0
Rests old rest new count cost =
    (d : Detail) (tags : Tags) (from : Origin) (os : List Open) (es fs : List Event) → count + cost ≤ MOST_LIMIT
    → IsLight d → IsOpen from os → has_spawned es ≡ true → no_joins fs ≡ true
    → Meters d tags from count os es old → Meters d tags (Rest (here_in (base_of from) os)) cost [] fs rest
    → Meters d tags from (count + cost) os (es ++ fs) new

-- the site of the innermost invocation, which a rest of the block that runs is told where anything is counted
abbrev pub IsHere : Meter → (site : ℕ) → Type 0
IsHere m site =
    (d : Detail) (tags : Tags) (from : Origin) (count : ℕ) (os : List Open) (es : List Event)
    → Meters d tags from count os es m → IsSite d site (here_in (base_of from) os)

-- whether no part is open
abbrev pub is_outside : List Open → Bool
is_outside os = nat_eq (length os) 0

abbrev pub IsOutside : Meter → Bool → Type 0
IsOutside m outside =
    (d : Detail) (tags : Tags) (from : Origin) (count : ℕ) (os : List Open) (es : List Event)
    → Meters d tags from count os es m → outside ≡ is_outside os
