-- The effect of the parts of a call on a meter.
use Rattle.std.specs.Prelude.{◌≡◌, ℕ, ◌+◌, ◌^◌, ◌≤◌, ◌<◌, false, List, [], ◌∷◌, ◌++◌, length, reverse, Some, slice_get}
use Rattle.cw_model.specs.declared.burden.Burden.{Burden}
use Rattle.cw_model.specs.declared.limits.TheConstants.{MOST_LIMIT, MOST_BURDEN}
use Rattle.cw_model.specs.Trees.{Event, Join}
use Rattle.cw_measure.specs.OpenParts.{Open, closed}
use Rattle.cw_sites.specs.declared.table.SiteRow.{SiteRow}
use Rattle.cw_sites.specs.Tables.{ReadsSite}
use Rattle.cw_regions.specs.declared.table.RegionRow.{RegionRow}
use Rattle.cw_regions.specs.Regions.{Tags, ReadsRegion}
use Rattle.cw_meter.specs.Origins.{Origin}
use Rattle.cw_meter.specs.declared.meter.Meter.{Meter}
use Rattle.cw_meter.specs.declared.parts.PartKind.{PartKind}
use Rattle.cw_meter.specs.declared.parts.Part.{Part}
use Rattle.cw_meter.specs.declared.tables.Tables.{Tables}
use Rattle.cw_meter.specs.Meters.{TablesTrackLate}
use Rattle.cw_meter.specs.Parts.{AreParts}
use Rattle.cw_meter.specs.Tables.{TellOf}

-- a part of this kind that begins in the current block
abbrev pub part_in : PartKind → Tables → Part
part_in kind t = record { kind = kind; site = t.sites.here; spawned = t.spawned }

-- one more part is recorded, and the tables are unchanged
pub record Stacks (old new : Meter) (kind : PartKind) : Type 0 where
  pub pushed : new.parts.items ≡ old.parts.items ++ part_in kind old.tables ∷ []
  pub tables : new.tables ≡ old.tables
  pub detail : new.detail ≡ old.detail

-- one more part is open, if the meter only counts open parts
pub record IsOpened (old new : Meter) : Type 0 where
  pub detail : new.detail ≡ old.detail
  pub recorder : new.recorder ≡ old.recorder
  pub parts : old.open_parts + 1 < 2 ^ 64 → new.open_parts ≡ old.open_parts + 1

-- one part less is open, if the meter only counts open parts
pub record LeavesOne (old new : Meter) : Type 0 where
  pub detail : new.detail ≡ old.detail
  pub recorder : new.recorder ≡ old.recorder
  pub parts : 0 < old.open_parts → new.open_parts + 1 ≡ old.open_parts

-- the current block joins
abbrev pub JoinsBlock : (old new : Meter) → (count : ℕ) → Type 0
JoinsBlock old new count =
    (burden : Burden) (tags : Tags) (from : Origin) (os : List Open) (es : List Event)
    → TellOf old.tables new.tables count burden tags from os os es (es ++ Join ∷ [])

-- the innermost part, whose block has joined, ends and is removed
abbrev pub ClosesPart : (old new : Meter) → (count : ℕ) → Type 0
ClosesPart old new count =
    (burden : Burden) (tags : Tags) (from : Origin) (o : Open) (os : List Open) (es : List Event)
    → old.tables.spawned ≡ false
    → AreParts from tags (o ∷ os) (reverse old.parts.items) → count ≤ MOST_LIMIT → burden.charge ≤ MOST_BURDEN
    → TablesTrackLate burden tags from count (o ∷ os) es old.tables
    → TablesTrackLate burden tags from count os (closed o es) new.tables × AreParts from tags os (reverse new.parts.items)

-- the rows of the sites, by their numbers, as a table reads them
pub record ListsSites (t : Tables) (count : ℕ) (rows : List SiteRow) : Type 0 where
  pub as_many : length rows ≡ count
  pub are : (site : ℕ) (row : SiteRow) → slice_get rows site ≡ Some row → ReadsSite t.sites site row

-- the rows of the tags, by their numbers, as a table reads them
pub record ListsRegions (t : Tables) (count : ℕ) (rows : List RegionRow) : Type 0 where
  pub as_many : length rows ≡ count
  pub are : (tag : ℕ) (row : RegionRow) → slice_get rows tag ≡ Some row → ReadsRegion t.regions tag row
