-- The measures that a meter returns for a whole run.
use Rattle.std.specs.Prelude.{◌≡◌, ℕ, ◌≤◌, List, [], ◌∷◌, length, Some, slice_get}
use Rattle.cw_model.specs.declared.burden.Burden.{Burden}
use Rattle.cw_model.specs.declared.limits.TheConstants.{MOST_LIMIT, MOST_BURDEN}
use Rattle.cw_model.specs.Syntax.{Name}
use Rattle.cw_model.specs.Trees.{Tree, Marked, Invocation, Event, Series, normal, tree_of, work, span, burdened_span}
use Rattle.cw_model.specs.Rows.{site_row, region_row}
use Rattle.cw_sites.specs.declared.table.SiteRow.{SiteRow}
use Rattle.cw_sites.specs.Tables as sites
use Rattle.cw_regions.specs.declared.table.RegionRow.{RegionRow}
use Rattle.cw_regions.specs.Regions.{Tags}
use Rattle.cw_regions.specs.Regions as regions
use Rattle.cw_greedy.specs.Recorded.{Recorded}
use Rattle.cw_greedy.specs.Recording.{IsKept}
use Rattle.cw_meter.specs.declared.detail.Detail.TheVariants as detail
use Rattle.cw_meter.specs.declared.meter.Meter.{Meter}
use Rattle.cw_meter.specs.declared.meter.Measures.{Measures}
use Rattle.cw_meter.specs.declared.meter.Readings.{Readings}
use Rattle.cw_meter.specs.Origins.{Main}
use Rattle.cw_meter.specs.Meters.{Meters}

-- the readings are work, span and burdened span of a tree
pub record AreReadings (burden : Burden) (t : Tree) (r : Readings) : Type 0 where
  pub work : r.work ≡ work t
  pub span : r.span ≡ span t
  pub burdened : r.burdened ≡ burdened_span burden t

-- the rows, one for each site number, are the site rows of a tree
pub record AreSiteRows (count : ℕ) (t : Tree) (rows : List SiteRow) : Type 0 where
  pub as_many : length rows ≡ count
  pub are : (site : ℕ) (row : SiteRow) → slice_get rows site ≡ Some row → sites.IsRow row (site_row site t)

-- the rows, one for each tag, are the region rows of a tree
pub record AreRegionRows (burden : Burden) (tags : List Name) (t : Tree) (rows : List RegionRow) : Type 0 where
  pub as_many : length rows ≡ length tags
  pub are : (k : ℕ) (row : RegionRow) (tag : Name) → slice_get rows k ≡ Some row → slice_get tags k ≡ Some tag
      → regions.IsRow row (region_row burden tag t)

-- the tags have these names, by number
pub record HasNames (tags : Tags) (names : List Name) : Type 0 where
  pub count : tags.count ≡ length names
  pub are : (k : ℕ) (tag : Name) → slice_get names k ≡ Some tag → tags.name k ≡ tag

-- all measures are the measures of a tree
pub record AreMeasures (burden : Burden) (count : ℕ) (names : List Name) (t : Tree) (all : Measures) : Type 0 where
  pub measure : AreReadings burden t all.measure
  pub sites : AreSiteRows count t all.sites.items
  pub regions : AreRegionRows burden names t all.regions.items

-- a meter that counts returns, at the end of a run, the measures of the tree of the run
abbrev pub Reads : Meter → (count sites tags : ℕ) → Measures → Type 0
Reads m count sites tags all =
    (burden : Burden) (by_number : Tags) (names : List Name) (es : List Event) → count ≤ MOST_LIMIT
    → burden.charge ≤ MOST_BURDEN
    → HasNames by_number names → length names ≡ tags
    → Meters (detail.Measures burden) by_number Main count [] (Series (Marked (Invocation 0) (tree_of es)) ∷ []) m
    → AreMeasures burden sites names (normal (Marked (Invocation 0) (tree_of es))) all

-- a meter that records strands returns, at the end of a run, the strands of the tree of the run
abbrev pub ReadsStrands : Meter → (count : ℕ) → Recorded → Type 0
ReadsStrands m count kept =
    (by_number : Tags) (es : List Event)
    → Meters detail.Strands by_number Main count []
    (Series (Marked (Invocation 0) (tree_of es)) ∷ []) m
    → IsKept (normal (Marked (Invocation 0) (tree_of es))) kept
