-- The tables of a run so far, while parts are open, as if these ended now.
use Rattle.std.specs.Prelude.{◌≡◌, ℕ, ◌+◌, ◌-◌, ◌==◌, ◌<◌, if◌then◌else◌, List, [], ◌∷◌, ◌++◌}
use Rattle.cw_model.specs.declared.burden.Burden.{Burden}
use Rattle.cw_model.specs.Trees.{Tree, Event, Join, tree_of}
use Rattle.cw_model.specs.Rows.{SiteRow, site_row, region_row}
use Rattle.cw_measure.specs.OpenParts.{Open, closed, work_in}
use Rattle.cw_measure.specs.Outermost.{Tally}
use Rattle.cw_sites.specs.declared.rows.Row.{Row}
use Rattle.cw_sites.specs.declared.table.SiteTable.{SiteTable}
use Rattle.cw_sites.specs.SiteRows as sites
use Rattle.cw_sites.specs.Tables.{Tracks}
use Rattle.cw_regions.specs.declared.table.RegionTable.{RegionTable}
use Rattle.cw_regions.specs.Regions.{Readings, Tags, TracksRegions}
use Rattle.cw_regions.specs.RegionRows as regions

-- the events of the outermost block, if each open part joined and ended now, the innermost first
abbrev pub ended_here : List Open → List Event → List Event
ended_here [] es = es
ended_here (o ∷ os) es = ended_here os (closed o (es ++ Join ∷ []))

-- the tree of the run then
abbrev pub tree_here : List Open → List Event → Tree
tree_here os es = tree_of (ended_here os es)

-- the sum over outermost parts, including the outermost open one, at this reading
abbrev pub summed_here : (reading : ℕ) → Tally → ℕ
summed_here reading t = if t.active == 0 then t.sum else t.sum + (reading - t.began)

-- the calls, the own work and the work of a site, by its row, while parts are open
pub record IsRowHere (now : ℕ) (row : Row) (of : SiteRow) : Type 0 where
  pub calls : row.calls ≡ of.calls
  pub own_work : row.own ≡ of.own_work
  pub work : summed_here now (sites.work_tally row) ≡ of.work

-- whenever a table represents a run so far, its rows are those of the run as if its open parts ended now
abbrev pub SitesAreRead : Type 0
SitesAreRead =
    (busy : ℕ → ℕ) (os : List Open) (es : List Event) (table : SiteTable) (site : ℕ) → busy site ≡ 0
    → Tracks 0 busy os es table
    → IsRowHere table.noted (sites.row_of table.rows site) (site_row site (tree_here os es))

-- and so is the work of a tag
abbrev pub RegionsAreRead : Type 0
RegionsAreRead =
    (burden : Burden) (along : Readings burden) (tags : Tags) (busy : ℕ → ℕ) (os : List Open) (es : List Event)
    (table : RegionTable) (tag : ℕ) → tag < tags.count → busy tag ≡ 0
    → TracksRegions burden along tags busy os es table
    → summed_here (work_in os es) (regions.work_tally (regions.row_of table.rows tag))
    ≡ (region_row burden (tags.name tag) (tree_here os es)).work
