-- A meter whose lists have the items that they had.
use Rattle.std.proofs.Common.{◌≡◌, ◌+◌, ◌-◌, ℕ, List, [], reverse, sym, subst, Vec, Global}
use Rattle.cw_model.specs.declared.burden.Burden.{Burden}
use Rattle.cw_model.specs.Trees.{Event}
use Rattle.cw_measure.specs.OpenParts.{Open, work_in}
use Rattle.cw_measure.specs.StrandWeights.{reversed, ShowsWeight, TracksLate}
use Rattle.cw_measure.specs.declared.burdened_path.BurdenedBlock.{BurdenedBlock}
use Rattle.cw_measure.specs.declared.burdened_path.BurdenedPath.{BurdenedPath}
use Rattle.cw_sites.specs.declared.table.SiteTable.{SiteTable}
use Rattle.cw_sites.specs.Trimmed.{TracksAsBefore}
use Rattle.cw_regions.specs.Regions.{Tags}
use Rattle.cw_meter.specs.declared.detail.Detail.{Detail}
use Rattle.cw_meter.specs.declared.detail.Detail.TheVariants.{Values, Strands, Measures}
use Rattle.cw_meter.specs.declared.meter.Meter.{Meter}
use Rattle.cw_meter.specs.declared.parts.Part.{Part}
use Rattle.cw_meter.specs.declared.tables.Tables.{Tables}
use Rattle.cw_meter.specs.Meters.{Measured, Meters, TablesTrackLate, nothing_open}
use Rattle.cw_meter.specs.Origins.{Origin, base_of}
use Rattle.cw_meter.specs.Parts.{AreParts}

still_late : (burden : Burden) (os : List Open) (es : List Event) (path : BurdenedPath) (blocks : Vec BurdenedBlock Global) → blocks.items ≡ path.blocks.items
    → TracksLate burden os es path → TracksLate burden os es (record path { blocks = blocks })
still_late burden os es path blocks same h = record {
  late = h.late;
  tells = record {
    shows = subst (λ l. ShowsWeight burden os es (record { now = path.weight + (work_in os es - path.noted); blocks = reversed l [] })) (sym same) h.tells.shows;
    noted_is = h.tells.noted_is;
  };
}

abbrev trimmed_tables : (t : Tables) → Vec BurdenedBlock Global → SiteTable → Tables
trimmed_tables t blocks sites = record t { path = record t.path { blocks = blocks }; sites = sites }

abbrev trimmed : (m : Meter) → Vec Part Global → Vec BurdenedBlock Global → SiteTable → Meter
trimmed m parts blocks sites = record m { parts = parts; tables = trimmed_tables m.tables blocks sites }

module _ (m : Meter) (parts : Vec Part Global) (blocks : Vec BurdenedBlock Global) (sites : SiteTable)
    (same_parts : parts.items ≡ m.parts.items) (same_blocks : blocks.items ≡ m.tables.path.blocks.items) (told : TracksAsBefore m.tables.sites sites) where
  tables_told : (burden : Burden) (tags : Tags) (from : Origin) (count : ℕ) (os : List Open) (es : List Event) → TablesTrackLate burden tags from count os es m.tables
      → TablesTrackLate burden tags from count os es (trimmed_tables m.tables blocks sites)
  tables_told burden tags from count os es h = record {
    told = h.told;
    since = h.since;
    all = h.all;
    waits = h.waits;
    sites = told (base_of from) nothing_open os h.told h.sites;
    path = still_late burden os h.told m.tables.path blocks same_blocks h.path;
    regions = h.regions;
    counted = h.counted;
    burden_is = h.burden_is;
    spawned_is = h.spawned_is;
  }

  measured : (burden : Burden) (tags : Tags) (from : Origin) (count : ℕ) (os : List Open) (es : List Event) → Measured burden tags from count os es m
      → Measured burden tags from count os es (trimmed m parts blocks sites)
  measured burden tags from count os es h = record {
    recorded_open = h.recorded_open;
    told = h.told;
    open_alike = h.open_alike;
    alike = h.alike;
    tables = tables_told burden tags from count h.recorded_open h.told h.tables;
    parts = subst (λ l. AreParts from tags h.recorded_open (reverse l)) (sym same_parts) h.parts;
  }

  pub still_tells : (d : Detail) (tags : Tags) (from : Origin) (count : ℕ) (os : List Open) (es : List Event) → Meters d tags from count os es m
      → Meters d tags from count os es (trimmed m parts blocks sites)
  still_tells Values tags from count os es h = (h.0, record { many = h.1.many; few = h.1.few })
  still_tells Strands tags from count os es h = (h.0, (record { many = h.1.0.many; few = h.1.0.few }, h.1.1))
  still_tells (Measures burden) tags from count os es h = (h.0, measured burden tags from count os es h.1)
