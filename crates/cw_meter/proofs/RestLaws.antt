-- The continuation of a block was executed separately, with a meter of its own.
use Rattle.std.specs.Prelude.{◌≡◌, ℕ, ◌+◌, ◌≤◌, Bool, true, false, not, ◌||◌, List, [], ◌++◌, reverse, refl}
use Rattle.std.proofs.Common.{sym, ◌∙◌, ap, subst, arith}
use Rattle.std.proofs.Math.Bool.{not-not}
use Rattle.cw_model.specs.declared.burden.Burden.{Burden}
use Rattle.cw_model.specs.declared.limits.TheConstants.{MOST_LIMIT, MOST_BURDEN}
use Rattle.cw_model.specs.Trees.{Event}
use Rattle.cw_measure.specs.declared.burdened_path.BurdenedPath.{BurdenedPath}
use Rattle.cw_measure.specs.OpenParts.{Open, has_spawned, no_joins}
use Rattle.cw_measure.specs.BlockWeights.{weight_in}
use Rattle.cw_measure.specs.StrandWeights.{TracksWeight, AppendsWeight}
use Rattle.cw_measure.specs.lemmas.StrandWeights.{weight_meters}
use Rattle.cw_sites.specs.declared.table.SiteTable.{SiteTable}
use Rattle.cw_sites.specs.OpenPaths.{here_in, path_in}
use Rattle.cw_sites.specs.Tables.{JoinsPiece}
use Rattle.cw_sites.specs.Tables as sites
use Rattle.cw_sites.specs.lemmas.SiteRows.{path_meters}
use Rattle.cw_regions.specs.declared.table.RegionTable.{RegionTable}
use Rattle.cw_regions.specs.Regions.{Readings, Tags, JoinsRegions, StartsRegions}
use Rattle.cw_meter.specs.declared.meter.Meter.{Meter}
use Rattle.cw_meter.specs.declared.tables.Tables.{Tables}
use Rattle.cw_meter.specs.declared.parts.Part.{Part}
use Rattle.cw_meter.specs.Origins.{Origin, Rest, base_of}
use Rattle.cw_meter.specs.Meters.{AreUpToDate, Measured, nothing_open}
use Rattle.cw_meter.specs.Parts.{AreParts}
use Rattle.cw_meter.specs.Tables.{Settles, StartsTablesOfRest, TakesIn}
use Rattle.cw_meter.proofs.AlikeLaws.{alike_itself, alike_both, here_alike, spawned_either}
use Rattle.cw_meter.proofs.Counting.{counted_rest, small_run, fits_run, small_tags}
use Rattle.cw_meter.proofs.TableLaws.{tables_told}
use Rattle.cw_meter.proofs.ReadingLaws.{nothing_alike}

-- a continuation begins
pub rest_tables_start : (burden : Burden) (site : ℕ) (s : SiteTable) (p : BurdenedPath) (r : RegionTable) → sites.Tracks site (λ q. 0) [] [] s
    → ((b : Burden) → TracksWeight b [] [] p) → StartsRegions r → StartsTablesOfRest burden site
    (record { sites = s; path = p; regions = r; burden = burden; spawned = false })
rest_tables_start burden site s p r told weighs starts = λ tags.
    let t : Tables = record { sites = s; path = p; regions = r; burden = burden; spawned = false } in
    let along : Readings burden = record { path = path_in 0 site; burdened = weight_in burden; path_is = path_meters 0 site; burdened_is = weight_meters burden } in
    tables_told burden tags (Rest site) 0 [] [] t (record {
      sites = told;
      path = weighs burden;
      regions = record { along = along; path_is = λ qs fs. refl; burdened_is = λ qs fs. refl; tells = starts burden along tags };
      counted = record { work = refl; calls = λ q. omega arith; opened = omega arith; burdened = omega arith };
      burden_is = refl;
      spawned_is = refl;
    })

pub meter_rest_starts : (burden : Burden) (site : ℕ) (m : Meter) → StartsTablesOfRest burden site m.tables → m.parts.items ≡ [] → (tags : Tags) → Measured burden tags (Rest site) 0 [] [] m
meter_rest_starts burden site m starts e = λ tags. record {
  recorded_open = [];
  told = [];
  open_alike = tt;
  alike = alike_itself [];
  tables = starts tags;
  parts = let P : List Part → Type 0 = λ x. AreParts (Rest site) tags [] (reverse x) in subst P (sym e) tt;
}

-- the site of the innermost invocation
pub meter_here : (m : Meter) (burden : Burden) (tags : Tags) (from : Origin) (count : ℕ) (os : List Open) (es : List Event)
    → Measured burden tags from count os es m → m.tables.sites.here ≡ here_in (base_of from) os
meter_here m burden tags from count os es h = h.tables.sites.here_is ∙ sym (here_alike (base_of from) os h.recorded_open h.open_alike)

-- the tables of a continuation are appended
either_way : (b c : Bool) → c ≡ true → b || c ≡ true
either_way true c e = refl
either_way false c e = e

pub either_then : (a b s : Bool) → a ≡ true → s ≡ true → s ≡ a || b
either_then true b s e f = f
either_then false b s e f = cc

pub either_else : (a b s : Bool) → a ≡ false → s ≡ b → s ≡ a || b
either_else true b s e f = cc
either_else false b s e f = f

pub rest_taken_in : (old rest new : Tables) (first : Bool) → first ≡ not old.spawned → JoinsPiece old.sites rest.sites new.sites first
    → AppendsWeight old.path rest.path new.path first → JoinsRegions old.regions rest.regions new.regions → new.burden ≡ old.burden
    → new.spawned ≡ old.spawned || rest.spawned → TakesIn old rest new
rest_taken_in old rest new first f joins appends regions b s = λ burden tags from count cost os es fs small light n h g.
    let k = counted_rest burden from count cost (here_in (base_of from) os) os es fs h.counted g.counted in
    let w = small_run burden from (count + cost) os (es ++ fs) small k in
    let spawned : has_spawned es ≡ not first = sym h.spawned_is ∙ sym (not-not old.spawned) ∙ ap not (sym f) in
    record {
      sites = joins (base_of from) nothing_open os es fs spawned (either_way first (no_joins fs) n) w h.sites g.sites;
      path = appends burden os es fs spawned n w.work (fits_run burden from (count + cost) os (es ++ fs) small light k) h.path g.path;
      regions = record {
        along = h.regions.along;
        path_is = h.regions.path_is;
        burdened_is = h.regions.burdened_is;
        tells = regions burden h.regions.along g.regions.along tags nothing_open os es fs (small_tags burden tags from (count + cost) os (es ++ fs) small light k) h.regions.tells g.regions.tells;
      };
      counted = k;
      burden_is = b ∙ h.burden_is;
      spawned_is = s ∙ spawned_either old.spawned rest.spawned es fs n h.spawned_is g.spawned_is;
    }

-- the meter represents the run with the continuation appended, if all measures are counted
abbrev pub CountsRest : (old rest new : Meter) → (count cost : ℕ) → Type 0
CountsRest old rest new count cost =
    (burden : Burden) (tags : Tags) (from : Origin) (os : List Open) (es fs : List Event) → count + cost ≤ MOST_LIMIT → burden.charge ≤ MOST_BURDEN → no_joins fs ≡ true
    → Measured burden tags from count os es old → Measured burden tags (Rest (here_in (base_of from) os)) cost [] fs rest → Measured burden tags from (count + cost) os (es ++ fs) new

pub meter_rests : (old rest : Meter) (told settled new : Tables) (count cost : ℕ) → Settles rest.tables told cost → Settles old.tables settled count
    → TakesIn settled told new → CountsRest old rest (record old { tables = new }) count cost
meter_rests old rest told settled new count cost settles settles_ours takes = λ burden tags from os es fs small light n h g.
    let base = base_of from in
    let less : count ≤ MOST_LIMIT = omega arith in
    let apart : cost ≤ MOST_LIMIT = omega arith in
    let here : here_in base os ≡ here_in base h.recorded_open = here_alike base os h.recorded_open h.open_alike in
    let theirs = settles burden tags (Rest (here_in base os)) g.recorded_open g.told apart light g.tables in
    let O : List Open → Type 0 = λ x. AreUpToDate burden tags (Rest (here_in base os)) cost x g.told told in
    let H : ℕ → Type 0 = λ x. AreUpToDate burden tags (Rest x) cost [] g.told told in
    let both = takes burden tags from count cost h.recorded_open h.told g.told small light (sym g.alike.joins ∙ n)
    (settles_ours burden tags from h.recorded_open h.told less light h.tables) (subst H here (subst O (nothing_alike g.recorded_open g.open_alike) theirs)) in
    record {
      recorded_open = h.recorded_open;
      told = h.told ++ g.told;
      open_alike = h.open_alike;
      alike = alike_both es h.told fs g.told h.alike g.alike;
      tables = tables_told burden tags from (count + cost) h.recorded_open (h.told ++ g.told) new both;
      parts = h.parts;
    }
