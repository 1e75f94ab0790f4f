-- The measures that are read from the tables when a run has ended.
use Rattle.std.specs.Prelude.{◌≡◌, ℕ, zero, suc, ◌+◌, ◌≤◌, ◌<◌, false, List, [], ◌∷◌, ◌++◌, length, Some, slice_get, unwrap_or, refl}
use Rattle.std.proofs.Common.{sym, ◌∙◌, ap, subst, length-append, arith}
use Rattle.std.proofs.lemmas.Option.{slice_get_within}
use Rattle.cw_model.specs.Burdens.{no_burden}
use Rattle.cw_model.specs.declared.burden.Burden.{Burden}
use Rattle.cw_model.specs.declared.limits.TheConstants.{MOST_LIMIT, MOST_BURDEN}
use Rattle.cw_model.specs.Syntax.{Name}
use Rattle.cw_model.specs.Trees.{Tree, Leaf, Seq, Marked, Invocation, Event, Series, normal, tree_of, span}
use Rattle.cw_model.specs.TreeLaws.{Regrouped, back, further, nothing_after, ReadSame}
use Rattle.cw_model.specs.Rows as model
use Rattle.cw_model.specs.lemmas.Regrouping.{normal_is_regrouped, same_readings}
use Rattle.cw_measure.specs.OpenParts.{Open, has_spawned}
use Rattle.cw_measure.specs.StrandWeights.{ReadsWeight}
use Rattle.cw_sites.specs.declared.table.SiteTable.{SiteTable}
use Rattle.cw_sites.specs.declared.table.SiteRow as site
use Rattle.cw_sites.specs.ChosenPaths.{Path}
use Rattle.cw_sites.specs.OpenPaths.{path_in}
use Rattle.cw_sites.specs.StepLists.{strand_path}
use Rattle.cw_sites.specs.Tables.{ReadsPath}
use Rattle.cw_sites.specs.Tables as sites
use Rattle.cw_sites.specs.lemmas.ChosenPaths.{chosen-weight}
use Rattle.cw_sites.specs.lemmas.Tables.{all_runs_are_shown}
use Rattle.cw_regions.specs.declared.table.RegionRow as region
use Rattle.cw_regions.specs.Regions.{Tags}
use Rattle.cw_regions.specs.Regions as regions
use Rattle.cw_meter.specs.declared.meter.Meter.{Meter}
use Rattle.cw_meter.specs.declared.meter.Measures.{Measures}
use Rattle.cw_meter.specs.declared.tables.Tables.{Tables}
use Rattle.cw_meter.specs.Alike.{AreAlike, AreOpenAlike}
use Rattle.cw_meter.specs.Origins.{Main}
use Rattle.cw_meter.specs.Meters.{AreUpToDate, nothing_open}
use Rattle.cw_meter.specs.Moves.{ListsRegions, ListsSites}
use Rattle.cw_meter.specs.Tables.{Settles}
use Rattle.cw_meter.specs.Whole.{AreMeasures, HasNames, Reads}
use Rattle.cw_meter.proofs.AlikeLaws.{alike_trees}
use Rattle.cw_meter.proofs.Counting.{small_run}

pub nothing_alike : (ps : List Open) → AreOpenAlike [] ps → ps ≡ []
nothing_alike [] h = refl
nothing_alike (p ∷ ps) h = absurd h

-- one more row at the end of a list
at_push : {X : Type 0} (xs : List X) (x : X) (P : ℕ → X → Type 0) → ((k : ℕ) (y : X) → slice_get xs k ≡ Some y → P k y) → P (length xs) x
    → (k : ℕ) (y : X) → slice_get (xs ++ x ∷ []) k ≡ Some y → P k y
at_push [] x P h last zero y e = let Q = P zero in subst Q (ap (λ o. unwrap_or o x) e) last
at_push [] x P h last (suc k) y e = absurd (cc)
at_push (z ∷ xs) x P h last zero y e = h zero y e
at_push (z ∷ xs) x P h last (suc k) y e = at_push xs x (λ j. P (suc j)) (λ j y e. h (suc j) y e) last k y e

pub site_listed : (t : Tables) (count : ℕ) (old new : List site.SiteRow) (row : site.SiteRow) → ListsSites t count old → new ≡ old ++ row ∷ []
    → sites.ReadsSite t.sites count row → ListsSites t (count + 1) new
site_listed t count old new row h e reads =
    let P : ℕ → site.SiteRow → Type 0 = λ k y. sites.ReadsSite t.sites k y in
    let R : ℕ → Type 0 = λ k. P k row in
    let L : List site.SiteRow → Type 0 = λ x. (k : ℕ) (y : site.SiteRow) → slice_get x k ≡ Some y → P k y in
    let n = h.as_many in let m = length-append old (row ∷ []) in let same = ap (λ (x : List site.SiteRow). length x) e in
    record { as_many = omega arith; are = subst L (sym e) (at_push old row P h.are (subst R (sym h.as_many) reads)) }

pub region_listed : (t : Tables) (count : ℕ) (old new : List region.RegionRow) (row : region.RegionRow) → ListsRegions t count old
    → new ≡ old ++ row ∷ [] → regions.ReadsRegion t.regions count row → ListsRegions t (count + 1) new
region_listed t count old new row h e reads =
    let P : ℕ → region.RegionRow → Type 0 = λ k y. regions.ReadsRegion t.regions k y in
    let R : ℕ → Type 0 = λ k. P k row in
    let L : List region.RegionRow → Type 0 = λ x. (k : ℕ) (y : region.RegionRow) → slice_get x k ≡ Some y → P k y in
    let n = h.as_many in let m = length-append old (row ∷ []) in let same = ap (λ (x : List region.RegionRow). length x) e in
    record { as_many = omega arith; are = subst L (sym e) (at_push old row P h.are (subst R (sym h.as_many) reads)) }

pub no_sites : (t : Tables) (rows : List site.SiteRow) → rows ≡ [] → ListsSites t 0 rows
no_sites t rows e =
    let L : List site.SiteRow → Type 0 = λ x. ListsSites t 0 x in subst L (sym e) (record { as_many = refl; are = λ k row at. absurd (cc) })

pub no_regions : (t : Tables) (rows : List region.RegionRow) → rows ≡ [] → ListsRegions t 0 rows
no_regions t rows e =
    let L : List region.RegionRow → Type 0 = λ x. ListsRegions t 0 x in subst L (sym e) (record { as_many = refl; are = λ k row at. absurd (cc) })

-- the weight of the path of a whole run is its span
span_is : (es : List Event) (t : SiteTable) → has_spawned es ≡ false → sites.Tracks 0 nothing_open [] es t → path_in 0 0 [] es ≡ span (tree_of es)
span_is es t n h =
    let shown = h.paths 0 in
    let weight = λ (x : Path). x.weight in
    sym (ap weight shown.now_is) ∙ ap weight ((all_runs_are_shown 0 0).end es (strand_path 0 t.paths) n shown) ∙ chosen-weight 0 0 (tree_of es)

-- the tree that the tables represent is the tree of the run, grouped in another way
whole_tree : (t : Tree) (es : List Event) → AreAlike (Series t ∷ []) es → Regrouped (normal t) (tree_of es)
whole_tree t es h =
    let alone : Regrouped (tree_of (Series t ∷ [])) t = further (nothing_after (Seq t (Leaf 0))) (nothing_after t) in
    further (normal_is_regrouped t) (further (back alone) (alike_trees (Series t ∷ []) es h))

same_site : (row : site.SiteRow) (a b : model.SiteRow) → b ≡ a → sites.IsRow row a → sites.IsRow row b
same_site row a b e h = let P : model.SiteRow → Type 0 = λ x. sites.IsRow row x in subst P (sym e) h

same_region : (row : region.RegionRow) (a b : model.RegionRow) → b ≡ a → regions.IsRow row a → regions.IsRow row b
same_region row a b e h = let P : model.RegionRow → Type 0 = λ x. regions.IsRow row x in subst P (sym e) h

-- all measures of a run that the tables represent
measures_told : (burden : Burden) (count sites : ℕ) (by_number : Tags) (names : List Name) (t : Tables) (whole : Tree) (es : List Event)
    (all : Measures) → count ≤ MOST_LIMIT → burden.charge ≤ MOST_BURDEN → HasNames by_number names → AreUpToDate burden by_number Main count [] es t
    → has_spawned es ≡ false → ReadSame whole (tree_of es) → all.measure.work ≡ count → ReadsPath t.sites all.measure.span
    → ReadsWeight t.path all.measure.burdened → ListsSites t sites all.sites.items → ListsRegions t (length names) all.regions.items
    → AreMeasures burden sites names whole all
measures_told burden count most by_number names t whole es all small light named a n r work path heavy rows tags = record {
  measure = record {
    work = work ∙ sym a.counted.work ∙ sym r.same_work;
    span = path 0 0 nothing_open [] es a.sites ∙ span_is es t.sites n a.sites ∙ sym (r.same_span no_burden);
    burdened = heavy burden es n a.path ∙ sym (r.same_span burden);
  };
  sites = record {
    as_many = rows.as_many;
    are = λ number row at. same_site row (model.site_row number (tree_of es)) (model.site_row number whole) (r.same_site_row number)
        (rows.are number row at nothing_open es refl n (small_run burden Main count [] es small a.counted) a.sites);
  };
  regions = record {
    as_many = tags.as_many;
    are = λ number row tag at name_at.
        let inside = slice_get_within names number tag name_at in
        let many = named.count in
        let known : number < by_number.count = omega arith in
        let read = tags.are number row at burden a.regions.along by_number nothing_open es known refl a.regions.tells in
        let P : Name → Type 0 = λ x. regions.IsRow row (model.region_row burden x (tree_of es)) in
        same_region row (model.region_row burden tag (tree_of es)) (model.region_row burden tag whole) (r.same_region_row burden tag) (subst P (named.are number tag name_at) read);
  };
}

pub meter_reads : (m : Meter) (t : Tables) (count sites tags : ℕ) (all : Measures) → Settles m.tables t count → all.measure.work ≡ count
    → ReadsPath t.sites all.measure.span → ReadsWeight t.path all.measure.burdened → ListsSites t sites all.sites.items
    → ListsRegions t tags all.regions.items → Reads m count sites tags all
meter_reads m t count sites tags all settles work path heavy rows regions_are = λ burden by_number names es small light named many h.
    let whole = Marked (Invocation 0) (tree_of es) in
    let O : List Open → Type 0 = λ x. AreUpToDate burden by_number Main count x h.1.told t in
    let L : ℕ → Type 0 = λ x. ListsRegions t x all.regions.items in
    let a = subst O (nothing_alike h.1.recorded_open h.1.open_alike) (settles burden by_number Main h.1.recorded_open h.1.told small light h.1.tables) in
    measures_told burden count sites by_number names t (normal whole) h.1.told all small light named a (sym h.1.alike.spawned)
    (same_readings (normal whole) (tree_of h.1.told) (whole_tree whole h.1.told h.1.alike)) work path heavy rows (subst L (sym many) regions_are)
