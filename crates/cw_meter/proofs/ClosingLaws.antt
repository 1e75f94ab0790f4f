-- A part of a run ends, and the tables record it.
use Rattle.std.specs.Prelude.{◌≡◌, ℕ, ◌≤◌, Bool, true, false, List, [], ◌∷◌, Option, Some, None, refl}
use Rattle.std.proofs.Common.{sym, ◌∙◌, subst}
use Rattle.std.proofs.lemmas.List.{append-nil}
use Rattle.cw_model.specs.declared.burden.Burden.{Burden}
use Rattle.cw_model.specs.declared.limits.TheConstants.{MOST_LIMIT, MOST_BURDEN}
use Rattle.cw_model.specs.Trees.{Mark, Invocation, Execution, Event, Series, Fork, tree_of}
use Rattle.cw_measure.specs.declared.burdened_path.BurdenedPath.{BurdenedPath}
use Rattle.cw_measure.specs.OpenParts.{Open, marked, closed, has_spawned}
use Rattle.cw_measure.specs.StrandWeights.{TracksWeight, LatePathsWait, RecordsLate, EndsChildWeight}
use Rattle.cw_measure.specs.lemmas.OpenParts.{spawned_append}
use Rattle.cw_measure.specs.lemmas.StrandWeights.{series_need_no_call, late_ended}
use Rattle.cw_sites.specs.declared.table.SiteTable.{SiteTable}
use Rattle.cw_sites.specs.Tables.{Leaves, EndsChild, EndsHalf, ReadsPath}
use Rattle.cw_sites.specs.Tables as sites
use Rattle.cw_sites.specs.lemmas.Tables.{quiet_parts}
use Rattle.cw_regions.specs.declared.table.RegionTable.{RegionTable}
use Rattle.cw_regions.specs.Regions.{Tags}
use Rattle.cw_regions.specs.Regions as regions
use Rattle.cw_meter.specs.Origins.{Origin, base_of}
use Rattle.cw_meter.specs.declared.tables.Tables.{Tables}
use Rattle.cw_meter.specs.declared.parts.PartKind.{PartKind}
use Rattle.cw_meter.specs.declared.parts.PartKind.TheVariants as kind
use Rattle.cw_meter.specs.declared.parts.Part.{Part}
use Rattle.cw_meter.specs.Meters.{TablesTrackLate, nothing_open}
use Rattle.cw_meter.specs.Parts.{IsOfKind, IsPart}
use Rattle.cw_meter.specs.Tables.{Closes, Settles, opened}
use Rattle.cw_meter.proofs.Counting.{counted_closed, small_tags}
use Rattle.cw_meter.proofs.TableLaws.{tables_told, tables_late, tags_closed, told_spawned, sites_since, told_small, path_told, path_waits, none_since, fits_now, with_tables, with_regions}

-- the tables represent the run after a part with this mark has ended
abbrev Ended : (t new : Tables) (count : ℕ) (burden : Burden) (tags : Tags) (from : Origin) (os : List Open) (es : List Event) → Open → Type 0
Ended t new count burden tags from os es o = TablesTrackLate burden tags from count (o ∷ os) es t → TablesTrackLate burden tags from count os (closed o es) new

-- a part is determined by its spawned flag and its mark
of_mark : (P : Open → Type 0) (o : Open) (spawned : Bool) (mark : Option Mark) → o.spawned ≡ spawned → o.mark ≡ mark → P (record { spawned = spawned; mark = mark; outer = o.outer }) → P o
of_mark P o spawned mark e f h =
    let A : Option Mark → Type 0 = λ x. P (record { spawned = spawned; mark = x; outer = o.outer }) in
    let B : Bool → Type 0 = λ x. P (record { spawned = x; mark = o.mark; outer = o.outer }) in subst B (sym e) (subst A (sym f) h)

kind_of : (from : Origin) (tags : Tags) (o : Open) (os : List Open) (part : Part) (k : PartKind) → part.kind ≡ k → IsPart from tags o os part → IsOfKind tags o k
kind_of from tags o os part k e h = let P : PartKind → Type 0 = λ x. IsOfKind tags o x in subst P e h.kind

-- the block that continues has spawned exactly if it had before, if the part was not spawned
goes_on : (mark : Option Mark) (before es : List Event) (b : Bool) → b ≡ has_spawned before → b ≡ has_spawned (closed (record { spawned = false; mark = mark; outer = before }) es)
goes_on mark before es b e = e ∙ sym (spawned_append false before (Series (marked mark (tree_of es)) ∷ []))

has_now : (mark : Option Mark) (before es : List Event) → true ≡ has_spawned (closed (record { spawned = true; mark = mark; outer = before }) es)
has_now mark before es = sym (spawned_append false before (Fork (marked mark (tree_of es)) ∷ []))

joined_now : (burden : Burden) (tags : Tags) (from : Origin) (count : ℕ) (os : List Open) (es : List Event) (t : Tables) → t.spawned ≡ false
    → TablesTrackLate burden tags from count os es t → has_spawned es ≡ false
joined_now burden tags from count os es t e h = sym h.spawned_is ∙ e

-- a plain call ends
pub call_closed : (t : Tables) (s : SiteTable) (count : ℕ) (part : Part) → Leaves t.sites s count part.site → LatePathsWait → part.kind ≡ kind.Call
    → Closes t (with_tables t s t.path part.spawned) count part
call_closed t s count part leaves waits e = λ burden tags from o os es is joined small light.
    let k = kind_of from tags o os part kind.Call e is in
    of_mark (Ended t (with_tables t s t.path part.spawned) count burden tags from os es) o false (Some (Invocation k.1.0)) k.0 k.1.1 (λ h.
    let site = k.1.0 in
    let mark : Option Mark = Some (Invocation site) in
    let this : Open = record { spawned = false; mark = mark; outer = o.outer } in
    let here = opened false mark o.outer os in
    let S : List Event → Type 0 = λ x. sites.Tracks (base_of from) nothing_open os (closed this x) s in
    tables_late burden tags from count os (closed this es) (with_tables t s t.path part.spawned)
    (subst S h.all (leaves (base_of from) nothing_open os o.outer h.told h.since site (sites_since burden tags from count here es t h)
    (told_spawned burden tags from count here es t h ∙ joined) is.site (told_small burden tags from count here es t h small) h.sites))
    (late_ended burden this os es t.path refl (joined_now burden tags from count here es t joined h) (path_waits burden tags from count here es t waits small light h))
    (tags_closed burden tags from false mark o.outer os es t.regions tt h.regions)
    (counted_closed burden from count this os es h.counted) h.burden_is (goes_on mark o.outer es part.spawned is.spawned))

-- the path of a spawned part that ends
child_path : (burden : Burden) (tags : Tags) (from : Origin) (count : ℕ) (mark : Option Mark) (before : List Event) (os : List Open)
    (es : List Event) (t : Tables) (m p : BurdenedPath) → RecordsLate t.path m count → EndsChildWeight m p count t.burden → t.spawned ≡ false
    → count ≤ MOST_LIMIT → burden.charge ≤ MOST_BURDEN → TablesTrackLate burden tags from count (opened true mark before os) es t
    → TracksWeight burden os (closed (record { spawned = true; mark = mark; outer = before }) es) p
child_path burden tags from count mark before os es t m p notes ends joined small light h =
    let here = opened true mark before os in
    let o : Open = record { spawned = true; mark = mark; outer = before } in
    let P : List Event → Type 0 = λ x. TracksWeight burden os (closed o x) p in
    let E : Burden → Type 0 = λ x. EndsChildWeight m p count x in
    let told = path_told burden tags from count here es t m notes small light h in
    subst P (append-nil es) (subst E h.burden_is ends o os es [] (none_since burden from count here es m h.counted told)
    (fits_now burden tags from count here es t h small light) refl (joined_now burden tags from count here es t joined h) told)

pub spawned_call_closed : (t : Tables) (s : SiteTable) (m p : BurdenedPath) (count : ℕ) (part : Part) → EndsChild t.sites s count part.site
    → RecordsLate t.path m count → EndsChildWeight m p count t.burden → part.kind ≡ kind.SpawnedCall → Closes t (with_tables t s p true) count part
spawned_call_closed t s m p count part ends notes heavier e = λ burden tags from o os es is joined small light.
    let k = kind_of from tags o os part kind.SpawnedCall e is in
    of_mark (Ended t (with_tables t s p true) count burden tags from os es) o true (Some (Invocation k.1.0)) k.0 k.1.1 (λ h.
    let site = k.1.0 in
    let mark : Option Mark = Some (Invocation site) in
    let here = opened true mark o.outer os in
    let S : List Event → Type 0 = λ x. sites.Tracks (base_of from) nothing_open os (closed (record { spawned = true; mark = mark; outer = o.outer }) x) s in
    tables_told burden tags from count os (closed (record { spawned = true; mark = mark; outer = o.outer }) es) (with_tables t s p true) (record {
      sites = subst S h.all (ends (base_of from) nothing_open os o.outer h.told h.since site (sites_since burden tags from count here es t h)
          (told_spawned burden tags from count here es t h ∙ joined) is.site (told_small burden tags from count here es t h small) h.sites);
      path = child_path burden tags from count mark o.outer os es t m p notes heavier joined small light h;
      regions = tags_closed burden tags from true mark o.outer os es t.regions tt h.regions;
      counted = counted_closed burden from count (record { spawned = true; mark = mark; outer = o.outer }) os es h.counted;
      burden_is = h.burden_is;
      spawned_is = has_now mark o.outer es;
    }))

pub half_closed : (t : Tables) (s : SiteTable) (m p : BurdenedPath) (count : ℕ) (part : Part) → EndsHalf t.sites s count → RecordsLate t.path m count
    → EndsChildWeight m p count t.burden → part.kind ≡ kind.Half → Closes t (with_tables t s p true) count part
half_closed t s m p count part ends notes heavier e = λ burden tags from o os es is joined small light.
    let k = kind_of from tags o os part kind.Half e is in
    of_mark (Ended t (with_tables t s p true) count burden tags from os es) o true None k.0 k.1 (λ h.
    let here = opened true None o.outer os in
    let S : List Event → Type 0 = λ x. sites.Tracks (base_of from) nothing_open os (closed (record { spawned = true; mark = None; outer = o.outer }) x) s in
    tables_told burden tags from count os (closed (record { spawned = true; mark = None; outer = o.outer }) es) (with_tables t s p true) (record {
      sites = subst S h.all (ends (base_of from) nothing_open None os o.outer h.told h.since tt (sites_since burden tags from count here es t h)
          (told_spawned burden tags from count here es t h ∙ joined) (told_small burden tags from count here es t h small) h.sites);
      path = child_path burden tags from count None o.outer os es t m p notes heavier joined small light h;
      regions = tags_closed burden tags from true None o.outer os es t.regions tt h.regions;
      counted = counted_closed burden from count (record { spawned = true; mark = None; outer = o.outer }) os es h.counted;
      burden_is = h.burden_is;
      spawned_is = has_now None o.outer es;
    }))

pub quiet_closed : (t now : Tables) (count : ℕ) (part : Part) → Settles t now count → part.kind ≡ kind.Quiet → Closes t (with_tables now now.sites now.path part.spawned) count part
quiet_closed t now count part settles e = λ burden tags from o os es is joined small light.
    let k = kind_of from tags o os part kind.Quiet e is in
    of_mark (Ended t (with_tables now now.sites now.path part.spawned) count burden tags from os es) o false None k.0 k.1 (λ h.
    let a = settles burden tags from (opened false None o.outer os) es small light h in
    let n = joined_now burden tags from count (opened false None o.outer os) es t joined h in
    tables_told burden tags from count os (closed (record { spawned = false; mark = None; outer = o.outer }) es) (with_tables now now.sites now.path part.spawned) (record {
      sites = (quiet_parts (base_of from) nothing_open os now.sites).ends None o.outer es tt n a.sites;
      path = (series_need_no_call burden now.path).ends (record { spawned = false; mark = None; outer = o.outer }) os es refl n a.path;
      regions = tags_closed burden tags from false None o.outer os es now.regions tt a.regions;
      counted = counted_closed burden from count (record { spawned = false; mark = None; outer = o.outer }) os es a.counted;
      burden_is = a.burden_is;
      spawned_is = goes_on None o.outer es part.spawned is.spawned;
    }))

pub region_closed : (t now : Tables) (r : RegionTable) (count tag path heavy : ℕ) (part : Part) → Settles t now count → ReadsPath now.sites path
    → heavy ≡ now.path.weight → regions.EndsRegion now.regions r tag count path heavy → part.kind ≡ kind.Region tag
    → Closes t (with_regions now r part.spawned) count part
region_closed t now r count tag path heavy part settles reads weighs ends e = λ burden tags from o os es is joined small light.
    let k = kind_of from tags o os part (kind.Region tag) e is in
    of_mark (Ended t (with_regions now r part.spawned) count burden tags from os es) o false (Some (Execution (tags.name tag))) k.0 k.2 (λ h.
    let mark : Option Mark = Some (Execution (tags.name tag)) in
    let here = opened false mark o.outer os in
    let a = settles burden tags from here es small light h in
    let n = joined_now burden tags from count here es t joined h in
    tables_told burden tags from count os (closed (record { spawned = false; mark = mark; outer = o.outer }) es) (with_regions now r part.spawned) (record {
      sites = (quiet_parts (base_of from) nothing_open os now.sites).ends mark o.outer es tt n a.sites;
      path = (series_need_no_call burden now.path).ends (record { spawned = false; mark = mark; outer = o.outer }) os es refl n a.path;
      regions = record {
        along = a.regions.along;
        path_is = a.regions.path_is;
        burdened_is = a.regions.burdened_is;
        tells =
            ends burden a.regions.along tags nothing_open os o.outer es k.1 (sym a.counted.work) (reads 0 (base_of from) nothing_open here es a.sites ∙ sym (a.regions.path_is here es))
            (weighs ∙ a.path.shows.now_is ∙ sym (a.regions.burdened_is here es)) n (small_tags burden tags from count here es small light a.counted) a.regions.tells;
      };
      counted = counted_closed burden from count (record { spawned = false; mark = mark; outer = o.outer }) os es a.counted;
      burden_is = a.burden_is;
      spawned_is = goes_on mark o.outer es part.spawned is.spawned;
    }))
