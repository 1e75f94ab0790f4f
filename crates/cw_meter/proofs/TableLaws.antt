-- The tables of a run record its events together.
use Rattle.std.specs.Prelude.{◌≡◌, ℕ, ◌+◌, ◌-◌, ◌≤◌, Bool, true, false, not, List, [], ◌∷◌, ◌++◌, Option, Some, None, refl}
use Rattle.std.proofs.Common.{sym, ◌∙◌, ap, subst, arith}
use Rattle.std.proofs.lemmas.List.{append-nil, append_assoc}
use Rattle.std.proofs.Math.Bool.{not-not}
use Rattle.cw_model.specs.declared.burden.Burden.{Burden}
use Rattle.cw_model.specs.declared.limits.TheConstants.{MOST_LIMIT, MOST_BURDEN}
use Rattle.cw_model.specs.Trees.{Mark, Invocation, Execution, Event, Work, Series, Fork, Join}
use Rattle.cw_measure.specs.declared.burdened_path.BurdenedPath.{BurdenedPath}
use Rattle.cw_measure.specs.OpenParts.{Open, closed, has_spawned, IsSince, Since, work_in}
use Rattle.cw_measure.specs.StrandWeights.{TracksLate, TracksWeight, FitsRun, LatePathsWait, RecordsLate, SpawnsWeight, JoinsWeight}
use Rattle.cw_measure.specs.lemmas.OpenParts.{spawned_append, has_spawned-work, has_spawned_since}
use Rattle.cw_measure.specs.lemmas.StrandWeights.{series_need_no_call, told_late, late_begun}
use Rattle.cw_sites.specs.declared.table.SiteTable.{SiteTable}
use Rattle.cw_sites.specs.Tables.{Small, RecordsUpTo, Enters, Spawns, SpawnsHalf, Joins, ReadsPath}
use Rattle.cw_sites.specs.Tables as sites
use Rattle.cw_sites.specs.lemmas.Tables.{quiet_parts}
use Rattle.cw_regions.specs.declared.table.RegionTable.{RegionTable}
use Rattle.cw_regions.specs.Regions.{Tags, IsNoExecution}
use Rattle.cw_regions.specs.Regions as regions
use Rattle.cw_regions.specs.lemmas.Regions.{regions_need_no_call}
use Rattle.cw_meter.specs.Origins.{Origin, base_of}
use Rattle.cw_meter.specs.declared.tables.Tables.{Tables}
use Rattle.cw_meter.specs.Meters.{AreUpToDate, IsCounted, TablesTrackLate, TracksTags, nothing_open, ticked}
use Rattle.cw_meter.specs.Tables.{JoinsSpawned, Opens, OpensRegion, Settles, opened}
use Rattle.cw_meter.proofs.Counting.{counted_ticked, counted_joined, small_run, fits_run, small_tags}

-- events that are not yet included are followed by more events
more_is : (told since gs es : List Event) → told ++ since ≡ es → told ++ (since ++ gs) ≡ es ++ gs
more_is told since gs es e = sym (append_assoc told since gs) ∙ ap (λ (x : List Event). x ++ gs) e

since_work : (b : Bool) (fs : List Event) (k j : ℕ) → IsSince b fs k → IsSince b (fs ++ Work j ∷ []) (k + j)
since_work b [] k j s = (omega arith, omega arith)
since_work b (Work i ∷ fs) k j s =
    let le = s.0 in
    let P : ℕ → Type 0 = λ x. IsSince b (fs ++ Work j ∷ []) x in
    let e : (k - i) + j ≡ (k + j) - i = omega arith in (omega arith, subst P e (since_work b fs (k - i) j s.1))
since_work b (Join ∷ fs) k j s = (s.0, since_work b fs k j s.1)
since_work b (Series t ∷ fs) k j s = absurd s
since_work b (Fork t ∷ fs) k j s = absurd s

since_join : (b : Bool) (fs : List Event) (k : ℕ) → b ≡ false → IsSince b fs k → IsSince b (fs ++ Join ∷ []) k
since_join b [] k e s = (e, s)
since_join b (Work i ∷ fs) k e s = (s.0, since_join b fs (k - i) e s.1)
since_join b (Join ∷ fs) k e s = (s.0, since_join b fs k e s.1)
since_join b (Series t ∷ fs) k e s = absurd s
since_join b (Fork t ∷ fs) k e s = absurd s

-- the region tables as the run continues
tags_ticked : (burden : Burden) (tags : Tags) (from : Origin) (os : List Open) (es : List Event) (r : RegionTable) (k : ℕ)
    → TracksTags burden tags from os es r → TracksTags burden tags from os (es ++ Work k ∷ []) r
tags_ticked burden tags from os es r k h = record {
  along = h.along;
  path_is = h.path_is;
  burdened_is = h.burdened_is;
  tells = (regions_need_no_call burden h.along tags nothing_open os r).work es k h.tells;
}

tags_joined : (burden : Burden) (tags : Tags) (from : Origin) (os : List Open) (es : List Event) (r : RegionTable)
    → TracksTags burden tags from os es r → TracksTags burden tags from os (es ++ Join ∷ []) r
tags_joined burden tags from os es r h = record {
  along = h.along;
  path_is = h.path_is;
  burdened_is = h.burdened_is;
  tells = (regions_need_no_call burden h.along tags nothing_open os r).join es h.tells;
}

pub tags_opened : (burden : Burden) (tags : Tags) (from : Origin) (spawned : Bool) (mark : Option Mark) (os : List Open) (es : List Event)
    (r : RegionTable) → IsNoExecution mark → TracksTags burden tags from os es r → TracksTags burden tags from (opened spawned mark es os) [] r
tags_opened burden tags from spawned mark os es r quiet h = record {
  along = h.along;
  path_is = h.path_is;
  burdened_is = h.burdened_is;
  tells = (regions_need_no_call burden h.along tags nothing_open os r).begins (record { spawned = spawned; mark = mark; outer = es }) quiet h.tells;
}

pub tags_closed : (burden : Burden) (tags : Tags) (from : Origin) (spawned : Bool) (mark : Option Mark) (before : List Event) (os : List Open)
    (es : List Event) (r : RegionTable) → IsNoExecution mark → TracksTags burden tags from (opened spawned mark before os) es r
    → TracksTags burden tags from os (closed (record { spawned = spawned; mark = mark; outer = before }) es) r
tags_closed burden tags from spawned mark before os es r quiet h = record {
  along = h.along;
  path_is = h.path_is;
  burdened_is = h.burdened_is;
  tells = (regions_need_no_call burden h.along tags nothing_open os r).ends (record { spawned = spawned; mark = mark; outer = before }) es quiet h.tells;
}

-- whether the events that are included have spawned
pub told_spawned : (burden : Burden) (tags : Tags) (from : Origin) (count : ℕ) (os : List Open) (es : List Event) (t : Tables)
    (h : TablesTrackLate burden tags from count os es t) → has_spawned h.told ≡ t.spawned
told_spawned burden tags from count os es t h =
    sym (has_spawned_since h.told h.since (count - work_in os h.told) h.waits.instructions) ∙ ap has_spawned_of h.all ∙ sym h.spawned_is
  where
    has_spawned_of : List Event → Bool
    has_spawned_of x = has_spawned x

-- an instruction, and a join of a block that has not spawned, need no call
pub tables_ticked : (burden : Burden) (tags : Tags) (from : Origin) (count : ℕ) (os : List Open) (es : List Event) (t : Tables)
    → TablesTrackLate burden tags from count os es t → TablesTrackLate burden tags from (count + 1) os (ticked es) t
tables_ticked burden tags from count os es t h = record {
  told = h.told;
  since = h.since ++ Work 1 ∷ [];
  all = more_is h.told h.since (Work 1 ∷ []) es h.all;
  waits =
      let le = h.waits.goes_on in
      let P : ℕ → Type 0 = λ x. IsSince (has_spawned h.told) (h.since ++ Work 1 ∷ []) x in
      let e : (count - work_in os h.told) + 1 ≡ (count + 1) - work_in os h.told = omega arith in
      record { goes_on = omega arith; instructions = subst P e (since_work (has_spawned h.told) h.since (count - work_in os h.told) 1 h.waits.instructions) };
  sites = h.sites;
  path = h.path;
  regions = tags_ticked burden tags from os es t.regions 1 h.regions;
  counted = counted_ticked burden from count os es h.counted;
  burden_is = h.burden_is;
  spawned_is = h.spawned_is ∙ sym (has_spawned-work es 1);
}

pub tables_unspawned : (burden : Burden) (tags : Tags) (from : Origin) (count : ℕ) (os : List Open) (es : List Event) (t : Tables)
    → t.spawned ≡ false → TablesTrackLate burden tags from count os es t → TablesTrackLate burden tags from count os (es ++ Join ∷ []) t
tables_unspawned burden tags from count os es t e h = record {
  told = h.told;
  since = h.since ++ Join ∷ [];
  all = more_is h.told h.since (Join ∷ []) es h.all;
  waits = record {
    goes_on = h.waits.goes_on;
    instructions = since_join (has_spawned h.told) h.since (count - work_in os h.told) (told_spawned burden tags from count os es t h ∙ e) h.waits.instructions;
  };
  sites = h.sites;
  path = h.path;
  regions = tags_joined burden tags from os es t.regions h.regions;
  counted = counted_joined burden from count os es h.counted;
  burden_is = h.burden_is;
  spawned_is = e ∙ sym (spawned_append false es (Join ∷ []));
}

-- tables that include all events; the heaviest path includes the last ones late
pub tables_late : (burden : Burden) (tags : Tags) (from : Origin) (count : ℕ) (os : List Open) (es : List Event) (t : Tables)
    → sites.Tracks (base_of from) nothing_open os es t.sites → TracksLate burden os es t.path → TracksTags burden tags from os es t.regions
    → IsCounted burden from count os es → t.burden ≡ burden → t.spawned ≡ has_spawned es → TablesTrackLate burden tags from count os es t
tables_late burden tags from count os es t rows path regions counted b s = record {
  told = es;
  since = [];
  all = append-nil es;
  waits = let w = counted.work in record { goes_on = omega arith; instructions = omega arith };
  sites = rows;
  path = path;
  regions = regions;
  counted = counted;
  burden_is = b;
  spawned_is = s;
}

pub tables_told : (burden : Burden) (tags : Tags) (from : Origin) (count : ℕ) (os : List Open) (es : List Event) (t : Tables)
    → AreUpToDate burden tags from count os es t → TablesTrackLate burden tags from count os es t
tables_told burden tags from count os es t h = tables_late burden tags from count os es t h.sites (told_late burden os es t.path h.path) h.regions h.counted h.burden_is h.spawned_is

-- the events that each table does not yet include
pub sites_since : (burden : Burden) (tags : Tags) (from : Origin) (count : ℕ) (os : List Open) (es : List Event) (t : Tables)
    (h : TablesTrackLate burden tags from count os es t) → Since t.sites.noted count h.told h.since
sites_since burden tags from count os es t h = let P : ℕ → Type 0 = λ x. Since x count h.told h.since in subst P (sym h.sites.noted_is) h.waits

pub told_small : (burden : Burden) (tags : Tags) (from : Origin) (count : ℕ) (os : List Open) (es : List Event) (t : Tables)
    (h : TablesTrackLate burden tags from count os es t) → count ≤ MOST_LIMIT → Small nothing_open os (h.told ++ h.since)
told_small burden tags from count os es t h small = let P : List Event → Type 0 = λ x. Small nothing_open os x in subst P (sym h.all) (small_run burden from count os es small h.counted)

pub told_fits : (burden : Burden) (tags : Tags) (from : Origin) (count : ℕ) (os : List Open) (es : List Event) (t : Tables)
    (h : TablesTrackLate burden tags from count os es t) → count ≤ MOST_LIMIT → burden.charge ≤ MOST_BURDEN → FitsRun burden os (h.told ++ h.since)
told_fits burden tags from count os es t h small light = let P : List Event → Type 0 = λ x. FitsRun burden os x in subst P (sym h.all) (fits_run burden from count os es small light h.counted)

pub path_told : (burden : Burden) (tags : Tags) (from : Origin) (count : ℕ) (os : List Open) (es : List Event) (t : Tables) (p : BurdenedPath)
    → RecordsLate t.path p count → count ≤ MOST_LIMIT → burden.charge ≤ MOST_BURDEN → TablesTrackLate burden tags from count os es t → TracksWeight burden os es p
path_told burden tags from count os es t p notes small light h =
    let P : List Event → Type 0 = λ x. TracksWeight burden os x p in
    subst P h.all (notes burden os h.told h.since h.waits (told_fits burden tags from count os es t h small light) h.path)

-- the heaviest path, if it is not updated
pub path_waits : (burden : Burden) (tags : Tags) (from : Origin) (count : ℕ) (os : List Open) (es : List Event) (t : Tables) → LatePathsWait
    → count ≤ MOST_LIMIT → burden.charge ≤ MOST_BURDEN → TablesTrackLate burden tags from count os es t → TracksLate burden os es t.path
path_waits burden tags from count os es t waits small light h =
    let P : List Event → Type 0 = λ x. TracksLate burden os x t.path in
    subst P h.all (waits burden os h.told h.since t.path count h.waits (told_fits burden tags from count os es t h small light) h.path)

-- no event follows the last update of a path
pub none_since : (burden : Burden) (from : Origin) (count : ℕ) (os : List Open) (es : List Event) (p : BurdenedPath)
    → IsCounted burden from count os es → TracksWeight burden os es p → Since p.noted count es []
none_since burden from count os es p counted h = let w = counted.work in let n = h.noted_is in record { goes_on = omega arith; instructions = omega arith }

pub fits_now : (burden : Burden) (tags : Tags) (from : Origin) (count : ℕ) (os : List Open) (es : List Event) (t : Tables)
    → TablesTrackLate burden tags from count os es t → count ≤ MOST_LIMIT → burden.charge ≤ MOST_BURDEN → FitsRun burden os (es ++ [])
fits_now burden tags from count os es t h small light = let P : List Event → Type 0 = λ x. FitsRun burden os x in subst P (sym (append-nil es)) (fits_run burden from count os es small light h.counted)

-- tables with these sites, this path, and this flag of the current block
abbrev pub with_tables : Tables → SiteTable → BurdenedPath → (spawned : Bool) → Tables
with_tables t s p spawned = record { sites = s; path = p; regions = t.regions; burden = t.burden; spawned = spawned }

abbrev pub with_regions : Tables → RegionTable → (spawned : Bool) → Tables
with_regions t r spawned = record { sites = t.sites; path = t.path; regions = r; burden = t.burden; spawned = spawned }

-- all events are included
pub tables_settled : (t : Tables) (s : SiteTable) (p : BurdenedPath) (count : ℕ) → RecordsUpTo t.sites s count → RecordsLate t.path p count → Settles t (with_tables t s p t.spawned) count
tables_settled t s p count notes heavier = λ burden tags from os es small light h. record {
  sites =
      let P : List Event → Type 0 = λ x. sites.Tracks (base_of from) nothing_open os x s in
      subst P h.all (notes (base_of from) nothing_open os h.told h.since (sites_since burden tags from count os es t h) (told_small burden tags from count os es t h small) h.sites);
  path = path_told burden tags from count os es t p heavier small light h;
  regions = h.regions;
  counted = h.counted;
  burden_is = h.burden_is;
  spawned_is = h.spawned_is;
}

-- a call begins
pub call_opened : (t : Tables) (s : SiteTable) (count site : ℕ) → Enters t.sites s count site → LatePathsWait → Opens t (with_tables t s t.path false) count false (Some (Invocation site))
call_opened t s count site enters waits = λ burden tags from os es k small light h.
    let mark : Option Mark = Some (Invocation site) in
    let P : List Event → Type 0 = λ x. sites.Tracks (base_of from) nothing_open (opened false mark x os) [] s in
    let S : List Event → Type 0 = λ x. Small nothing_open (opened false mark x os) [] in
    tables_late burden tags from count (opened false mark es os) [] (with_tables t s t.path false)
    (subst P h.all (enters (base_of from) nothing_open os h.told h.since (sites_since burden tags from count os es t h)
    (subst S (sym h.all) (small_run burden from count (opened false mark es os) [] small k)) h.sites))
    (late_begun burden mark os es t.path (path_waits burden tags from count os es t waits small light h))
    (tags_opened burden tags from false mark os es t.regions tt h.regions) k h.burden_is refl

-- a spawned part begins, by the rule of one table
spawned_path : (burden : Burden) (tags : Tags) (from : Origin) (count : ℕ) (os : List Open) (es : List Event) (t : Tables) (m p : BurdenedPath)
    (mark : Option Mark) → RecordsLate t.path m count → SpawnsWeight m p count (not t.spawned) → count ≤ MOST_LIMIT → burden.charge ≤ MOST_BURDEN
    → TablesTrackLate burden tags from count os es t → TracksWeight burden (opened true mark es os) [] p
spawned_path burden tags from count os es t m p mark notes spawns small light h =
    let P : List Event → Type 0 = λ x. TracksWeight burden (opened true mark x os) [] p in
    let told = path_told burden tags from count os es t m notes small light h in
    subst P (append-nil es) (spawns burden mark os es [] (none_since burden from count os es m h.counted told)
    (fits_now burden tags from count os es t h small light) (sym h.spawned_is ∙ sym (not-not t.spawned)) told)

pub spawned_call_opened : (t : Tables) (s : SiteTable) (m p : BurdenedPath) (count site : ℕ) → Spawns t.sites s count site (not t.spawned)
    → RecordsLate t.path m count → SpawnsWeight m p count (not t.spawned) → Opens t (with_tables t s p false) count true (Some (Invocation site))
spawned_call_opened t s m p count site spawns notes heavier = λ burden tags from os es k small light h.
    let mark : Option Mark = Some (Invocation site) in
    let P : List Event → Type 0 = λ x. sites.Tracks (base_of from) nothing_open (opened true mark x os) [] s in
    let S : List Event → Type 0 = λ x. Small nothing_open (opened true mark x os) [] in
    tables_told burden tags from count (opened true mark es os) [] (with_tables t s p false) (record {
      sites = subst P h.all (spawns (base_of from) nothing_open os h.told h.since (sites_since burden tags from count os es t h)
          (told_spawned burden tags from count os es t h ∙ sym (not-not t.spawned))
          (subst S (sym h.all) (small_run burden from count (opened true mark es os) [] small k)) h.sites);
      path = spawned_path burden tags from count os es t m p mark notes heavier small light h;
      regions = tags_opened burden tags from true mark os es t.regions tt h.regions;
      counted = k;
      burden_is = h.burden_is;
      spawned_is = refl;
    })

pub half_opened : (t : Tables) (s : SiteTable) (m p : BurdenedPath) (count : ℕ) → SpawnsHalf t.sites s count (not t.spawned)
    → RecordsLate t.path m count → SpawnsWeight m p count (not t.spawned) → Opens t (with_tables t s p false) count true None
half_opened t s m p count spawns notes heavier = λ burden tags from os es k small light h.
    let P : List Event → Type 0 = λ x. sites.Tracks (base_of from) nothing_open (opened true None x os) [] s in
    tables_told burden tags from count (opened true None es os) [] (with_tables t s p false) (record {
      sites = subst P h.all (spawns (base_of from) nothing_open None os h.told h.since tt (sites_since burden tags from count os es t h)
          (told_spawned burden tags from count os es t h ∙ sym (not-not t.spawned)) (told_small burden tags from count os es t h small) h.sites);
      path = spawned_path burden tags from count os es t m p None notes heavier small light h;
      regions = tags_opened burden tags from true None os es t.regions tt h.regions;
      counted = k;
      burden_is = h.burden_is;
      spawned_is = refl;
    })

pub quiet_opened : (t now : Tables) (count : ℕ) → Settles t now count → Opens t (with_tables now now.sites now.path false) count false None
quiet_opened t now count settles = λ burden tags from os es k small light h.
    let a = settles burden tags from os es small light h in
    tables_told burden tags from count (opened false None es os) [] (with_tables now now.sites now.path false) (record {
      sites = (quiet_parts (base_of from) nothing_open os now.sites).begins None es tt a.sites;
      path = (series_need_no_call burden now.path).begins None os es a.path;
      regions = tags_opened burden tags from false None os es now.regions tt a.regions;
      counted = k;
      burden_is = a.burden_is;
      spawned_is = refl;
    })

pub region_opened : (t now : Tables) (r : RegionTable) (count tag path heavy : ℕ) → Settles t now count → ReadsPath now.sites path
    → heavy ≡ now.path.weight → regions.BeginsRegion now.regions r tag count path heavy → OpensRegion t (with_regions now r false) count tag
region_opened t now r count tag path heavy settles reads weighs begins = λ burden tags from os es known k small light h.
    let a = settles burden tags from os es small light h in
    let mark : Option Mark = Some (Execution (tags.name tag)) in
    let along = a.regions.along in
    tables_told burden tags from count (opened false mark es os) [] (with_regions now r false) (record {
      sites = (quiet_parts (base_of from) nothing_open os now.sites).begins mark es tt a.sites;
      path = (series_need_no_call burden now.path).begins mark os es a.path;
      regions = record {
        along = along;
        path_is = a.regions.path_is;
        burdened_is = a.regions.burdened_is;
        tells =
            begins burden along tags nothing_open os es known (sym a.counted.work) (reads 0 (base_of from) nothing_open os es a.sites ∙ sym (a.regions.path_is os es))
            (weighs ∙ a.path.shows.now_is ∙ sym (a.regions.burdened_is os es)) (small_tags burden tags from count (opened false mark es os) [] small light k) a.regions.tells;
      };
      counted = k;
      burden_is = a.burden_is;
      spawned_is = refl;
    })

-- the current block joins
pub tables_joined : (t : Tables) (s : SiteTable) (m p : BurdenedPath) (count : ℕ) → Joins t.sites s count → RecordsLate t.path m count
    → JoinsWeight m p count → JoinsSpawned t (with_tables t s p false) count
tables_joined t s m p count joins notes heavier = λ burden tags from os es e small light h.
    let S : List Event → Type 0 = λ x. sites.Tracks (base_of from) nothing_open os (x ++ Join ∷ []) s in
    let P : List Event → Type 0 = λ x. TracksWeight burden os (x ++ Join ∷ []) p in
    let told = told_spawned burden tags from count os es t h ∙ e in
    let now = path_told burden tags from count os es t m notes small light h in
    tables_told burden tags from count os (es ++ Join ∷ []) (with_tables t s p false) (record {
      sites = subst S h.all (joins (base_of from) nothing_open os h.told h.since (sites_since burden tags from count os es t h) told (told_small burden tags from count os es t h small) h.sites);
      path = subst P (append-nil es) (heavier burden os es [] (none_since burden from count os es m h.counted now) (fits_now burden tags from count os es t h small light) (sym h.spawned_is ∙ e) now);
      regions = tags_joined burden tags from os es t.regions h.regions;
      counted = counted_joined burden from count os es h.counted;
      burden_is = h.burden_is;
      spawned_is = sym (spawned_append false es (Join ∷ []));
    })
