-- The effect of each call on the run that a meter represents.
use Rattle.std.specs.Prelude.{◌≡◌, ℕ, ◌+◌, ◌≤◌, ◌<◌, Bool, false, List, [], ◌∷◌, ◌++◌, length, reverse, Option, Some, refl}
use Rattle.std.proofs.Common.{sym, ◌∙◌, ap, subst, arith}
use Rattle.std.proofs.lemmas.List.{append_assoc, nil_from_length}
use Rattle.cw_facts.specs.Lists.{reverse_pushed}
use Rattle.cw_model.specs.declared.burden.Burden.{Burden}
use Rattle.cw_model.specs.declared.limits.TheConstants.{MOST_LIMIT, MOST_BURDEN}
use Rattle.cw_model.specs.Trees.{Mark, Invocation, Execution, Event, Work, Join}
use Rattle.cw_model.specs.Rows.{is_site}
use Rattle.cw_measure.specs.declared.burdened_path.BurdenedPath.{BurdenedPath}
use Rattle.cw_measure.specs.OpenParts.{Open, closed}
use Rattle.cw_measure.specs.Outermost.{is_counted}
use Rattle.cw_measure.specs.BlockWeights.{weight_in}
use Rattle.cw_measure.specs.StrandWeights.{TracksWeight}
use Rattle.cw_measure.specs.lemmas.OpenParts.{has_spawned-work}
use Rattle.cw_measure.specs.lemmas.StrandWeights.{series_need_no_call, weight_meters}
use Rattle.cw_sites.specs.declared.table.SiteTable.{SiteTable}
use Rattle.cw_sites.specs.OpenPaths.{path_in}
use Rattle.cw_sites.specs.Tables.{Enters}
use Rattle.cw_sites.specs.Tables as sites
use Rattle.cw_sites.specs.lemmas.SiteRows.{path_meters}
use Rattle.cw_regions.specs.declared.table.RegionTable.{RegionTable}
use Rattle.cw_regions.specs.Regions.{Readings, Tags, StartsRegions}
use Rattle.cw_meter.specs.Origins.{Origin, Main, main_open}
use Rattle.cw_meter.specs.declared.meter.Meter.{Meter}
use Rattle.cw_meter.specs.declared.tables.Tables.{Tables}
use Rattle.cw_meter.specs.declared.parts.PartKind.{PartKind}
use Rattle.cw_meter.specs.declared.parts.PartKind.TheVariants as kind
use Rattle.cw_meter.specs.declared.parts.Part.{Part}
use Rattle.cw_meter.specs.Alike.{AreAlike, AreOpenAlike}
use Rattle.cw_meter.specs.Meters.{Measured, IsCounted, TablesTrackLate, nothing_open, ticked, synced, begun}
use Rattle.cw_meter.specs.Moves.{ClosesPart, JoinsBlock, Stacks, part_in}
use Rattle.cw_meter.specs.Parts.{AreParts, IsOfKind, IsPart}
use Rattle.cw_meter.specs.Tables.{Closes, Opens, OpensRegion, StartsTables, opened}
use Rattle.cw_meter.proofs.AlikeLaws.{alike_itself, alike_more, alike_trees, alike_joined, alike_closed}
use Rattle.cw_meter.proofs.Counting.{counted_opened, one_at_most, small_run}
use Rattle.cw_meter.proofs.TableLaws.{tables_ticked, tables_told, tags_opened}

-- the meter represents the run after an event, if all measures are counted
abbrev pub Counts : (old new : Meter) → (count : ℕ) → Burden → Tags → (from : Origin) → (os os' : List Open) → (es es' : List Event) → Type 0
Counts old new count burden tags from os os' es es' = count < MOST_LIMIT → burden.charge ≤ MOST_BURDEN → Measured burden tags from count os es old → Measured burden tags from (count + 1) os' es' new

abbrev pub CountsBegin : (old new : Meter) → (count : ℕ) → (spawned : Bool) → Option Mark → Type 0
CountsBegin old new count spawned mark = (burden : Burden) (tags : Tags) (from : Origin) (os : List Open) (es : List Event) → Counts old new count burden tags from os (begun spawned mark es os) es []

abbrev pub CountsRegion : (old new : Meter) → (count tag : ℕ) → Type 0
CountsRegion old new count tag = (burden : Burden) (tags : Tags) (from : Origin) (os : List Open) (es : List Event) → tag < tags.count
    → Counts old new count burden tags from os (begun false (Some (Execution (tags.name tag))) es os) es []

abbrev pub CountsEnd : (old new : Meter) → (count : ℕ) → Type 0
CountsEnd old new count = (burden : Burden) (tags : Tags) (from : Origin) (o : Open) (os : List Open) (es : List Event) → o.spawned ≡ false
    → Counts old new count burden tags from (o ∷ os) os es (ticked (closed o es))

abbrev pub CountsReturn : (old new : Meter) → (count : ℕ) → Type 0
CountsReturn old new count = (burden : Burden) (tags : Tags) (from : Origin) (o : Open) (os : List Open) (es : List Event) → Counts old new count burden tags from (o ∷ os) os es (closed o (synced es))

abbrev pub CountsSync : (old new : Meter) → (count : ℕ) → Type 0
CountsSync old new count = (burden : Burden) (tags : Tags) (from : Origin) (os : List Open) (es : List Event) → Counts old new count burden tags from os os es (synced es)

pub ticks : (m : Meter) (count : ℕ) (burden : Burden) (tags : Tags) (from : Origin) (os : List Open) (es : List Event)
    → Measured burden tags from count os es m → Measured burden tags from (count + 1) os (ticked es) m
ticks m count burden tags from os es h = record {
  recorded_open = h.recorded_open;
  told = ticked h.told;
  open_alike = h.open_alike;
  alike = alike_more es h.told (Work 1 ∷ []) h.alike;
  tables = tables_ticked burden tags from count h.recorded_open h.told m.tables h.tables;
  parts = h.parts;
}

pub parts_pushed : (from : Origin) (tags : Tags) (o : Open) (os : List Open) (p : Part) (old new : List Part) → new ≡ old ++ p ∷ []
    → IsPart from tags o os p → AreParts from tags os (reverse old) → AreParts from tags (o ∷ os) (reverse new)
parts_pushed from tags o os p old new e is h =
    let P : List Part → Type 0 = λ x. AreParts from tags (o ∷ os) x in subst P (sym (ap (λ (x : List Part). reverse x) e ∙ reverse_pushed old p)) (is, h)

pub parts_popped : (from : Origin) (tags : Tags) (o : Open) (os : List Open) (p : Part) (old new : List Part) → old ≡ new ++ p ∷ []
    → AreParts from tags (o ∷ os) (reverse old) → IsPart from tags o os p × AreParts from tags os (reverse new)
parts_popped from tags o os p old new e h =
    let P : List Part → Type 0 = λ x. AreParts from tags (o ∷ os) x in
    let a = subst P (ap (λ (x : List Part). reverse x) e ∙ reverse_pushed new p) h in (a.0, a.1)

no_parts : (from : Origin) (tags : Tags) (o : Open) (os : List Open) (parts : List Part) → parts ≡ [] → AreParts from tags (o ∷ os) (reverse parts) → ⊥
no_parts from tags o os parts e h = let P : List Part → Type 0 = λ x. AreParts from tags (o ∷ os) (reverse x) in subst P e h

-- a run begins
pub tables_start : (burden : Burden) (empty s : SiteTable) (p : BurdenedPath) (r : RegionTable) → sites.Tracks 0 (λ q. 0) [] [] empty
    → Enters empty s 0 0 → ((b : Burden) → TracksWeight b [] [] p) → StartsRegions r
    → StartsTables burden (record { sites = s; path = p; regions = r; burden = burden; spawned = false })
tables_start burden empty s p r told enters weighs starts = λ tags.
    let t : Tables = record { sites = s; path = p; regions = r; burden = burden; spawned = false } in
    let mark : Option Mark = Some (Invocation 0) in
    let along : Readings burden = record { path = path_in 0 0; burdened = weight_in burden; path_is = path_meters 0 0; burdened_is = weight_meters burden } in
    let k : IsCounted burden Main 0 main_open [] = record {
      work = omega arith;
      calls = λ site. let a = one_at_most (is_counted (is_site site) mark) in omega arith;
      opened = omega arith;
      burdened = omega arith;
    } in
    let n = told.noted_is in
    tables_told burden tags Main 0 main_open [] t (record {
      sites = enters 0 nothing_open [] [] [] (record { goes_on = omega arith; instructions = omega arith }) (small_run burden Main 0 main_open [] (omega arith) k) told;
      path = (series_need_no_call burden p).begins mark [] [] (weighs burden);
      regions = tags_opened burden tags Main false mark [] [] r tt (record { along = along; path_is = λ qs fs. refl; burdened_is = λ qs fs. refl; tells = starts burden along tags });
      counted = k;
      burden_is = refl;
      spawned_is = refl;
    })

pub meter_starts : (burden : Burden) (m : Meter) → StartsTables burden m.tables
    → m.parts.items ≡ record { kind = kind.Call; site = 0; spawned = false } ∷ [] → (tags : Tags) → Measured burden tags Main 0 main_open [] m
meter_starts burden m starts e = λ tags. record {
  recorded_open = main_open;
  told = [];
  open_alike = (refl, refl, alike_itself [], tt);
  alike = alike_itself [];
  tables = starts tags;
  parts = parts_pushed Main tags (record { spawned = false; mark = Some (Invocation 0); outer = [] }) []
      (record { kind = kind.Call; site = 0; spawned = false }) [] m.parts.items e (record { kind = (refl, (0, refl)); site = refl; spawned = refl }) tt;
}

-- a part begins
part_stacked : (burden : Burden) (tags : Tags) (from : Origin) (count : ℕ) (spawned : Bool) (mark : Option Mark) (os : List Open) (es : List Event)
    (old mid : Meter) (k : PartKind) → Stacks old mid k → IsOfKind tags (record { spawned = spawned; mark = mark; outer = ticked es }) k
    → TablesTrackLate burden tags from count os es old.tables → AreParts from tags os (reverse old.parts.items)
    → AreParts from tags (opened spawned mark (ticked es) os) (reverse mid.parts.items)
part_stacked burden tags from count spawned mark os es old mid k stacks is h parts =
    parts_pushed from tags (record { spawned = spawned; mark = mark; outer = ticked es }) os
    (part_in k old.tables) old.parts.items mid.parts.items stacks.pushed
    (record { kind = is; site = h.sites.here_is; spawned = h.spawned_is ∙ sym (has_spawned-work es 1) }) parts

pub meter_begins : (old mid : Meter) (t : Tables) (count next : ℕ) (k : PartKind) (spawned : Bool) (mark : Option Mark) → Stacks old mid k
    → Opens mid.tables t next spawned mark → ((tags : Tags) (outer : List Event)
    → IsOfKind tags (record { spawned = spawned; mark = mark; outer = outer }) k) → (count < MOST_LIMIT → next ≡ count + 1)
    → CountsBegin old (record mid { tables = t }) count spawned mark
meter_begins old mid t count next k spawned mark stacks opens is sat = λ burden tags from os es small light h.
    let N : ℕ → Type 0 = λ x. Opens mid.tables t x spawned mark in
    let T : Tables → Type 0 = λ x. Opens x t (count + 1) spawned mark in
    let opens_old = subst T stacks.tables (subst N (sat small) opens) in
    let within : count + 1 ≤ MOST_LIMIT = omega arith in
    record {
      recorded_open = opened spawned mark (ticked h.told) h.recorded_open;
      told = [];
      open_alike = (refl, refl, alike_more es h.told (Work 1 ∷ []) h.alike, h.open_alike);
      alike = alike_itself [];
      tables = opens_old burden tags from h.recorded_open (ticked h.told) (counted_opened burden from count spawned mark h.recorded_open h.told
          h.tables.counted) within light (tables_ticked burden tags from count h.recorded_open h.told old.tables h.tables);
      parts = part_stacked burden tags from count spawned mark h.recorded_open h.told old mid k stacks (is tags (ticked h.told)) h.tables h.parts;
    }

pub meter_begins_region : (old mid : Meter) (t : Tables) (count next tag : ℕ) → Stacks old mid (kind.Region tag) → OpensRegion mid.tables t next tag
    → (count < MOST_LIMIT → next ≡ count + 1) → CountsRegion old (record mid { tables = t }) count tag
meter_begins_region old mid t count next tag stacks opens sat = λ burden tags from os es known small light h.
    let N : ℕ → Type 0 = λ x. OpensRegion mid.tables t x tag in
    let T : Tables → Type 0 = λ x. OpensRegion x t (count + 1) tag in
    let mark : Option Mark = Some (Execution (tags.name tag)) in
    let opens_old = subst T stacks.tables (subst N (sat small) opens) in
    let within : count + 1 ≤ MOST_LIMIT = omega arith in
    record {
      recorded_open = opened false mark (ticked h.told) h.recorded_open;
      told = [];
      open_alike = (refl, refl, alike_more es h.told (Work 1 ∷ []) h.alike, h.open_alike);
      alike = alike_itself [];
      tables = opens_old burden tags from h.recorded_open (ticked h.told) known
          (counted_opened burden from count false mark h.recorded_open h.told h.tables.counted) within light
          (tables_ticked burden tags from count h.recorded_open h.told old.tables h.tables);
      parts = part_stacked burden tags from count false mark h.recorded_open h.told old mid (kind.Region tag) stacks (refl, known, refl) h.tables h.parts;
    }

-- the current block joins
synced_alike : (es fs : List Event) → AreAlike es fs → AreAlike (synced es) (ticked (fs ++ Join ∷ []))
synced_alike es fs h =
    let P : List Event → Type 0 = λ x. AreAlike (synced es) x in subst P (sym (append_assoc fs (Join ∷ []) (Work 1 ∷ []))) (alike_more es fs (Join ∷ Work 1 ∷ []) h)

same_parts : (from : Origin) (tags : Tags) (os : List Open) (old new : List Part) → new ≡ old → AreParts from tags os (reverse old) → AreParts from tags os (reverse new)
same_parts from tags os old new e h = let P : List Part → Type 0 = λ x. AreParts from tags os (reverse x) in subst P (sym e) h

pub meter_syncs : (old new : Meter) (count : ℕ) → JoinsBlock old new count → new.parts.items ≡ old.parts.items → CountsSync old new count
meter_syncs old new count joins e = λ burden tags from os es small light h.
    let within : count ≤ MOST_LIMIT = omega arith in
    record {
      recorded_open = h.recorded_open;
      told = ticked (h.told ++ Join ∷ []);
      open_alike = h.open_alike;
      alike = synced_alike es h.told h.alike;
      tables = tables_ticked burden tags from count h.recorded_open (h.told ++ Join ∷ []) new.tables (joins burden tags from h.recorded_open h.told within light h.tables);
      parts = same_parts from tags h.recorded_open old.parts.items new.parts.items e h.parts;
    }

-- the innermost part ends
pub part_closed : (old : Meter) (left : List Part) (part : Part) (t : Tables) (count : ℕ) → Closes old.tables t count part
    → old.parts.items ≡ left ++ part ∷ [] → (burden : Burden) (tags : Tags) (from : Origin) (o : Open) (os : List Open) (es : List Event)
    → old.tables.spawned ≡ false → AreParts from tags (o ∷ os) (reverse old.parts.items) → count ≤ MOST_LIMIT → burden.charge ≤ MOST_BURDEN
    → TablesTrackLate burden tags from count (o ∷ os) es old.tables → TablesTrackLate burden tags from count os (closed o es) t × AreParts from tags os (reverse left)
part_closed old left part t count closes e = λ burden tags from o os es joined parts small light h.
    let a = parts_popped from tags o os part old.parts.items left e parts in (closes burden tags from o os es a.0 joined small light h, a.1)

pub nothing_closed : (old new : Meter) (count : ℕ) → length old.parts.items ≡ 0 → ClosesPart old new count
nothing_closed old new count e = λ burden tags from o os es joined parts small light h. absurd (no_parts from tags o os old.parts.items (nil_from_length old.parts.items e) parts)

ended_in : (old mid new : Meter) (count : ℕ) → JoinsBlock old mid count → mid.tables.spawned ≡ false → mid.parts.items ≡ old.parts.items
    → ClosesPart mid new count → (burden : Burden) (tags : Tags) (from : Origin) (o : Open) (os : List Open) (es : List Event) (opens : List Open)
    (events : List Event) → count < MOST_LIMIT → burden.charge ≤ MOST_BURDEN → AreOpenAlike (o ∷ os) opens → AreAlike es events
    → TablesTrackLate burden tags from count opens events old.tables → AreParts from tags opens (reverse old.parts.items)
    → Measured burden tags from (count + 1) os (ticked (closed o es)) new
ended_in old mid new count joins joined e closes burden tags from o os es [] events small light alike_open alike h parts = absurd alike_open
ended_in old mid new count joins joined e closes burden tags from o os es (p ∷ ps) events small light alike_open alike h parts =
    let within : count ≤ MOST_LIMIT = omega arith in
    let c = closes burden tags from p ps (events ++ Join ∷ []) joined (same_parts from tags (p ∷ ps) old.parts.items mid.parts.items e parts) within
    light (joins burden tags from (p ∷ ps) events within light h) in
    record {
      recorded_open = ps;
      told = ticked (closed p (events ++ Join ∷ []));
      open_alike = alike_open.3;
      alike = alike_more (closed o es) (closed p (events ++ Join ∷ [])) (Work 1 ∷ []) (alike_closed o p es (events ++ Join ∷ []) alike_open.0 alike_open.1 alike_open.2 (alike_joined es events alike));
      tables = tables_ticked burden tags from count ps (closed p (events ++ Join ∷ [])) new.tables c.0;
      parts = c.1;
    }

pub meter_ends : (old mid new : Meter) (count : ℕ) → JoinsBlock old mid count → mid.tables.spawned ≡ false → mid.parts.items ≡ old.parts.items → ClosesPart mid new count → CountsEnd old new count
meter_ends old mid new count joins joined e closes = λ burden tags from o os es series small light h.
    ended_in old mid new count joins joined e closes burden tags from o os es h.recorded_open h.told small light h.open_alike h.alike h.tables h.parts

returned_in : (old mid new : Meter) (count : ℕ) → JoinsBlock old mid count → mid.tables.spawned ≡ false → mid.parts.items ≡ old.parts.items
    → ClosesPart mid new (count + 1) → (burden : Burden) (tags : Tags) (from : Origin) (o : Open) (os : List Open) (es : List Event)
    (opens : List Open) (events : List Event) → count < MOST_LIMIT → burden.charge ≤ MOST_BURDEN → AreOpenAlike (o ∷ os) opens → AreAlike es events
    → TablesTrackLate burden tags from count opens events old.tables → AreParts from tags opens (reverse old.parts.items)
    → Measured burden tags from (count + 1) os (closed o (synced es)) new
returned_in old mid new count joins joined e closes burden tags from o os es [] events small light alike_open alike h parts = absurd alike_open
returned_in old mid new count joins joined e closes burden tags from o os es (p ∷ ps) events small light alike_open alike h parts =
    let before : count ≤ MOST_LIMIT = omega arith in
    let within : count + 1 ≤ MOST_LIMIT = omega arith in
    let all = ticked (events ++ Join ∷ []) in
    let c = closes burden tags from p ps all joined (same_parts from tags (p ∷ ps) old.parts.items mid.parts.items e parts) within light
    (tables_ticked burden tags from count (p ∷ ps) (events ++ Join ∷ []) mid.tables (joins burden tags from (p ∷ ps) events before light h)) in
    record {
      recorded_open = ps;
      told = closed p all;
      open_alike = alike_open.3;
      alike = alike_closed o p (synced es) all alike_open.0 alike_open.1 alike_open.2 (alike_trees (synced es) all (synced_alike es events alike));
      tables = c.0;
      parts = c.1;
    }

pub meter_returns : (old mid new : Meter) (count next : ℕ) → JoinsBlock old mid count → mid.tables.spawned ≡ false
    → mid.parts.items ≡ old.parts.items → ClosesPart mid new next → (count < MOST_LIMIT → next ≡ count + 1) → CountsReturn old new count
meter_returns old mid new count next joins joined e closes sat = λ burden tags from o os es small light h.
    let N : ℕ → Type 0 = λ x. ClosesPart mid new x in
    returned_in old mid new count joins joined e (subst N (sat small) closes) burden tags from o os es h.recorded_open h.told small light h.open_alike h.alike h.tables h.parts
