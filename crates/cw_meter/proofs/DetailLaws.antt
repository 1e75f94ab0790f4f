-- The effect of each call on a meter, for each detail that it records.
use Rattle.std.specs.Prelude.{◌≡◌, ℕ, ◌+◌, ◌≤◌, ◌<◌, ◌^◌, Bool, true, false, nat_eq, List, [], ◌∷◌, length, Option, Some, refl}
use Rattle.std.proofs.Common.{sym, ◌∙◌, ap, subst, arith}
use Rattle.std.proofs.lemmas.Bool.{true≢false}
use Rattle.cw_model.specs.declared.burden.Burden.{Burden}
use Rattle.cw_model.specs.declared.limits.TheConstants.{MOST_LIMIT}
use Rattle.cw_model.specs.Trees.{Mark, Invocation, Execution, Event}
use Rattle.cw_measure.specs.OpenParts.{Open, closed}
use Rattle.cw_regions.specs.Regions.{Tags}
use Rattle.cw_meter.specs.declared.detail.Detail.{Detail}
use Rattle.cw_meter.specs.declared.detail.Detail.TheVariants.{Values, Strands, Measures}
use Rattle.cw_meter.specs.declared.meter.Meter.{Meter}
use Rattle.cw_meter.specs.declared.parts.PartKind.TheVariants as kind
use Rattle.cw_meter.specs.Details.{records_only_values, is_counted, burden_of}
use Rattle.cw_meter.specs.Origins.{Origin, base_of, given_open}
use Rattle.cw_meter.specs.Meters.{Begins, BeginsRegion, Ends, Returns, Syncs, Rests, Starts, StartsRest, IsHere, IsOutside, InstructionsNeedNoCall, KnowsOpen, Tracks, ticked, synced, begun}
use Rattle.cw_greedy.specs.Recorded.{Recorded}
use Rattle.cw_greedy.specs.declared.recorder.Recorder.{Recorder}
use Rattle.cw_greedy.specs.Recording as strands
use Rattle.cw_sites.specs.OpenPaths.{here_in}
use Rattle.cw_meter.specs.Whole.{ReadsStrands}
use Rattle.cw_meter.specs.Uncounted.{BeginsQuiet, BeginsRegions, BeginsSpawned}
use Rattle.cw_meter.specs.Moves.{IsOpened, LeavesOne}
use Rattle.cw_meter.specs.Tables.{StartsTables, StartsTablesOfRest}
use Rattle.cw_meter.proofs.Counting.{few_given}
use Rattle.cw_meter.proofs.MeterLaws.{Counts, CountsBegin, CountsRegion, CountsEnd, CountsReturn, CountsSync, meter_starts, ticks}
use Rattle.cw_meter.proofs.RestLaws.{CountsRest, meter_rest_starts, meter_here}
use Rattle.cw_meter.proofs.OutsideLaws.{parts_many}

-- the three details differ
differ : (f : Detail → Bool) (d e : Detail) → f d ≡ true → f e ≡ false → d ≡ e → ⊥
differ f d e so not_so same = true≢false (sym so ∙ ap f same ∙ not_so)

-- the detail is the strands
pub record Records (d : Detail) : Type 0 where
  pub counts : is_counted d ≡ false
  pub values : records_only_values d ≡ false

not_values : (d : Detail) → Records d → d ≡ Values → ⊥
not_values d r e = differ records_only_values Values d refl r.values (sym e)

not_measures : (d : Detail) (burden : Burden) → Records d → d ≡ Measures burden → ⊥
not_measures d burden r e = differ is_counted (Measures burden) d refl r.counts (sym e)

counted_tells : (old new : Meter) (count : ℕ) → is_counted old.detail ≡ true → new.detail ≡ old.detail
    → (d : Detail) (tags : Tags) (from : Origin) (os os' : List Open) (es es' : List Event)
    → ((burden : Burden) → Counts old new count burden tags from os os' es es') → Tracks old new count d tags from os os' es es'
counted_tells old new count so kept Values tags from os os' es es' f = λ small light open_ h. absurd (differ is_counted old.detail Values so refl h.0)
counted_tells old new count so kept Strands tags from os os' es es' f = λ small light open_ h. absurd (differ is_counted old.detail Strands so refl h.0)
counted_tells old new count so kept (Measures burden) tags from os os' es es' f = λ small light open_ h. (kept ∙ h.0, f burden small light h.1)

values_tell : (old new : Meter) (count : ℕ) → records_only_values old.detail ≡ true → new.detail ≡ old.detail
    → (d : Detail) (tags : Tags) (from : Origin) (os os' : List Open) (es es' : List Event)
    → (count < MOST_LIMIT → KnowsOpen (given_open from) count os old → KnowsOpen (given_open from) (count + 1) os' new) → Tracks old new count d tags from os os' es es'
values_tell old new count so kept Values tags from os os' es es' f = λ small light open_ h. (kept ∙ h.0, f small h.1)
values_tell old new count so kept Strands tags from os os' es es' f = λ small light open_ h. absurd (differ records_only_values old.detail Strands so refl h.0)
values_tell old new count so kept (Measures burden) tags from os os' es es' f = λ small light open_ h. absurd (differ records_only_values old.detail (Measures burden) so refl h.0)

strands_tell : (old new : Meter) (count : ℕ) → Records old.detail → new.detail ≡ old.detail
    → (d : Detail) (tags : Tags) (from : Origin) (os os' : List Open) (es es' : List Event)
    → (count < MOST_LIMIT → KnowsOpen (given_open from) count os old → KnowsOpen (given_open from) (count + 1) os' new)
    → strands.Tracks old.recorder new.recorder count from os os' es es' → Tracks old new count d tags from os os' es es'
strands_tell old new count r kept Values tags from os os' es es' f g = λ small light open_ h. absurd (not_values old.detail r h.0)
strands_tell old new count r kept Strands tags from os os' es es' f g = λ small light open_ h. (kept ∙ h.0, (f small h.1.0, g small open_ h.1.1))
strands_tell old new count r kept (Measures burden) tags from os os' es es' f g = λ small light open_ h. absurd (not_measures old.detail burden r h.0)

-- a part begins
pub begins_counted : (old new : Meter) (count : ℕ) (spawned : Bool) (mark : Option Mark) → is_counted old.detail ≡ true → new.detail ≡ old.detail
    → CountsBegin old new count spawned mark → Begins old new count spawned mark
begins_counted old new count spawned mark not_so kept begins = λ d tags from os es. counted_tells old new count not_so kept d tags from os
    (begun spawned mark es os) es [] (λ burden. begins burden tags from os es)

pub region_counted : (old new : Meter) (count tag : ℕ) → is_counted old.detail ≡ true → new.detail ≡ old.detail → CountsRegion old new count tag → BeginsRegion old new count tag
region_counted old new count tag not_so kept begins = λ d tags from os es known. counted_tells old new count not_so kept d tags from os
    (begun false (Some (Execution (tags.name tag))) es os) es [] (λ burden. begins burden tags from os es known)

one_more : (given count : ℕ) (o : Open) (os : List Open) (old new : Meter) → (old.open_parts + 1 < 2 ^ 64 → new.open_parts ≡ old.open_parts + 1)
    → given ≤ 1 → count < MOST_LIMIT → KnowsOpen given count os old → KnowsOpen given (count + 1) (o ∷ os) new
one_more given count o os old new opens few small h =
    let m = h.many in
    let n = h.few in
    let within : old.open_parts + 1 < 2 ^ 64 = omega (arith, m, n, few, small) in
    let e = opens within in
    record { many = omega (arith, e, m); few = omega (arith, n) }

pub begins_values : (old new : Meter) (count : ℕ) (spawned : Bool) (mark : Option Mark) → records_only_values old.detail ≡ true → IsOpened old new → Begins old new count spawned mark
begins_values old new count spawned mark so opens = λ d tags from os es. values_tell old new count so opens.detail d tags from os
    (begun spawned mark es os) es [] (one_more (given_open from) count (record { spawned = spawned; mark = mark; outer = ticked es }) os old new opens.parts
    (few_given from))

pub region_values : (old new : Meter) (count tag : ℕ) → records_only_values old.detail ≡ true → IsOpened old new → BeginsRegion old new count tag
region_values old new count tag so opens = λ d tags from os es known. values_tell old new count so opens.detail d tags from os
    (begun false (Some (Execution (tags.name tag))) es os) es [] (one_more (given_open from) count
    (record { spawned = false; mark = Some (Execution (tags.name tag)); outer = ticked es }) os old new opens.parts (few_given from))

-- the start of a part, for a recorder and for the number of open parts
pub spawned_recorded : (old mid : Meter) (r : Recorder) (count : ℕ) → Records old.detail → IsOpened old mid → strands.BeginsChild mid.recorder r count
    → BeginsSpawned old (record mid { recorder = r }) count
spawned_recorded old mid r count records opens begins = λ mark d tags from os es.
    let new : Meter = record mid { recorder = r } in
    strands_tell old new count records opens.detail d tags from os (begun true mark es os) es [] (one_more (given_open from) count
    (record { spawned = true; mark = mark; outer = ticked es }) os old new opens.parts (few_given from))
    (subst (λ q. strands.BeginsChild q r count) opens.recorder begins from mark os es)

pub call_recorded : (old mid : Meter) (r : Recorder) (count site : ℕ) → Records old.detail → IsOpened old mid → strands.BeginsCall mid.recorder r count
    → Begins old (record mid { recorder = r }) count false (Some (Invocation site))
call_recorded old mid r count site records opens begins = λ d tags from os es.
    let mark : Option Mark = Some (Invocation site) in
    let new : Meter = record mid { recorder = r } in
    strands_tell old new count records opens.detail d tags from os (begun false mark es os) es [] (one_more (given_open from) count
    (record { spawned = false; mark = mark; outer = ticked es }) os old new opens.parts (few_given from))
    (subst (λ q. strands.BeginsCall q r count) opens.recorder begins from site os es)

pub quiet_recorded : (old mid : Meter) (r : Recorder) (count : ℕ) → Records old.detail → IsOpened old mid → strands.BeginsQuiet mid.recorder r count
    → BeginsQuiet old (record mid { recorder = r }) count
quiet_recorded old mid r count records opens begins = λ mark quiet d tags from os es.
    let new : Meter = record mid { recorder = r } in
    strands_tell old new count records opens.detail d tags from os (begun false mark es os) es [] (one_more (given_open from) count
    (record { spawned = false; mark = mark; outer = ticked es }) os old new opens.parts (few_given from))
    (λ small open_ h. subst (λ q. strands.BeginsQuiet q r count) opens.recorder begins from mark os es quiet small open_ h)

-- the start of a region
pub regions_too : (old new : Meter) (count : ℕ) → BeginsQuiet old new count → BeginsRegions old new count
regions_too old new count begins = λ tag d tags from os es known. begins (Some (Execution (tags.name tag))) tt d tags from os es

-- a part ends
pub ends_counted : (old new : Meter) (count : ℕ) → is_counted old.detail ≡ true → new.detail ≡ old.detail → CountsEnd old new count → Ends old new count
ends_counted old new count not_so kept ends = λ d tags from o os es series. counted_tells old new count not_so kept d tags from (o ∷ os) os es
    (ticked (closed o es)) (λ burden. ends burden tags from o os es series)

pub returns_counted : (old new : Meter) (count : ℕ) → is_counted old.detail ≡ true → new.detail ≡ old.detail → CountsReturn old new count → Returns old new count
returns_counted old new count not_so kept ends = λ d tags from o os es. counted_tells old new count not_so kept d tags from (o ∷ os) os es
    (closed o (synced es)) (λ burden. ends burden tags from o os es)

one_less : (given count : ℕ) (o : Open) (os : List Open) (old new : Meter) → (0 < old.open_parts → new.open_parts + 1 ≡ old.open_parts)
    → count < MOST_LIMIT → KnowsOpen given count (o ∷ os) old → KnowsOpen given (count + 1) os new
one_less given count o os old new leaves small h =
    let m = h.many in
    let n = h.few in
    let e = leaves (omega (arith, m)) in
    record { many = omega (arith, e, m); few = omega (arith, n) }

pub ends_values : (old new : Meter) (count : ℕ) → records_only_values old.detail ≡ true → LeavesOne old new → Ends old new count
ends_values old new count so leaves = λ d tags from o os es series. values_tell old new count so leaves.detail d tags from (o ∷ os) os es
    (ticked (closed o es)) (one_less (given_open from) count o os old new leaves.parts)

pub returns_values : (old new : Meter) (count : ℕ) → records_only_values old.detail ≡ true → LeavesOne old new → Returns old new count
returns_values old new count so leaves = λ d tags from o os es. values_tell old new count so leaves.detail d tags from (o ∷ os) os es
    (closed o (synced es)) (one_less (given_open from) count o os old new leaves.parts)

pub ends_recorded : (old mid : Meter) (r : Recorder) (count : ℕ) → Records old.detail → LeavesOne old mid → strands.Ends mid.recorder r count
    → Ends old (record mid { recorder = r }) count
ends_recorded old mid r count records leaves ends = λ d tags from o os es series.
    let new : Meter = record mid { recorder = r } in
    strands_tell old new count records leaves.detail d tags from (o ∷ os) os es (ticked (closed o es)) (one_less (given_open from) count o os old new leaves.parts)
    (λ small open_ h. subst (λ q. strands.Ends q r count) leaves.recorder ends from o os es series small open_ h)

pub returns_recorded : (old mid : Meter) (r : Recorder) (count : ℕ) → Records old.detail → LeavesOne old mid → strands.Returns mid.recorder r count
    → Returns old (record mid { recorder = r }) count
returns_recorded old mid r count records leaves ends = λ d tags from o os es.
    let new : Meter = record mid { recorder = r } in
    strands_tell old new count records leaves.detail d tags from (o ∷ os) os es (closed o (synced es)) (one_less (given_open from) count o os old new leaves.parts)
    (subst (λ q. strands.Returns q r count) leaves.recorder ends from o os es)

-- the current block joins, and an instruction that needs no call
pub syncs_counted : (old new : Meter) (count : ℕ) → is_counted old.detail ≡ true → new.detail ≡ old.detail → CountsSync old new count → Syncs old new count
syncs_counted old new count not_so kept syncs = λ d tags from os es. counted_tells old new count not_so kept d tags from os os es (synced es) (λ burden. syncs burden tags from os es)

as_open : (given count more : ℕ) (os : List Open) (m : Meter) → KnowsOpen given count os m → KnowsOpen given (count + more) os m
as_open given count more os m h = let n = h.few in record { many = h.many; few = omega (arith, n) }

pub syncs_recorded : (old new : Meter) (count : ℕ) → Records old.detail → new.detail ≡ old.detail → new.open_parts ≡ old.open_parts
    → strands.Syncs old.recorder new.recorder count → Syncs old new count
syncs_recorded old new count r kept same syncs = λ d tags from os es. strands_tell old new count r kept d tags from os os es (synced es)
    (λ small h. let m = h.many in let n = h.few in record { many = same ∙ m; few = omega (arith, n) }) (syncs from os es)

pub syncs_values : (m : Meter) (count : ℕ) → records_only_values m.detail ≡ true → Syncs m m count
syncs_values m count so = λ d tags from os es. values_tell m m count so refl d tags from os os es (synced es) (λ small h. as_open (given_open from) count 1 os m h)

pub instructions_need_no_call : strands.InstructionsNeedNoCall → InstructionsNeedNoCall
instructions_need_no_call quiet m count Values tags from os es small light open_ h = (h.0, as_open (given_open from) count 1 os m h.1)
instructions_need_no_call quiet m count Strands tags from os es small light open_ h =
    (h.0, (as_open (given_open from) count 1 os m h.1.0, quiet m.recorder count from os es small open_ h.1.1))
instructions_need_no_call quiet m count (Measures burden) tags from os es small light open_ h = (h.0, ticks m count burden tags from os es h.1)

-- a continuation is appended
pub rests_counted : (old rest new : Meter) (count cost : ℕ) → is_counted old.detail ≡ true → new.detail ≡ old.detail → CountsRest old rest new count cost → Rests old rest new count cost
rests_counted old rest new count cost so kept rests Values tags from os es fs small light open_ s n h g = absurd (differ is_counted old.detail Values so refl h.0)
rests_counted old rest new count cost so kept rests Strands tags from os es fs small light open_ s n h g = absurd (differ is_counted old.detail Strands so refl h.0)
rests_counted old rest new count cost so kept rests (Measures burden) tags from os es fs small light open_ s n h g = (kept ∙ h.0, rests burden tags from os es fs small light n h.1 g.1)

pub rests_values : (m rest : Meter) (count cost : ℕ) → records_only_values m.detail ≡ true → Rests m rest m count cost
rests_values m rest count cost so Values tags from os es fs small light open_ s n h g = (h.0, as_open (given_open from) count cost os m h.1)
rests_values m rest count cost so Strands tags from os es fs small light open_ s n h g = absurd (differ records_only_values m.detail Strands so refl h.0)
rests_values m rest count cost so (Measures burden) tags from os es fs small light open_ s n h g = absurd (differ records_only_values m.detail (Measures burden) so refl h.0)

pub rests_recorded : (old rest new : Meter) (count cost : ℕ) → Records old.detail → new.detail ≡ old.detail → new.open_parts ≡ old.open_parts
    → strands.Rests old.recorder rest.recorder new.recorder count cost → Rests old rest new count cost
rests_recorded old rest new count cost r kept same rests Values tags from os es fs small light open_ s n h g = absurd (not_values old.detail r h.0)
rests_recorded old rest new count cost r kept same rests Strands tags from os es fs small light open_ s n h g =
    let known = as_open (given_open from) count cost os old h.1.0 in
    (kept ∙ h.0, (record { many = same ∙ known.many; few = known.few }, rests from (here_in (base_of from) os) os es fs small open_ s n h.1.1 g.1.1))
rests_recorded old rest new count cost r kept same rests (Measures burden) tags from os es fs small light open_ s n h g = absurd (not_measures old.detail burden r h.0)

-- a meter begins
pub starts_as : (d : Detail) (m : Meter) → m.detail ≡ d → m.open_parts ≡ 1 → strands.Starts m.recorder → StartsTables (burden_of d) m.tables
    → m.parts.items ≡ record { kind = kind.Call; site = 0; spawned = false } ∷ [] → Starts d m
starts_as Values m is outer kept starts parts = λ tags. (is, record { many = outer; few = omega arith })
starts_as Strands m is outer kept starts parts = λ tags. (is, (record { many = outer; few = omega arith }, kept))
starts_as (Measures burden) m is outer kept starts parts = λ tags. (is, meter_starts burden m starts parts tags)

pub rest_starts_as : (d : Detail) (site : ℕ) (m : Meter) → m.detail ≡ d → m.open_parts ≡ 0 → strands.StartsRest m.recorder
    → StartsTablesOfRest (burden_of d) site m.tables → m.parts.items ≡ [] → StartsRest d site m
rest_starts_as Values site m is outer kept starts parts = λ tags. (is, record { many = outer; few = omega arith })
rest_starts_as Strands site m is outer kept starts parts = λ tags. (is, (record { many = outer; few = omega arith }, kept site))
rest_starts_as (Measures burden) site m is outer kept starts parts = λ tags. (is, meter_rest_starts burden site m starts parts tags)

-- the site that the meter reports
pub here_as : (m : Meter) → IsHere m m.tables.sites.here
here_as m Values tags from count os es h = tt
here_as m Strands tags from count os es h = tt
here_as m (Measures burden) tags from count os es h = meter_here m burden tags from count os es h.1

pub outside_counted : (m : Meter) → is_counted m.detail ≡ true → IsOutside m (nat_eq (length m.parts.items) 0)
outside_counted m so Values tags from count os es h = absurd (differ is_counted m.detail Values so refl h.0)
outside_counted m so Strands tags from count os es h = absurd (differ is_counted m.detail Strands so refl h.0)
outside_counted m so (Measures burden) tags from count os es h = ap (λ n. nat_eq n 0) (parts_many burden tags from count os es m h.1)

pub outside_uncounted : (m : Meter) → is_counted m.detail ≡ false → IsOutside m (nat_eq m.open_parts 0)
outside_uncounted m so Values tags from count os es h = ap (λ n. nat_eq n 0) h.1.many
outside_uncounted m so Strands tags from count os es h = ap (λ n. nat_eq n 0) h.1.0.many
outside_uncounted m so (Measures burden) tags from count os es h = absurd (differ is_counted (Measures burden) m.detail refl so (sym h.0))

-- the strands of a whole run
pub reads_strands : (m : Meter) (count : ℕ) (kept : Recorded) → strands.Reads m.recorder count kept → ReadsStrands m count kept
reads_strands m count kept reads = λ tags es h. reads es h.1.1
