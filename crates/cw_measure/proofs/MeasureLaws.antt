-- The measure of a list of events, event by event.
use Rattle.std.specs.Prelude.{◌≡◌, ℕ, ◌+◌, ◌^◌, ◌<◌, min, List, [], ◌∷◌, ◌++◌, refl}
use Rattle.std.proofs.Common.{sym, ◌∙◌, ap, subst, arith}
use Rattle.cw_model.specs.declared.burden.Burden.{Burden}
use Rattle.cw_model.specs.Burdens.{at_child, no_burden}
use Rattle.cw_model.specs.Trees.{Tree, Event, Work, Series, Fork, Join, tree_of, work, span, burdened_span}
use Rattle.cw_measure.specs.Counters.{exactly, up_to, onward, held, of_event, of_events, CountersReadSpans}
use Rattle.cw_measure.specs.Measured.{Measured, most, most_burdened, measure_of, joined, span_read, burdened_read, after_work}
use Rattle.cw_measure.specs.Measured.{after_part, after_child, after_join, ReadsTree, Measures, MeasuresReadTrees}
use Rattle.cw_measure.specs.SumLaws.{up_to_is, exactly_is}
use Rattle.cw_measure.specs.lemmas.BlockWeights.{child_charge}
use Rattle.cw_measure.specs.CounterLaws.{ticked_onward, forked_onward, onward-fresh_last, synced_onward, of_events-append, heaviest-of_events}
use Rattle.cw_measure.proofs.Holding.{held-sum, held-onward, held-heaviest}
use Rattle.cw_measure.specs.lemmas.OpenParts.{work-append}

-- the work of an event
abbrev pub work_of : Event → ℕ
work_of (Work k) = k
work_of (Series t) = work t
work_of (Fork t) = work t
work_of Join = 0

work_parts : (e : Event) (events : List Event) → work (tree_of (e ∷ events)) ≡ work_of e + work (tree_of events)
work_parts (Work k) events = omega arith
work_parts (Series t) events = omega arith
work_parts (Fork t) events = omega arith
work_parts Join events = omega arith

pub reads_tree : (burden : Burden) (es : List Event) → ReadsTree burden (measure_of burden es) (tree_of es)
reads_tree burden es = record {
  work_is = refl;
  span_is = held-heaviest most (of_events no_burden es) ∙ ap (min most) (heaviest-of_events no_burden es);
  burdened_is = held-heaviest most_burdened (of_events burden es) ∙ ap (min most_burdened) (heaviest-of_events burden es);
}

pub measure_of-append : (burden : Burden) (es fs : List Event) → measure_of burden (es ++ fs) ≡ joined (measure_of burden es) (measure_of burden fs)
measure_of-append burden es fs =
    let w : min most (work (tree_of (es ++ fs))) ≡ up_to most (min most (work (tree_of es))) (min most (work (tree_of fs))) =
    ap (min most) (work-append es fs) ∙ sym (held-sum most (work (tree_of es)) (work (tree_of fs))) in
    let p : held most (of_events no_burden (es ++ fs)) ≡ onward (up_to most) (held most (of_events no_burden es))
    (held most (of_events no_burden fs)) = ap (held most) (of_events-append no_burden es fs)
    ∙ sym (held-onward most (of_events no_burden es) (of_events no_burden fs) (omega arith)) in
    let b : held most_burdened (of_events burden (es ++ fs)) ≡ onward (up_to most_burdened) (held most_burdened (of_events burden es))
    (held most_burdened (of_events burden fs)) = ap (held most_burdened) (of_events-append burden es fs)
    ∙ sym (held-onward most_burdened (of_events burden es) (of_events burden fs) (omega arith)) in
    cc

-- the measure of a single event
abbrev pub event_measure : (burden : Burden) → Event → Measured
event_measure burden e = record { work = min most (work_of e); plain = held most (of_event no_burden e); burdened = held most_burdened (of_event burden e) }

one_event : (burden : Burden) (e : Event) → measure_of burden (e ∷ []) ≡ event_measure burden e
one_event burden e =
    let w : work (tree_of (e ∷ [])) ≡ work_of e = work_parts e [] ∙ omega arith in
    let q = onward_first no_burden e in
    let c = onward_first burden e in cc
  where
    onward_first : (b : Burden) (e : Event) → of_events b (e ∷ []) ≡ of_event b e
    onward_first b e = onward-fresh_last exactly exactly_is (of_event b e)

one_more : (burden : Burden) (m : Measured) (es : List Event) (e : Event) → Measures burden m es → measure_of burden (es ++ e ∷ []) ≡ joined m (event_measure burden e)
one_more burden m es e h = measure_of-append burden es (e ∷ []) ∙ ap (joined (measure_of burden es)) (one_event burden e) ∙ ap (λ (x : Measured). joined x (event_measure burden e)) (sym h)

pub more_instructions : (burden : Burden) (n : ℕ) (m : Measured) (es : List Event) → n < 2 ^ 64 → Measures burden m es → Measures burden (after_work n m) (es ++ Work n ∷ [])
more_instructions burden n m es small h =
    let a : min most n ≡ n = omega arith in
    let b : min most_burdened n ≡ n = omega arith in
    let z : min most 0 ≡ 0 = omega arith in
    let y : min most_burdened 0 ≡ 0 = omega arith in
    let p = ticked_onward (up_to most) n m.plain in
    let q = ticked_onward (up_to most_burdened) n m.burdened in
    let all : after_work n m ≡ joined m (event_measure burden (Work n)) = cc in
    all ∙ sym (one_more burden m es (Work n) h)

pub part_more : (burden : Burden) (m part : Measured) (es : List Event) (t : Tree) → Measures burden m es → ReadsTree burden part t → Measures burden (after_part part m) (es ++ Series t ∷ [])
part_more burden m part es t h r =
    let z : min most 0 ≡ 0 = omega arith in
    let y : min most_burdened 0 ≡ 0 = omega arith in
    let p = ticked_onward (up_to most) (span_read part) m.plain in
    let q = ticked_onward (up_to most_burdened) (burdened_read part) m.burdened in
    let w = r.work_is in let s = r.span_is in let b = r.burdened_is in
    let all : after_part part m ≡ joined m (event_measure burden (Series t)) = cc in
    all ∙ sym (one_more burden m es (Series t) h)

pub child_more : (burden : Burden) (m child : Measured) (es : List Event) (t : Tree) → burden.charge < 2 ^ 64 → Measures burden m es
    → ReadsTree burden child t → Measures burden (after_child burden child m) (es ++ Fork t ∷ [])
child_more burden m child es t small h r =
    let z : min most 0 ≡ 0 = omega arith in
    let y : min most_burdened burden.charge ≡ burden.charge = omega arith in
    let p = forked_onward (up_to most) no_burden (span_read child) m.plain in
    let q = forked_onward (up_to most_burdened) burden (burdened_read child) m.burdened in
    let w = r.work_is in let s = r.span_is in let b = r.burdened_is in let g = child_charge burden in
    let c : up_to most 0 (span_read child) ≡ min most (0 + span t) = omega arith in
    let d : up_to most_burdened (at_child burden) (burdened_read child) ≡ min most_burdened (at_child burden + burdened_span burden t) = omega arith in
    let all : after_child burden child m ≡ joined m (event_measure burden (Fork t)) = cc in
    all ∙ sym (one_more burden m es (Fork t) h)

pub join_more : (burden : Burden) (m : Measured) (es : List Event) → Measures burden m es → Measures burden (after_join m) (es ++ Join ∷ [])
join_more burden m es h =
    let z : min most 0 ≡ 0 = omega arith in
    let y : min most_burdened 0 ≡ 0 = omega arith in
    let w = (up_to_is most).last m.work in
    let p = synced_onward (up_to most) (up_to_is most) m.plain in
    let q = synced_onward (up_to most_burdened) (up_to_is most_burdened) m.burdened in
    let all : after_join m ≡ joined m (event_measure burden Join) = cc in
    all ∙ sym (one_more burden m es Join h)

pub pieces_joined : (burden : Burden) (a b : Measured) (es fs : List Event) → Measures burden a es → Measures burden b fs → Measures burden (joined a b) (es ++ fs)
pieces_joined burden a b es fs h k = let e = measure_of-append burden es fs in cc

pub measure_reads : (burden : Burden) (m : Measured) (es : List Event) → Measures burden m es → ReadsTree burden m (tree_of es)
measure_reads burden m es h = let P : Measured → Type 0 = λ x. ReadsTree burden x (tree_of es) in subst P (sym h) (reads_tree burden es)

pub same_measure : (burden : Burden) (m m' : Measured) (es : List Event) → m ≡ m' → Measures burden m' es → Measures burden m es
same_measure burden m m' es e h = e ∙ h

pub counters_read_spans : CountersReadSpans
counters_read_spans = record { reads = heaviest-of_events; pieces = of_events-append }

pub measures_read_trees : MeasuresReadTrees
measures_read_trees = record { reads = reads_tree; pieces = measure_of-append }
