-- The measure of the events of a piece of one sync block.
use Rattle.std.specs.Prelude.{◌≡◌, ℕ, ◌-◌, ◌^◌, min, List, [], ◌∷◌, ◌++◌}
use Rattle.cw_model.specs.declared.burden.Burden.{Burden}
use Rattle.cw_model.specs.Burdens.{no_burden}
use Rattle.cw_model.specs.Trees.{Tree, Event, Series, Fork, tree_of, work, span, burdened_span}
use Rattle.cw_measure.specs.Counters.{Counters, up_to, onward, fresh, ticked, forked, synced, heaviest, held, of_events}

-- the maximum of work and span
abbrev pub most : ℕ
most = 2 ^ 64 - 1

-- the maximum of a burdened span
abbrev pub most_burdened : ℕ
most_burdened = 2 ^ 128 - 1

-- the work, and the counters without and with a burden
pub record Measured : Type 0 where
  pub work : ℕ
  pub plain : Counters
  pub burdened : Counters

-- the measure of events, with the charge for each fork
abbrev pub measure_of : Burden → List Event → Measured
measure_of burden events =
    record {
      work = min most (work (tree_of events));
      plain = held most (of_events no_burden events);
      burdened = held most_burdened (of_events burden events);
    }

-- the measure of an empty piece
abbrev pub nothing : Measured
nothing = record { work = 0; plain = fresh; burdened = fresh }

-- the measure of two consecutive pieces
abbrev pub joined : Measured → Measured → Measured
joined a b =
    record {
      work = up_to most a.work b.work;
      plain = onward (up_to most) a.plain b.plain;
      burdened = onward (up_to most_burdened) a.burdened b.burdened;
    }

-- the span of a measure
abbrev pub span_read : Measured → ℕ
span_read m = heaviest (up_to most) m.plain

-- the burdened span of a measure
abbrev pub burdened_read : Measured → ℕ
burdened_read m = heaviest (up_to most_burdened) m.burdened

-- adds instructions
abbrev pub after_work : ℕ → Measured → Measured
after_work n m =
    record {
      work = up_to most m.work n;
      plain = ticked (up_to most) n m.plain;
      burdened = ticked (up_to most_burdened) n m.burdened;
    }

-- adds a part in series, given its measure
abbrev pub after_part : Measured → Measured → Measured
after_part part m =
    record {
      work = up_to most m.work part.work;
      plain = ticked (up_to most) (span_read part) m.plain;
      burdened = ticked (up_to most_burdened) (burdened_read part) m.burdened;
    }

-- adds a spawned child, given its measure
abbrev pub after_child : Burden → Measured → Measured → Measured
after_child burden child m =
    record {
      work = up_to most m.work child.work;
      plain = forked (up_to most) no_burden (span_read child) m.plain;
      burdened = forked (up_to most_burdened) burden (burdened_read child) m.burdened;
    }

-- adds a join
abbrev pub after_join : Measured → Measured
after_join m = record { work = m.work; plain = synced m.plain; burdened = synced m.burdened }

-- the readings are the measures of a tree; a reading above the maximum of its type is this maximum
pub record ReadsTree (burden : Burden) (m : Measured) (t : Tree) : Type 0 where
  pub work_is : m.work ≡ min most (work t)
  pub span_is : span_read m ≡ min most (span t)
  pub burdened_is : burdened_read m ≡ min most_burdened (burdened_span burden t)

-- `m` is the measure of the events so far
abbrev pub Measures : Burden → Measured → List Event → Type 0
Measures burden m events = m ≡ measure_of burden events

-- adds an event: the measure of some events becomes the measure of these events and one more
abbrev pub AddsEvent : Measured → Measured → Event → Type 0
AddsEvent old new e = (burden : Burden) (es : List Event) → Measures burden old es → Measures burden new (es ++ e ∷ [])

-- adds a part in series: the measure of some events becomes the measure of these events and the part
abbrev pub AddsPart : Measured → Measured → (part : Measured) → Type 0
AddsPart old new part =
    (burden : Burden) (es : List Event) (t : Tree) → Measures burden old es → ReadsTree burden part t
    → Measures burden new (es ++ Series t ∷ [])

-- adds a spawned child: the measure of some events becomes the measure of these events and the child
abbrev pub AddsChild : Burden → Measured → Measured → (child : Measured) → Type 0
AddsChild burden old new child =
    (es : List Event) (t : Tree) → Measures burden old es → ReadsTree burden child t
    → Measures burden new (es ++ Fork t ∷ [])

-- the measures of two lists of events are joined to the measure of their concatenation
abbrev pub JoinsEvents : Measured → Measured → (whole : Measured) → Type 0
JoinsEvents left right whole =
    (burden : Burden) (es fs : List Event) → Measures burden left es → Measures burden right fs
    → Measures burden whole (es ++ fs)

-- the readings are the measures of the tree of the events so far
abbrev pub ReadsEvents : Measured → Type 0
ReadsEvents m = (burden : Burden) (es : List Event) → Measures burden m es → ReadsTree burden m (tree_of es)

-- the measure of events gives the measures of their tree, and measures of two pieces compose
pub record MeasuresReadTrees : Type 0 where
  pub reads : (burden : Burden) (es : List Event) → ReadsTree burden (measure_of burden es) (tree_of es)
  pub pieces : (burden : Burden) (es fs : List Event)
      → measure_of burden (es ++ fs) ≡ joined (measure_of burden es) (measure_of burden fs)
