-- Effects, which workers hand to each other, as parts: what the effects of two pieces show and count joins as views and
-- measures do, and effects follow one another as parts do.
use Rattle.std.specs.Prelude.{◌≡◌, ℕ, ℤ, ◌+◌, ◌++◌, min, List, map}
use Rattle.cw_model.specs.declared.burden.Burden.{Burden}
use Rattle.cw_model.specs.Syntax.{Name}
use Rattle.cw_model.specs.Answers.{total_to}
use Rattle.cw_model.specs.Trees.{Tree, Event, Invocation, Marked, normal, tree_of, burdened_span}
use Rattle.cw_model.specs.Trees as trees
use Rattle.cw_model.specs.Outcome.{Trace, joined}
use Rattle.cw_code.specs.Code.{Code}
use Rattle.cw_code.specs.Run.{State}
use Rattle.cw_measure.specs.Measured.{Measured, Measures, measure_of, most, most_burdened, span_read, burdened_read}
use Rattle.cw_measure.specs.Measured as measured
use Rattle.cw_meter.specs.declared.meter.Readings.{Readings}
use Rattle.cw_meter.specs.Whole.{AreReadings}
use Rattle.cw_reduce.specs.ReducerState.{ReducerState, held}
use Rattle.cw_reduce.specs.PieceResults as views
use Rattle.cw_code.specs.Jobs.{JoinFrame, Effect, Ended, Joined, TrapIn, OverLimit}
use Rattle.cw_code.specs.Jobs as jobs
use Rattle.cw_code.specs.Strands.{HasStopped, resumed, stopped_after, dropped}
use Rattle.cw_jobs.specs.declared.effect.PieceOutput.{PieceOutput}
use Rattle.cw_jobs.specs.Means.{HasOutput}
use Rattle.cw_jobs.specs.Totals.{kept}
use Rattle.cw_part.specs.declared.read.Read.{Read}
use Rattle.cw_part.specs.Parts.{Came, Completed, Trapped, Over, Memory, followed}
use Rattle.cw_part.specs.Read.{read_joined, readings}

-- what an effect has shown, as the views of a piece
abbrev pub views_of : PieceOutput → views.PieceResults
views_of s = record { totals = map held s.totals.items; lines = s.lines.items }

-- an effect of each of two pieces of a run, the second after the first, and an effect of both as one: what the last one
-- shows is what the first two show, joined as views
abbrev pub EffectsShowViews : Type 0
EffectsShowViews =
    (code : Code) (a b both : PieceOutput) (t u : Trace) (m n k : ℕ)
    → HasOutput code a t m → HasOutput code b u n → HasOutput code both (joined t u) k
    → views_of both ≡ views.shown_joined (views_of a) (views_of b)

-- a measure has these readings, up to the largest numbers that it holds
pub record HasReadings (m : Measured) (r : Readings) : Type 0 where
  pub work : m.work ≡ min most r.work
  pub span : span_read m ≡ min most r.span
  pub burdened : burdened_read m ≡ min most_burdened r.burdened

-- the readings of the tree of a whole run, which its meter has, are the readings of the measures of its pieces, joined
abbrev pub RunsReadAsMeasures : Type 0
RunsReadAsMeasures =
    (burden : Burden) (es fs : List Event) (m n : Measured) (r : Readings)
    → Measures burden m es → Measures burden n fs
    → AreReadings burden (normal (Marked (Invocation 0) (tree_of (es ++ fs)))) r
    → HasReadings (measured.joined m n) r

-- what is held of the reducers of code after these updates
abbrev pub totals_after : Code → List (Name × ℤ) → List ReducerState
totals_after code updates = map held (map (λ r. kept (total_to r.how r.name updates)) code.reducers)

-- what is read of a piece has the lines and the totals of its trace, the work of this many instructions, and the counters
-- of its spans, without a burden and with it
pub record HasRead (code : Code) (burden : Burden) (a : Read) (t : Trace) (cost : ℕ) : Type 0 where
  pub lines : a.views.lines ≡ t.lines
  pub totals : a.views.totals ≡ totals_after code t.updates
  pub work : a.measure.work ≡ min most cost
  pub plain : a.measure.plain ≡ (measure_of burden t.events).plain
  pub burdened : a.measure.burdened ≡ (measure_of burden t.events).burdened

-- so its spans are those of the tree of its events
pub record HasSpans (burden : Burden) (m : Measured) (t : Tree) : Type 0 where
  pub span : span_read m ≡ min most (trees.span t)
  pub burdened : burdened_read m ≡ min most_burdened (burdened_span burden t)

-- an effect says how a piece came out: it ran to its end; it trapped, after these lines and with this work; it exceeded
-- the limit; or memory was lacking
abbrev pub IsOutcome : Code → Burden → Effect → Came Read → Type 0
IsOutcome code burden (Ended value arrays t cost) (Completed a) = HasRead code burden a t cost
IsOutcome code burden (Joined frame t cost) (Completed a) = HasRead code burden a t cost
IsOutcome code burden (TrapIn trap line lines cost) (Trapped trap' line' a) =
    (trap' ≡ trap) × (line' ≡ line) × (a.views.lines ≡ lines) × (a.measure.work ≡ min most cost)
IsOutcome code burden OverLimit Over = Unit {0}
IsOutcome code burden jobs.Memory Memory = Unit {0}
IsOutcome code burden _ _ = ⊥

-- a strand that waits receives the effect of the continuation: it goes on with what both have shown and counted, or comes
-- out as the part of both; a strand that had stopped comes out so too, whatever became of its continuation
pub record EffectsFollow : Type 0 where
  pub goes_on : (code : Code) (burden : Burden) (s : State) (count : ℕ) (frame : JoinFrame) (t : Trace) (cost : ℕ) (a b : Read)
      → HasRead code burden a s.trace count → HasRead code burden b t cost
      → HasRead code burden (read_joined a b) (resumed s frame t).trace (count + cost)
  pub stops : (code : Code) (burden : Burden) (s : State) (count : ℕ) (e : Effect) (a : Read) (c : Came Read) → HasStopped e
      → HasRead code burden a s.trace count → IsOutcome code burden e c
      → IsOutcome code burden (stopped_after s count e) (followed readings (Completed a) c)
  pub drops : (code : Code) (burden : Burden) (e rest : Effect) (c d : Came Read) → HasStopped e → IsOutcome code burden e c
      → IsOutcome code burden rest d → IsOutcome code burden (dropped e rest) (followed readings c d)
  pub spans : (code : Code) (burden : Burden) (a : Read) (t : Trace) (cost : ℕ) → HasRead code burden a t cost
      → HasSpans burden a.measure (tree_of t.events)
