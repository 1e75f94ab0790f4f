-- The text of the greedy schedule of a run, and what is promised of it.
use Rattle.std.specs.Prelude.{◌≡◌, ◌≤◌, ◌<◌, ℕ, List, [], ◌∷◌, ◌++◌, decimal}
use Rattle.cw_model.specs.declared.burden.Burden.{Burden}
use Rattle.cw_model.specs.Trees.{Tree, work, span, burdened_span}
use Rattle.cw_model.specs.Answers.{Answer, Ended, TrappedAt, OverLimit}
use Rattle.cw_model.specs.Report.{csv_line}
use Rattle.cw_model.specs.declared.limits.TheConstants.{MOST_STRANDS}
use Rattle.cw_greedy.specs.Recorded.{capped}
use Rattle.cw_greedy.specs.Blocks.{strand_count}
use Rattle.cw_greedy.specs.Greedy.{greedy_length}
use Rattle.cw_greedy_schedule.specs.State.{IsWithin}
use Rattle.cw_report.specs.Speedups.{burdened_steps, ratio, speedup_bound}
use Rattle.cw_report.specs.Texts.{schedule_header}
use Rattle.cw_words.specs.declared.asked.Mode.{Mode}
use Rattle.cw_words.specs.declared.asked.Mode.TheVariants as mode

-- the row of a run with this strand tree: processors, work, span and the length of the greedy schedule
abbrev pub greedy_row : ℕ → Tree → List ℕ
greedy_row processors t =
    csv_line (decimal processors ∷ decimal (work t) ∷ decimal (span t) ∷ decimal (greedy_length processors t) ∷ [])

-- the names of the columns and the row of a run that ended; of another nothing
abbrev pub greedy_text : ℕ → Answer → List ℕ
greedy_text processors (Ended v lines totals t) = schedule_header ++ greedy_row processors t
greedy_text processors (TrappedAt trap line lines) = []
greedy_text processors OverLimit = []

-- the strands of a run are no more than are kept, and the length of its schedule is no less than work and span need,
-- and no more than both together
pub record IsScheduled (processors : ℕ) (t : Tree) : Type 0 where
  pub few : strand_count t ≤ MOST_STRANDS
  pub bounds : IsWithin processors (greedy_length processors t) t

-- the speedups of a row, in thousandths, are in the order of their columns: the estimate with burdens is no larger than
-- the speedup of the schedule, and that no larger than its bound
pub record IsOrdered (burden : Burden) (t : Tree) (processors : ℕ) : Type 0 where
  pub estimate : ratio (work t) (burdened_steps processors (work t) (burdened_span burden t))
      ≤ ratio (work t) (greedy_length processors t)
  pub bound : ratio (work t) (greedy_length processors t) ≤ speedup_bound processors (work t) (span t)

-- the lengths of all greedy schedules of a run are no less than work and span need, and no more than both together; so the
-- speedups are ordered, for each burden
pub record AreBounded (t : Tree) : Type 0 where
  pub bounds : (processors : ℕ) → 1 ≤ processors → IsWithin processors (greedy_length processors t) t
  pub ordered : (burden : Burden) (processors : ℕ) → 1 ≤ processors → IsOrdered burden t processors

-- this holds where a schedule is asked for of a run that ended, or several are; of another run, and in another mode,
-- nothing
abbrev pub IsScheduledIn : Mode → Answer → Type 0
IsScheduledIn (mode.Greedy processors) (Ended v lines totals t) = IsScheduled processors t
IsScheduledIn (mode.Speedup most) (Ended v lines totals t) = AreBounded t
IsScheduledIn (mode.Page top most) (Ended v lines totals t) = AreBounded t
IsScheduledIn _ _ = Unit {0}

-- a schedule is asked for, and the run ended with more strands than are kept; this number of strands is reported
abbrev pub HasTooManyStrands : Mode → Answer → (told : ℕ) → Type 0
HasTooManyStrands (mode.Greedy processors) (Ended v lines totals t) told =
    (MOST_STRANDS < strand_count t) × (told ≡ capped (strand_count t))
HasTooManyStrands _ _ told = ⊥
