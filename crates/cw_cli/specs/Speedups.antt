-- The text of the speedups of a run.
use Rattle.std.specs.Prelude.{ℕ, List, []}
use Rattle.cw_model.specs.declared.burden.Burden.{Burden}
use Rattle.cw_model.specs.Trees.{Tree, work, span, burdened_span}
use Rattle.cw_model.specs.Answers.{Answer, Ended, TrappedAt, OverLimit}
use Rattle.cw_meter.specs.declared.meter.Readings.{Readings}
use Rattle.cw_greedy_schedule.specs.Speedups.{rows_up_to}
use Rattle.cw_report.specs.Speedups as texts

-- what a strand tree measures
abbrev pub readings_of : Burden → Tree → Readings
readings_of burden t = record { work = work t; span = span t; burdened = burdened_span burden t }

-- the names of the columns, and a row for each power of two below `most` and one for `most`, of a run that ended; of
-- another run nothing
abbrev pub speedup_text : (most : ℕ) → Burden → Answer → List ℕ
speedup_text most burden (Ended v lines totals t) = texts.speedup_text (readings_of burden t) (rows_up_to most t)
speedup_text most burden (TrappedAt trap line lines) = []
speedup_text most burden OverLimit = []
