-- The text of the speedup report.
use Rattle.std.specs.Prelude.{ℕ, zero, suc, ◌+◌, ◌*◌, ◌/◌, min, List, [], ◌∷◌, ◌++◌, codes, decimal, Option, Some, None, Result, Ok, Err}
use Rattle.cw_model.specs.Report.{csv_line, end_of_line, parallelism, thousandths}
use Rattle.cw_text.specs.declared.fault.Fault.{Fault}
use Rattle.cw_meter.specs.declared.meter.Readings.{Readings}
use Rattle.cw_greedy_schedule.specs.declared.speedups.SpeedupRow.{SpeedupRow}
use Rattle.cw_greedy_schedule.specs.declared.speedups.Speedup.{Speedup}

-- the names of the columns
abbrev pub speedup_header : List ℕ
speedup_header = codes "processors,steps,speedup,speedup_bound,burdened_steps,burdened_speedup" ++ end_of_line

-- work by span in thousandths, rounded down, and 0 if there is no span
abbrev pub ratio : (work span : ℕ) → ℕ
ratio work zero = 0
ratio work (suc span) = 1000 * work / suc span

-- no schedule is faster: the smaller of the processors and work by span, in thousandths
abbrev pub speedup_bound : (processors work span : ℕ) → ℕ
speedup_bound p work span = min (1000 * p) (ratio work span)

-- the same, to three digits
abbrev pub bound_text : (processors work span : ℕ) → List ℕ
bound_text p work span = thousandths (speedup_bound p work span)

-- an estimate for a run in which steals cost time: the upper bound of greedy schedules with the burdened span instead
-- of the span, rounded down
abbrev pub burdened_steps : (processors work burdened : ℕ) → ℕ
burdened_steps zero work burdened = 0
burdened_steps (suc others) work burdened = (work + others * burdened) / suc others

-- steps, if there are any
abbrev pub steps_text : Option ℕ → List ℕ
steps_text None = []
steps_text (Some steps) = decimal steps

-- work by steps, if there are any
abbrev pub steps_speedup : (work : ℕ) → Option ℕ → List ℕ
steps_speedup work None = []
steps_speedup work (Some steps) = parallelism work steps

-- the row of a number of processors
abbrev pub speedup_line : Readings → SpeedupRow → List ℕ
speedup_line m row =
    let burdened = burdened_steps row.processors m.work m.burdened in
    csv_line (decimal row.processors ∷ steps_text row.steps ∷ steps_speedup m.work row.steps
    ∷ bound_text row.processors m.work m.span ∷ decimal burdened ∷ parallelism m.work burdened ∷ [])

-- the lines of several numbers of processors
abbrev pub speedup_lines : Readings → List SpeedupRow → List ℕ
speedup_lines m [] = []
speedup_lines m (row ∷ rows) = speedup_line m row ++ speedup_lines m rows

-- the measures of a run, by number of processors
abbrev pub speedup_text : Readings → List SpeedupRow → List ℕ
speedup_text m rows = speedup_header ++ speedup_lines m rows

-- the text of a run that ended; nothing of another run
abbrev pub speedup_report : Result Speedup Fault → List ℕ
speedup_report (Ok s) = speedup_text s.measure s.rows.items
speedup_report (Err e) = []
