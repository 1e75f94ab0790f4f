-- The columns of the aligned reports, and the text of a report in either form.
use Rattle.std.specs.Prelude.{ℕ, Bool, true, false, List, [], ◌∷◌, Result}
use Rattle.cw_text.specs.declared.fault.Fault.{Fault}
use Rattle.cw_runnable.specs.declared.verified.Verified.{Verified}
use Rattle.cw_machine.specs.declared.alone.Ended.{Ended}
use Rattle.cw_gains.specs.declared.gains.Gains.{Gains}
use Rattle.cw_greedy_schedule.specs.declared.speedups.Speedup.{Speedup}
use Rattle.cw_report.specs.declared.column.Column.{Column}
use Rattle.cw_report.specs.declared.column.Column.TheVariants.{Word, Label, Number, OfWork, OfSpan}
use Rattle.cw_report.specs.Aligned.{aligned}
use Rattle.cw_report.specs.Texts.{gain_report, scale_report, sites_report}
use Rattle.cw_report.specs.Speedups.{speedup_report}

-- the columns of `scale`: the fields of its CSV
abbrev pub scale_columns : List Column
scale_columns = Word 0 ∷ Number 1 ∷ Number 2 ∷ Number 3 ∷ Number 4 ∷ Number 5 ∷ []

-- the columns of `sites`: the fields of its CSV, with the shares of own work and own span after them; the first row is
-- the whole run
abbrev pub sites_columns : List Column
sites_columns =
    Label 0 ∷ Word 1 ∷ Label 2 ∷ Word 3 ∷ Number 4 ∷ Number 5 ∷ OfWork 5 7 ∷ Number 6 ∷ OfSpan 6 8 ∷ Number 7 ∷ Number 8
    ∷ []

-- the columns of `gain`, with the same shares
abbrev pub gain_columns : List Column
gain_columns =
    Word 0 ∷ Label 1 ∷ Number 2 ∷ Number 3 ∷ OfWork 3 3 ∷ Number 4 ∷ OfSpan 4 4 ∷ Number 5 ∷ Number 6 ∷ Number 7 ∷ []

-- the columns of `speedup`
abbrev pub speedup_columns : List Column
speedup_columns = Number 0 ∷ Number 1 ∷ Number 2 ∷ Number 3 ∷ Number 4 ∷ Number 5 ∷ []

-- a report as it is shown: its CSV text, or a table of the columns; a report without text stays empty
abbrev pub shown : List Column → (csv : List ℕ) → (table : Bool) → List ℕ
shown columns [] table = []
shown columns (c ∷ cs) false = c ∷ cs
shown columns (c ∷ cs) true = aligned columns (c ∷ cs)

-- the reports of a run in either form
abbrev pub scale_in_form : Result Ended Fault → (table : Bool) → List ℕ
scale_in_form ended table = shown scale_columns (scale_report ended) table

abbrev pub sites_in_form : Verified → Result Ended Fault → (table : Bool) → List ℕ
sites_in_form verified ended table = shown sites_columns (sites_report verified ended) table

abbrev pub gain_in_form : Result Gains Fault → (table : Bool) → List ℕ
gain_in_form gains table = shown gain_columns (gain_report gains) table

abbrev pub speedup_in_form : Result Speedup Fault → (table : Bool) → List ℕ
speedup_in_form speedup table = shown speedup_columns (speedup_report speedup) table
