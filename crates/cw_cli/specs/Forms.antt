-- The two forms of a report: CSV and a table with aligned columns.
use Rattle.std.specs.Prelude.{ℕ, Bool, List, []}
use Rattle.cw_report.specs.Layouts.{shown, scale_columns, sites_columns, gain_columns, speedup_columns}
use Rattle.cw_words.specs.declared.asked.Mode.{Mode}
use Rattle.cw_words.specs.declared.asked.Mode.TheVariants as mode

-- the text of a mode as it is written; a mode without a table ignores the option
abbrev pub in_form : Mode → (table : Bool) → (csv : List ℕ) → List ℕ
in_form mode.Scale table csv = shown scale_columns csv table
in_form mode.Sites table csv = shown sites_columns csv table
in_form (mode.Gain top) table csv = shown gain_columns csv table
in_form (mode.Speedup most) table csv = shown speedup_columns csv table
in_form _ table csv = csv
