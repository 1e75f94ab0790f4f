-- What is written of what is counted of a run of code, in each mode.
use Rattle.std.specs.Prelude.{ℕ, Bool, List, [], Result}
use Rattle.cw_text.specs.declared.fault.Fault.{Fault}
use Rattle.cw_code.specs.Code.{Code, code_view}
use Rattle.cw_runnable.specs.declared.verified.Verified.{Verified}
use Rattle.cw_machine.specs.declared.alone.Ended.{Ended}
use Rattle.cw_report.specs.Texts.{scale_report, sites_of}
use Rattle.cw_cli.specs.Forms.{in_form}
use Rattle.cw_words.specs.declared.asked.Mode.{Mode}
use Rattle.cw_words.specs.declared.asked.Mode.TheVariants as mode

-- the mode has tables of a run
abbrev pub HasTables : Mode → Type 0
HasTables mode.Scale = Unit {0}
HasTables mode.Sites = Unit {0}
HasTables _ = ⊥

-- the tables of a run: work and span by region, or call sites; other modes have no such table
abbrev pub tables_of_mode : Mode → Code → Result Ended Fault → List ℕ
tables_of_mode mode.Check code ended = []
tables_of_mode mode.Run code ended = []
tables_of_mode (mode.Gain top) code ended = []
tables_of_mode (mode.Greedy processors) code ended = []
tables_of_mode (mode.Speedup most) code ended = []
tables_of_mode (mode.Page top most) code ended = []
tables_of_mode mode.Scale code ended = scale_report ended
tables_of_mode mode.Sites code ended = sites_of code ended

-- the same as they are written: CSV or aligned columns
abbrev pub shown_of : Mode → (table : Bool) → Code → Result Ended Fault → List ℕ
shown_of m table code ended = in_form m table (tables_of_mode m code ended)

-- the same of verified code
abbrev pub told_in : Mode → (table : Bool) → Verified → Result Ended Fault → List ℕ
told_in m table verified ended = shown_of m table (code_view verified.code) ended
