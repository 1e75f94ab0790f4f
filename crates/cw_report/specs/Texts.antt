-- The texts of reports.
use Rattle.std.specs.Prelude.{◌≡◌, ℕ, ℤ, List, [], ◌∷◌, ◌++◌, codes, decimal, map, flat_map, Result, Ok, Err, IfOk}
use Rattle.std.specs.Prelude.{OnOk}
use Rattle.std.specs.Global.{Vec}
use Rattle.indexmap.specs.IndexMap.{values}
use Rattle.cw_model.specs.declared.total.Total.{Total}
use Rattle.cw_model.specs.Syntax as Syntax
use Rattle.cw_model.specs.Syntax.{Name}
use Rattle.cw_model.specs.Sites.{CallSite}
use Rattle.cw_model.specs.Freed.{FunctionRow}
use Rattle.cw_model.specs.Report.{value_line, reduction_word, total_line, total_lines, csv_line, end_of_line}
use Rattle.cw_model.specs.Report.{scale_header, scale_line, sites_header, site_kind_text, gain_header, gain_line}
use Rattle.cw_code.specs.Code.{Code, code_view, site_view, reported_sites}
use Rattle.cw_code.specs.declared.code.Reducer.{Reducer}
use Rattle.cw_code.specs.declared.code.Site.{Site}
use Rattle.cw_sites.specs.declared.table.SiteRow.{SiteRow}
use Rattle.cw_regions.specs.declared.table.RegionRow.{RegionRow}
use Rattle.cw_runnable.specs.declared.verified.Verified.{Verified}
use Rattle.cw_machine.specs.declared.alone.Ended.{Ended}
use Rattle.cw_machine.specs.declared.values.Values.{Values}
use Rattle.cw_meter.specs.declared.meter.Readings.{Readings}
use Rattle.cw_greedy_schedule.specs.declared.schedules.Schedule.{Schedule}
use Rattle.cw_gains.specs.Gains.{root_at}
use Rattle.cw_gains.specs.declared.counts.Sums.{Sums}
use Rattle.cw_gains.specs.declared.gains.FunctionGain.{FunctionGain}
use Rattle.cw_gains.specs.declared.gains.Gains.{Gains}
use Rattle.cw_text.specs.declared.fault.Fault.{Fault}
use Rattle.cw_text.specs.declared.fault.Fault.TheVariants as fault

-- these bytes were appended to a text, unless memory ran out
abbrev pub Grows : {E : Type 0} → (old new : Vec ℕ) → List ℕ → Result (Unit {0}) E → Type 0
Grows old new more r = OnOk r (new.items ≡ old.items ++ more)

-- a text was made, unless memory ran out
abbrev pub Makes : {E : Type 0} → List ℕ → Result (Vec ℕ) E → Type 0
Makes text r = IfOk r (λ made. made.items ≡ text)

-- a text, then a number and a line feed
abbrev pub line_after : (front : List ℕ) → (number : ℕ) → List ℕ
line_after front number = (front ++ decimal number) ++ codes "\n"

-- the line of a trap
abbrev pub trap_line : (number line : ℕ) → List ℕ
trap_line number line = (codes "trap " ++ decimal number) ++ line_after (codes " line ") line

-- the line of a reducer
abbrev pub reducer_line : Reducer → Total → List ℕ
reducer_line r total = reduction_word r.how ++ (r.name ++ (codes " = " ++ total_line total))

-- the reducers of code, as reports show them
abbrev pub told_reducers : List Reducer → List Syntax.Reducer
told_reducers reducers = map (λ r. record { name = r.name; how = r.how; line = 0 }) reducers

-- the lines of reducers
abbrev pub totals_text : List Reducer → List Total → List ℕ
totals_text reducers totals = total_lines (told_reducers reducers) totals

-- the report of a run of code that printed these values, has these totals and returned this value
abbrev pub ended_text : Code → List ℤ → List Total → ℤ → List ℕ
ended_text code lines totals v =
    flat_map value_line lines ++ (totals_text code.reducers totals ++ (codes "return " ++ value_line v))

-- the report of a run, from its recorded values
abbrev pub run_text : Code → Values → List ℕ
run_text code values = ended_text code values.lines.items values.totals.items values.value

-- the report of a run, or, if it trapped, the lines that it printed before
abbrev pub handed_text : Code → Result Values Fault → List ℕ
handed_text code (Ok values) = run_text code values
handed_text code (Err (fault.Trap trap line output)) = flat_map value_line output.items
handed_text code (Err _) = []

-- the line of each tag, from the row under this tag
abbrev pub tag_lines : List (Vec ℕ × RegionRow) → List ℕ
tag_lines [] = []
tag_lines (entry ∷ entries) = scale_line entry.0.items entry.1.work entry.1.span entry.1.burdened ++ tag_lines entries

-- work and span of a run that ended, and of each of its tags
abbrev pub scale_text : Ended → List ℕ
scale_text ended =
    scale_header
    ++ (scale_line [] ended.measure.work ended.measure.span ended.measure.burdened ++ tag_lines ended.regions.entries)

-- the scale report of a run; empty if the run did not end
abbrev pub scale_report : Result Ended Fault → List ℕ
scale_report (Ok ended) = scale_text ended
scale_report (Err e) = []

-- the columns of the schedule report
abbrev pub schedule_header : List ℕ
schedule_header = codes "processors,work,span,greedy" ++ end_of_line

-- the row of the schedule report
abbrev pub schedule_line : Schedule → List ℕ
schedule_line s = csv_line (decimal s.processors ∷ decimal s.work ∷ decimal s.span ∷ decimal s.greedy ∷ [])

-- the report of work, span and the length of the greedy schedule of a run that ended
abbrev pub schedule_text : Schedule → List ℕ
schedule_text s = schedule_header ++ schedule_line s

-- the schedule report of a run; empty if the run did not end or has too many strands
abbrev pub schedule_report : Result Schedule Fault → List ℕ
schedule_report (Ok s) = schedule_text s
schedule_report (Err e) = []

-- the measures of a site, as the last fields of its line
abbrev pub counts_of : SiteRow → List (List ℕ)
counts_of row =
    decimal row.calls ∷ decimal row.own_work ∷ decimal row.own_span ∷ decimal row.work ∷ decimal row.span ∷ []

-- the line of a site: its fields that come from the source, and its measures
abbrev pub told_line : (number : ℕ) (kind : List ℕ) (line : ℕ) (callee : Name) → SiteRow → List ℕ
told_line number kind line callee row = csv_line (decimal number ∷ kind ∷ decimal line ∷ callee ∷ counts_of row)

-- the line of a call site
abbrev pub row_line : CallSite → SiteRow → List ℕ
row_line site row = told_line site.number (site_kind_text site.kind) site.line site.callee row

-- the line of each site, up to the first site without a row
abbrev pub row_lines : List CallSite → List SiteRow → List ℕ
row_lines [] rows = []
row_lines (site ∷ sites) [] = []
row_lines (site ∷ sites) (row ∷ rows) = row_line site row ++ row_lines sites rows

-- the line of each call site of code
abbrev pub site_lines : List Site → List SiteRow → List ℕ
site_lines sites rows = row_lines (map (λ s. s.told) (map site_view sites)) rows

-- the lines of the call of `main` by the run itself and of each call site of code
abbrev pub told_rows : Code → List SiteRow → List ℕ
told_rows code rows = row_lines (root_at code.main_line ∷ reported_sites code) rows

-- the sites report of a run that ended, from the rows of the run in their order
abbrev pub sites_text : Code → Ended → List ℕ
sites_text code ended = sites_header ++ told_rows code (values ended.sites)

-- the sites report of a run; empty if the run did not end
abbrev pub sites_of : Code → Result Ended Fault → List ℕ
sites_of code (Ok ended) = sites_text code ended
sites_of code (Err e) = []

-- a line of the gain report, from sums and from the spans if the instructions that the sums count took no time
abbrev pub sums_line : Name → (line : ℕ) → Sums → (work span burdened : ℕ) → List ℕ
sums_line name line sums work span burdened =
    let row : FunctionRow = record {
      name = name;
      line = line;
      calls = sums.calls;
      own_work = sums.own_work;
      own_span = sums.own_span;
    } in
    gain_line row work span burdened

-- the line of the whole run, which has no name
abbrev pub whole_line : Readings → List ℕ
whole_line m =
    sums_line [] 0 (record { calls = 0; own_work = m.work; own_span = m.span }) m.work m.span m.burdened

-- the line of a function, in a run with this work
abbrev pub function_line : (work : ℕ) → FunctionGain → List ℕ
function_line work g =
    sums_line g.counted.name g.counted.line g.counted.sums work g.span_if_free g.burdened_if_free

-- the lines of functions
abbrev pub function_lines : (work : ℕ) → List FunctionGain → List ℕ
function_lines work [] = []
function_lines work (g ∷ gains) = function_line work g ++ function_lines work gains

-- the gain report of a run that ended: the run and its functions
abbrev pub gain_text : Gains → List ℕ
gain_text g = gain_header ++ (whole_line g.measure ++ function_lines g.measure.work g.functions.items)

-- the gain report of a run; empty if the run did not end
abbrev pub gain_report : Result Gains Fault → List ℕ
gain_report (Ok g) = gain_text g
gain_report (Err e) = []

-- the report of a run of verified code
abbrev pub run_report : Verified → Result Values Fault → List ℕ
run_report verified values = handed_text (code_view verified.code) values

-- the sites report of a run of verified code
abbrev pub sites_report : Verified → Result Ended Fault → List ℕ
sites_report verified ended = sites_of (code_view verified.code) ended
