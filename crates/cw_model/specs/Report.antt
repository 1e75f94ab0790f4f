-- The texts of the reports, byte by byte.
use Rattle.std.specs.Prelude.{ℕ, ◌+◌, ◌*◌, ◌/◌, ◌%◌, zero, suc, ◌==◌, ◌||◌, Bool, if◌then◌else◌, ℤ, List, [], ◌∷◌}
use Rattle.std.specs.Prelude.{◌++◌, Some, None, flat_map, codes, decimal}
use Rattle.std.specs.List.{list_any}
use Rattle.std.specs.Fmt.{signed_decimal}
use Rattle.cw_model.specs.declared.burden.Burden.{Burden}
use Rattle.cw_model.specs.declared.syntax.Reduction.{Reduction}
use Rattle.cw_model.specs.declared.syntax.Reduction.TheVariants as reduction
use Rattle.cw_model.specs.declared.total.Total.{Total}
use Rattle.cw_model.specs.declared.total.Total.TheVariants as total
use Rattle.cw_model.specs.declared.syntax.CallKind.TheVariants.{Plain, Spawned}
use Rattle.cw_model.specs.Syntax.{Name, Stmt, If, IfElse, While, For, Scope, Cut, Region, Block, End, Then, Reducer}
use Rattle.cw_model.specs.Syntax.{Program}
use Rattle.cw_model.specs.Names.{new_names}
use Rattle.cw_model.specs.Trees.{Tree, work, span, burdened_span}
use Rattle.cw_model.specs.Rows.{site_row, region_row}
use Rattle.cw_model.specs.Sites.{SiteKind, Root, Of, CallSite, Head, sites_of, heads_of}
use Rattle.cw_model.specs.Freed.{FunctionRow, span_if_free, burdened_if_free, is_site_of, worth_telling}
use Rattle.cw_model.specs.Answers.{Answer, Ended, TrappedAt, OverLimit}

-- the report that the user requests
pub data Mode : Type 0 where
  Check : Mode
  Run : Mode
  Scale : Mode
  Sites : Mode
  Gain : (top : ℕ) → Mode

-- LF, the end of a line
abbrev pub end_of_line : List ℕ
end_of_line = 10 ∷ []

-- a byte that requires quotes around its field: a comma, a quote, CR or LF
abbrev pub asks_for_quotes : ℕ → Bool
asks_for_quotes c = (c == 44) || (c == 34) || (c == 13) || (c == 10)

-- the bytes of a field inside quotes, with each quote doubled
abbrev pub between_quotes : List ℕ → List ℕ
between_quotes [] = []
between_quotes (c ∷ cs) = if c == 34 then 34 ∷ 34 ∷ between_quotes cs else c ∷ between_quotes cs

-- a CSV field, quoted if necessary; numbers, and names and tags of a source, never need quotes
abbrev pub csv_field : List ℕ → List ℕ
csv_field field = if list_any asks_for_quotes field then codes "\"" ++ (between_quotes field ++ codes "\"") else field

-- a CSV line: the fields with commas between them, and LF
abbrev pub csv_line : List (List ℕ) → List ℕ
csv_line [] = end_of_line
csv_line (field ∷ []) = csv_field field ++ end_of_line
csv_line (field ∷ next ∷ fields) = csv_field field ++ (codes "," ++ csv_line (next ∷ fields))

-- the report of `check` for an accepted source
abbrev pub check_text : List ℕ
check_text = codes "ok" ++ end_of_line

-- a number and LF
abbrev pub value_line : ℤ → List ℕ
value_line v = signed_decimal v ++ end_of_line

-- the word for a reduction, as in the declaration of a reducer
abbrev pub reduction_word : Reduction → List ℕ
reduction_word reduction.Sum = codes "sum "
reduction_word reduction.Max = codes "max "

-- a total and LF
abbrev pub total_line : Total → List ℕ
total_line (total.Sum v) = value_line v
total_line (total.Max None) = codes "none" ++ end_of_line
total_line (total.Max (Some v)) = value_line v

-- one line for each reducer, with its total
abbrev pub total_lines : List Reducer → List Total → List ℕ
total_lines [] totals = []
total_lines (r ∷ rs) [] = []
total_lines (r ∷ rs) (v ∷ vs) =
    reduction_word r.how ++ (r.name ++ (codes " = " ++ (total_line v ++ total_lines rs vs)))

-- the report of `run`: printed values, totals and the result of `main`; for a run that trapped, only the printed
-- values
abbrev pub run_text : Program → Answer → List ℕ
run_text program (Ended v lines totals t) =
    flat_map value_line lines ++ (total_lines program.reducers totals ++ (codes "return " ++ value_line v))
run_text program (TrappedAt trap line lines) = flat_map value_line lines
run_text program OverLimit = []

-- a number below 1000, as three digits
abbrev pub three_digits : ℕ → List ℕ
three_digits n = (48 + n / 100) ∷ (48 + n / 10 % 10) ∷ (48 + n % 10) ∷ []

-- `n` thousandths, as a decimal number
abbrev pub thousandths : ℕ → List ℕ
thousandths n = decimal (n / 1000) ++ (codes "." ++ three_digits (n % 1000))

-- work divided by span, rounded down to thousandths; 0 if the span is 0
abbrev pub parallelism : ℕ → ℕ → List ℕ
parallelism work zero = codes "0.000"
parallelism work (suc span) = thousandths (1000 * work / suc span)

-- the column names of the report `scale`
abbrev pub scale_header : List ℕ
scale_header = codes "tag,work,span,parallelism,burdened_span,burdened_parallelism" ++ end_of_line

-- one line of the report `scale`
abbrev pub scale_line : Name → (work span burdened : ℕ) → List ℕ
scale_line tag work span burdened =
    csv_line
    (tag ∷ decimal work ∷ decimal span ∷ parallelism work span ∷ decimal burdened ∷ parallelism work burdened ∷ [])

abbrev mutual
  -- the tags in a statement, in source order
  pub tags_in : Stmt → List Name
  tags_in (If e b) = tags_in_block b
  tags_in (IfElse e b c) = tags_in_block b ++ tags_in_block c
  tags_in (While e b) = tags_in_block b
  tags_in (For x y z from to grain over b) = tags_in_block b
  tags_in (Scope b) = tags_in_block b
  tags_in (Cut a e l r b) = tags_in_block b
  tags_in (Region tag b) = tag ∷ tags_in_block b
  tags_in _ = []

  -- the tags in a block, in source order
  pub tags_in_block : Block → List Name
  tags_in_block End = []
  tags_in_block (Then line s b) = tags_in s ++ tags_in_block b

-- the distinct tags of a program, in order of first occurrence
abbrev pub tags_of : Program → List Name
tags_of program = new_names (flat_map (λ f. tags_in_block f.body) program.functions) []

-- the line of a tag in the report `scale`
abbrev pub region_line : Burden → Tree → Name → List ℕ
region_line burden t tag = let row = region_row burden tag t in scale_line tag row.work row.span row.burdened

-- the report `scale`: a line for the whole program, with an empty tag, then a line for each tag of the source
abbrev pub scale_text : Program → Burden → Answer → List ℕ
scale_text program burden (Ended v lines totals t) =
    scale_header
    ++ (scale_line [] (work t) (span t) (burdened_span burden t)
    ++ flat_map (region_line burden t) (tags_of program))
scale_text program burden (TrappedAt trap line lines) = []
scale_text program burden OverLimit = []

-- the word for the kind of a site
abbrev pub site_kind_text : SiteKind → List ℕ
site_kind_text Root = codes "root"
site_kind_text (Of Plain) = codes "call"
site_kind_text (Of Spawned) = codes "spawn"

-- the column names of the report `sites`
abbrev pub sites_header : List ℕ
sites_header = codes "site,kind,line,callee,calls,own_work,own_span,work,span" ++ end_of_line

-- the line of a site in the report `sites`
abbrev pub site_line : Tree → CallSite → List ℕ
site_line t s =
    let row = site_row s.number t in
    csv_line (decimal s.number ∷ site_kind_text s.kind ∷ decimal s.line ∷ s.callee
    ∷ decimal row.calls ∷ decimal row.own_work ∷ decimal row.own_span ∷ decimal row.work ∷ decimal row.span ∷ [])

-- the report `sites`: a line for the root, then a line for each call statement
abbrev pub sites_text : Program → Answer → List ℕ
sites_text program (Ended v lines totals t) =
    sites_header ++ flat_map (site_line t) (sites_of program)
sites_text program (TrappedAt trap line lines) = []
sites_text program OverLimit = []

-- the column names of the report `gain`
abbrev pub gain_header : List ℕ
gain_header =
    codes "function,line,calls,own_work,own_span,span_if_free,parallelism_if_free,burdened_span_if_free" ++ end_of_line

-- one line of the report `gain`: measured values, and the run's spans if the function's instructions took no time
abbrev pub gain_line : FunctionRow → (work free burdened_free : ℕ) → List ℕ
gain_line told work free burdened_free =
    csv_line (told.name ∷ decimal told.line ∷ decimal told.calls ∷ decimal told.own_work ∷ decimal told.own_span
    ∷ decimal free ∷ parallelism work free ∷ decimal burdened_free ∷ [])

-- the row of the whole run, without a name
abbrev pub whole_row : Tree → FunctionRow
whole_row t = record { name = []; line = 0; calls = 0; own_work = work t; own_span = span t }

-- the line of a function, with the run's spans if all sites that call the function cost nothing
abbrev pub free_line : List CallSite → Burden → Tree → FunctionRow → List ℕ
free_line sites burden t row =
    let frees = is_site_of sites row.name in
    gain_line row (work t) (span_if_free frees t) (burdened_if_free burden frees t)

-- the gain table: a line for the whole run, with unchanged costs, then a line for each function to report
abbrev pub gains_text : (top : ℕ) → List Head → List CallSite → Burden → Tree → List ℕ
gains_text top heads sites burden t =
    gain_header
    ++ (gain_line (whole_row t) (work t) (span t) (burdened_span burden t)
    ++ flat_map (free_line sites burden t) (worth_telling top heads sites t))

-- the report `gain` of a program, with at most `top` functions
abbrev pub gain_text : (top : ℕ) → Program → Burden → Answer → List ℕ
gain_text top program burden (Ended v lines totals t) = gains_text top (heads_of program) (sites_of program) burden t
gain_text top program burden (TrappedAt trap line lines) = []
gain_text top program burden OverLimit = []

-- the text of the requested report
abbrev pub report_text : Mode → Program → Burden → Answer → List ℕ
report_text Check program burden answer = check_text
report_text Run program burden answer = run_text program answer
report_text Scale program burden answer = scale_text program burden answer
report_text Sites program burden answer = sites_text program answer
report_text (Gain top) program burden answer = gain_text top program burden answer
