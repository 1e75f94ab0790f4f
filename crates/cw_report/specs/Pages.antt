-- The text of a page.
use Rattle.std.specs.Prelude.{ℕ, ℤ, zero, suc, ◌==◌, nat_le, if◌then◌else◌, List, [], ◌∷◌, ◌++◌, drop, filter, flat_map}
use Rattle.std.specs.Prelude.{length, take, get_or, codes, decimal, Result, Ok, Err}
use Rattle.std.specs.Fmt.{signed_decimal}
use Rattle.cw_model.specs.declared.burden.Burden.{Burden}
use Rattle.cw_model.specs.declared.burden.Edges.{Edges}
use Rattle.cw_model.specs.declared.burden.Edges.TheVariants as edges
use Rattle.cw_model.specs.Report.{end_of_line}
use Rattle.cw_code.specs.Code.{Code, code_view}
use Rattle.cw_runnable.specs.declared.verified.Verified.{Verified}
use Rattle.cw_machine.specs.declared.alone.Ended.{Ended}
use Rattle.cw_text.specs.declared.fault.Fault.{Fault}
use Rattle.cw_report.specs.Escaping.{escaped}
use Rattle.cw_report.specs.Frame.{before_title, before_style, style, before_script, script, before_heading, before_about}
use Rattle.cw_report.specs.Frame.{before_scale, before_speedup, before_gain, before_sites, before_output, before_source, end}
use Rattle.cw_report.specs.Speedups.{speedup_text}
use Rattle.cw_report.specs.Texts.{ended_text, gain_text, scale_text, sites_text}
use Rattle.cw_report.specs.declared.drawing.TheConstants.{MOST_OUTPUT_BYTES}
use Rattle.cw_report.specs.declared.drawing.Drawn.{Drawn}

-- a constant piece, and the text in the hole after it
abbrev pub hole : (piece text : List ℕ) → List ℕ
hole piece text = piece ++ escaped text

-- the page up to its heading
abbrev pub head_of : (title : List ℕ) → List ℕ
head_of title =
    hole before_title title ++ (before_style ++ (style ++ (before_script ++ (script ++ hole before_heading title))))

-- the settings of the run, and its reports
abbrev pub reports_of : (about scale speedup gain sites : List ℕ) → List ℕ
reports_of about scale speedup gain sites =
    hole before_about about ++ (hole before_scale scale ++ (hole before_speedup speedup
    ++ (hole before_gain gain ++ hole before_sites sites)))

-- the output and the source of the program
abbrev pub program_of : (output source : List ℕ) → List ℕ
program_of output source = hole before_output output ++ (hole before_source source ++ end)

-- a page with these texts in its holes
abbrev pub page_of : (title about scale speedup gain sites output source : List ℕ) → List ℕ
page_of title about scale speedup gain sites output source =
    head_of title ++ (reports_of about scale speedup gain sites ++ program_of output source)

-- ---- the title and the settings

-- the arguments of main, each after a space
abbrev pub spaced : List ℤ → List ℕ
spaced args = flat_map (λ arg. 32 ∷ signed_decimal arg) args

-- the name of the file and the arguments
abbrev pub title_of : (name : List ℕ) → List ℤ → List ℕ
title_of name args = name ++ spaced args

-- the word for the edges that a burden is charged on
abbrev pub edges_word : Edges → List ℕ
edges_word edges.Spawn = codes "spawn"
edges_word edges.Both = codes "both"

-- a line with a name and a value
abbrev pub about_line : (name value : List ℕ) → List ℕ
about_line name value = name ++ (codes "," ++ (value ++ end_of_line))

-- the settings of a run, from its arguments with a space before each
abbrev pub settings_of : (version words : List ℕ) → Burden → List ℕ
settings_of version words burden =
    about_line (codes "name") (codes "value") ++ (about_line (codes "version") version
    ++ (about_line (codes "arguments") (drop 1 words) ++ (about_line (codes "burden") (decimal burden.charge)
    ++ about_line (codes "edges") (edges_word burden.edges))))

-- the value of a run, and the number of lines of its output
abbrev pub results_of : (value : ℤ) → (lines : ℕ) → List ℕ
results_of value lines =
    about_line (codes "value") (signed_decimal value) ++ about_line (codes "output_lines") (decimal lines)

-- both
abbrev pub about_of : (version : List ℕ) → (args : List ℤ) → Burden → (value : ℤ) → (lines : ℕ) → List ℕ
about_of version args burden value lines = settings_of version (spaced args) burden ++ results_of value lines

-- ---- the output

-- the number of lines of a text
abbrev pub lines_in : List ℕ → ℕ
lines_in text = length (filter (λ b. b == 10) text)

-- the longest prefix of at most `most` bytes that ends with LF
unfoldable pub lines_within : (most : ℕ) → List ℕ → List ℕ
lines_within zero text = []
lines_within (suc most) text = if get_or text most 0 == 10 then take (suc most) text else lines_within most text

-- an output as a page shows it
abbrev pub shown_output : List ℕ → List ℕ
shown_output text = if nat_le (length text) MOST_OUTPUT_BYTES then text else lines_within MOST_OUTPUT_BYTES text

-- ---- the page of a run

-- the page of a run of this source by a program of this version that printed this output and returned this value, with
-- these reports
abbrev pub page_with : (name version : List ℕ) → List ℤ → Burden → (source output : List ℕ) → (value : ℤ)
    → (scale speedup gain sites : List ℕ) → List ℕ
page_with name version args burden source output value scale speedup gain sites =
    page_of (title_of name args) (about_of version args burden value (lines_in output))
    scale speedup gain sites (shown_output output) source

-- the page of a run of code with this title, these settings and this output
abbrev pub page_around : (title about output source : List ℕ) → Code → Drawn → List ℕ
page_around title about output source code d =
    page_of title about (scale_text d.ended) (speedup_text d.speedup.measure d.speedup.rows.items) (gain_text d.gains)
    (sites_text code d.ended) (shown_output output) source

-- what a run of code prints
abbrev pub output_of : Code → Ended → List ℕ
output_of code e = ended_text code e.lines.items e.totals.items e.value

module _ (name version : List ℕ) (args : List ℤ) (burden : Burden) (source : List ℕ) where
  -- the page of a run of code
  abbrev pub drawn_page : Code → Drawn → List ℕ
  drawn_page code d =
      page_with name version args burden source (output_of code d.ended) d.ended.value (scale_text d.ended)
      (speedup_text d.speedup.measure d.speedup.rows.items) (gain_text d.gains) (sites_text code d.ended)

  -- the page of a run of verified code; of a run that did not end, nothing
  abbrev pub page_report : Verified → Result Drawn Fault → List ℕ
  page_report verified (Ok d) = drawn_page (code_view verified.code) d
  page_report verified (Err f) = []
