-- The rows that a run reports are the rows of its tree.
use Rattle.std.proofs.Common.{◌≡◌, ◌∙◌, ◌+◌, ℕ, ℤ, suc, true, List, [], ◌∷◌, ◌++◌, length, Some, Ok, flat_map, map, refl, sym, ap, ap₂, subst, arith}
use Rattle.std.specs.Prelude.{nat_eq, slice_get, decimal}
use Rattle.std.proofs.lemmas.List.{length-map}
use Rattle.std.specs.Global.{Vec}
use Rattle.std.specs.Map.{keys_of, values_of}
use Rattle.std.proofs.lemmas.Bool.{and_parts}
use Rattle.indexmap.specs.IndexMap.{values}
use Rattle.cw_facts.specs.Tests.{eq_of}
use Rattle.cw_model.specs.declared.burden.Burden.{Burden}
use Rattle.cw_model.specs.Syntax.{Program, Name}
use Rattle.cw_model.specs.declared.total.Total.{Total}
use Rattle.cw_model.specs.Trees.{Tree, work, span, burdened_span}
use Rattle.cw_model.specs.Answers.{Ended}
use Rattle.cw_model.specs.Rows.{site_row}
use Rattle.cw_model.specs.Sites.{CallSite, call_sites, root_site, are_numbered, heads_of, sites_of}
use Rattle.cw_model.specs.Freed.{FunctionRow, worth_telling}
use Rattle.cw_model.specs.Report.{csv_line, scale_header, scale_line, scale_text, sites_header, sites_text, site_kind_text, site_line}
use Rattle.cw_model.specs.Report.{region_line, tags_of, gain_header, gain_line, gain_text, free_line, whole_row}
use Rattle.cw_sites.specs.declared.table.SiteRow.{SiteRow}
use Rattle.cw_sites.specs.Tables as sites
use Rattle.cw_sites.specs.lemmas.Tables.{AreRowsFrom}
use Rattle.cw_regions.specs.declared.table.RegionRow.{RegionRow}
use Rattle.cw_meter.specs.Whole.{AreReadings, AreSiteRows, AreRegionRows}
use Rattle.cw_code.specs.Code.{Code, reported_sites}
use Rattle.cw_machine.specs.declared.alone.Ended as run
use Rattle.cw_machine.specs.Runs.{tags_in}
use Rattle.cw_code.specs.Heads.{head_view}
use Rattle.cw_gains.specs.Gains.{FreeRow, free_row, gain_view, all_sites, root_at}
use Rattle.cw_code.specs.declared.head.Head.{Head}
use Rattle.cw_gains.specs.declared.gains.FunctionGain.{FunctionGain}
use Rattle.cw_gains.specs.declared.gains.Gains.{Gains}
use Rattle.cw_report.specs.Texts as texts
use Rattle.cw_report.specs.Texts.{tag_lines, scale_report, counts_of, row_line, row_lines}

-- ---- tags

-- the line of a whole run, or of a tag
line_is : (tag : Name) (work work' span span' burdened burdened' : ℕ) → work ≡ work' → span ≡ span' → burdened ≡ burdened' → scale_line tag work span burdened ≡ scale_line tag work' span' burdened'
line_is tag work work' span span' burdened burdened' w s b =
    ap (λ x. scale_line tag x span burdened) w ∙ ap (λ x. scale_line tag work' x burdened) s ∙ ap (scale_line tag work' span') b

tags_are : (entries : List (Vec ℕ × RegionRow)) (burden : Burden) (t : Tree)
    → AreRegionRows burden (map (λ tag. tag.items) (keys_of entries)) t (values_of entries)
    → tag_lines entries ≡ flat_map (region_line burden t) (map (λ tag. tag.items) (keys_of entries))
tags_are [] burden t h = refl
tags_are (entry ∷ entries) burden t h =
    let is = h.are 0 entry.1 entry.0.items refl refl in
    let e = h.as_many in
    ap₂ (λ a b. a ++ b) (line_is entry.0.items _ _ _ _ _ _ is.work is.span is.burdened)
    (tags_are entries burden t (record { as_many = omega (arith, e); are = λ k r g there named. h.are (suc k) r g there named }))

pub scale_is : (program : Program) (code : Code) (burden : Burden) (e : run.Ended) (t : Tree) → code.tags ≡ tags_of program
    → tags_in e.regions ≡ code.tags → AreReadings burden t e.measure → AreRegionRows burden code.tags t (values e.regions)
    → scale_report (Ok e) ≡ scale_text program burden (Ended e.value e.lines.items e.totals.items t)
scale_is program code burden e t tags keys whole rows =
    ap₂ (λ a b. scale_header ++ (a ++ b)) (line_is [] _ _ _ _ _ _ whole.work whole.span whole.burdened)
    (tags_are e.regions.entries burden t (subst (λ names. AreRegionRows burden names t (values e.regions)) (sym keys) rows)
    ∙ ap (flat_map (region_line burden t)) (keys ∙ tags))

-- ---- sites

counts_are : (t : Tree) (number : ℕ) (row : SiteRow) → sites.IsRow row (site_row number t)
    → counts_of row ≡ decimal (site_row number t).calls ∷ decimal (site_row number t).own_work ∷ decimal (site_row number t).own_span
    ∷ decimal (site_row number t).work ∷ decimal (site_row number t).span ∷ []
counts_are t number row is =
    ap (λ x. decimal x ∷ decimal row.own_work ∷ decimal row.own_span ∷ decimal row.work ∷ decimal row.span ∷ []) is.calls
    ∙ ap (λ x. decimal (site_row number t).calls ∷ decimal x ∷ decimal row.own_span ∷ decimal row.work ∷ decimal row.span ∷ []) is.own_work
    ∙ ap (λ x. decimal (site_row number t).calls ∷ decimal (site_row number t).own_work ∷ decimal x ∷ decimal row.work ∷ decimal row.span ∷ []) is.own_span
    ∙ ap (λ x. decimal (site_row number t).calls ∷ decimal (site_row number t).own_work ∷ decimal (site_row number t).own_span ∷ decimal x ∷ decimal row.span ∷ []) is.work
    ∙ ap (λ x. decimal (site_row number t).calls ∷ decimal (site_row number t).own_work ∷ decimal (site_row number t).own_span ∷ decimal (site_row number t).work ∷ decimal x ∷ []) is.span

row_is : (t : Tree) (s : CallSite) (row : SiteRow) → sites.IsRow row (site_row s.number t) → row_line s row ≡ site_line t s
row_is t s row is = ap (λ counts. csv_line (decimal s.number ∷ site_kind_text s.kind ∷ decimal s.line ∷ s.callee ∷ counts)) (counts_are t s.number row is)

rows_are : (n : ℕ) (all : List CallSite) (rows : List SiteRow) (t : Tree) → length rows ≡ length all → are_numbered n all ≡ true
    → AreRowsFrom (suc n) t rows → row_lines all rows ≡ flat_map (site_line t) all
rows_are n [] rows t count numbered h = refl
rows_are n (s ∷ all) [] t count numbered h = absurd (omega (arith, count))
rows_are n (s ∷ all) (row ∷ rows) t count numbered h =
    let split = and_parts (nat_eq s.number (suc n)) (are_numbered (suc n) all) numbered in
    let number : s.number ≡ suc n = eq_of s.number (suc n) split.0 in
    ap₂ (λ a b. a ++ b) (row_is t s row (h 0 s.number row (omega (arith, number)) refl))
    (rows_are (suc n) all rows t (omega (arith, count)) split.1 (λ k site r at there. h (suc k) site r (omega (arith, at)) there))

-- the root's row, and the rows of the call statements after it
all_rows_are : (root : CallSite) (all : List CallSite) (rows : List SiteRow) (t : Tree) → root.number ≡ 0 → are_numbered 0 all ≡ true → AreSiteRows (length all + 1) t rows
    → row_lines (root ∷ all) rows ≡ flat_map (site_line t) (root ∷ all)
all_rows_are root all [] t first numbered h = let e = h.as_many in absurd (omega (arith, e))
all_rows_are root all (row ∷ rows) t first numbered h =
    let e = h.as_many in
    let from : AreRowsFrom 1 t rows = λ k site r at there. h.are site r (there_at k site r (omega (arith, at)) there) in
    let root_is : sites.IsRow row (site_row root.number t) = h.are root.number row (ap (slice_get (row ∷ rows)) first) in
    ap₂ (λ a b. a ++ b) (row_is t root row root_is) (rows_are 0 all rows t (omega (arith, e)) numbered from)
  where
    there_at : (k site : ℕ) (r : SiteRow) → site ≡ suc k → slice_get rows k ≡ Some r → slice_get (row ∷ rows) site ≡ Some r
    there_at k site r at there = ap (slice_get (row ∷ rows)) at ∙ there

pub sites_are : (program : Program) (code : Code) (e : run.Ended) (t : Tree) → reported_sites code ≡ call_sites program → code.main_line ≡ (root_site program).line
    → are_numbered 0 (call_sites program) ≡ true → AreSiteRows (length code.sites + 1) t (values e.sites)
    → texts.sites_of code (Ok e) ≡ sites_text program (Ended e.value e.lines.items e.totals.items t)
sites_are program code e t told line numbered rows =
    let count : length code.sites ≡ length (call_sites program) = sym (length-map code.sites (λ s. s.told)) ∙ ap length told in
    ap₂ (λ l all. sites_header ++ row_lines (root_at l ∷ all) (values e.sites)) line told
    ∙ ap (λ text. sites_header ++ text) (all_rows_are (root_site program) (call_sites program) (values e.sites) t refl numbered (subst (λ n. AreSiteRows (n + 1) t (values e.sites)) count rows))

-- ---- gains

-- the line of a function, in a run with this work
abbrev line_of : ℕ → FreeRow → List ℕ
line_of work r = gain_line r.counted work r.span r.burdened

lines_of : (work : ℕ) (gains : List FunctionGain) → texts.function_lines work gains ≡ flat_map (line_of work) (map gain_view gains)
lines_of work [] = refl
lines_of work (g ∷ gains) = ap (λ l. texts.function_line work g ++ l) (lines_of work gains)

free_lines : (all : List CallSite) (burden : Burden) (t : Tree) (rows : List FunctionRow)
    → flat_map (line_of (work t)) (map (free_row all burden t) rows) ≡ flat_map (free_line all burden t) rows
free_lines all burden t [] = refl
free_lines all burden t (row ∷ rows) = ap (λ l. free_line all burden t row ++ l) (free_lines all burden t rows)

-- the line of a whole run
whole_is : (t : Tree) (work' span' burdened burdened' : ℕ) → work' ≡ work t → span' ≡ span t → burdened' ≡ burdened
    → gain_line (record { name = []; line = 0; calls = 0; own_work = work'; own_span = span' }) work' span' burdened' ≡ gain_line (whole_row t) (work t) (span t) burdened
whole_is t work' span' burdened burdened' w s b =
    ap (λ x. gain_line (record { name = []; line = 0; calls = 0; own_work = x; own_span = span' }) x span' burdened') w
    ∙ ap (λ x. gain_line (record { name = []; line = 0; calls = 0; own_work = work t; own_span = x }) (work t) x burdened') s
    ∙ ap (gain_line (whole_row t) (work t) (span t)) b

-- all call sites of the code of a program are the call sites of the program
all_sites_are : (program : Program) (code : Code) → reported_sites code ≡ call_sites program → code.main_line ≡ (root_site program).line → all_sites code ≡ sites_of program
all_sites_are program code told line = ap₂ (λ l all. root_at l ∷ all) line told

pub gains_are : (program : Program) (code : Code) (heads : List Head) (top : ℕ) (burden : Burden) (g : Gains) (t : Tree) (value : ℤ) (lines : List ℤ) (totals : List Total)
    → map head_view heads ≡ heads_of program → reported_sites code ≡ call_sites program → code.main_line ≡ (root_site program).line → AreReadings burden t g.measure
    → map gain_view g.functions.items ≡ map (free_row (all_sites code) burden t) (worth_telling top (map head_view heads) (all_sites code) t)
    → texts.gain_report (Ok g) ≡ gain_text top program burden (Ended value lines totals t)
gains_are program code heads top burden g t value lines totals heads_are told line whole functions =
    let all = all_sites code in
    let rows = worth_telling top (map head_view heads) all t in
    ap₂ (λ a b. gain_header ++ (a ++ b)) (whole_is t g.measure.work g.measure.span (burdened_span burden t) g.measure.burdened whole.work whole.span whole.burdened)
    (lines_of g.measure.work g.functions.items ∙ ap (λ w. flat_map (line_of w) (map gain_view g.functions.items)) whole.work
    ∙ ap (flat_map (line_of (work t))) functions ∙ free_lines all burden t rows)
    ∙ ap₂ (λ hs ss. gain_header ++ (gain_line (whole_row t) (work t) (span t) (burdened_span burden t) ++ flat_map (free_line ss burden t) (worth_telling top hs ss t)))
    heads_are (all_sites_are program code told line)
