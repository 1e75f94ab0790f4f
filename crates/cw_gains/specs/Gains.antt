-- The gain table of a run: for each listed function, the spans of the run if the function took no time.
use Rattle.std.specs.Prelude.{◌≡◌, ℕ, ℤ, true, List, ◌∷◌, map, Some, Result, MatchResult}
use Rattle.cw_model.specs.declared.burden.Burden.{Burden}
use Rattle.cw_model.specs.declared.total.Total.{Total}
use Rattle.cw_model.specs.Trees.{Tree}
use Rattle.cw_model.specs.Answers.{Ended, main_name}
use Rattle.cw_model.specs.Sites.{CallSite, Root, are_numbered}
use Rattle.cw_model.specs.Freed.{FunctionRow, span_if_free, burdened_if_free, is_site_of, worth_telling}
use Rattle.cw_text.specs.declared.fault.Fault.{Fault}
use Rattle.cw_meter.specs.Whole.{AreReadings}
use Rattle.cw_code.specs.Code.{Code, reported_sites}
use Rattle.cw_code.specs.Run.{code_serial}
use Rattle.cw_machine.specs.Runs.{is_request, IsFailure}
use Rattle.cw_code.specs.Heads.{head_view}
use Rattle.cw_gains.specs.Counts.{row_view}
use Rattle.cw_code.specs.declared.head.Head.{Head}
use Rattle.cw_gains.specs.declared.gains.FunctionGain.{FunctionGain}
use Rattle.cw_gains.specs.declared.gains.Gains as declared

-- the call of main by the run itself; the head of main is in this line
abbrev pub root_at : ℕ → CallSite
root_at line = record { number = 0; kind = Root; line = line; callee = main_name }

-- all sites of code
abbrev pub all_sites : Code → List CallSite
all_sites code = root_at code.main_line ∷ reported_sites code

-- a function, and the spans of the run if it took no time
pub record FreeRow : Type 0 where
  pub counted : FunctionRow
  pub span : ℕ
  pub burdened : ℕ

-- the row of a function, by the tree of the run
abbrev pub free_row : List CallSite → Burden → Tree → FunctionRow → FreeRow
free_row sites burden t row =
    let frees = is_site_of sites row.name in
    record { counted = row; span = span_if_free frees t; burdened = burdened_if_free burden frees t }

-- a row as the definitions have it
abbrev pub gain_view : FunctionGain → FreeRow
gain_view g = record { counted = row_view g.counted; span = g.span_if_free; burdened = g.burdened_if_free }

-- the request is in range, and the run ends with a tree, which has these measures; these are the functions that the
-- definitions list, at most `top`, each with the spans of the run if it took no time
pub record Gains (code : Code) (heads : List Head) (args : List ℤ) (n : ℕ) (burden : Burden) (top : ℕ)
    (g : declared.Gains) : Type 0 where
  pub asked : is_request code args n burden ≡ true
  pub value : ℤ
  pub lines : List ℤ
  pub totals : List Total
  pub tree : Tree
  pub answer : code_serial code args n ≡ Some (Ended value lines totals tree)
  pub measure : AreReadings burden tree g.measure
  pub functions : map gain_view g.functions.items
      ≡ map (free_row (all_sites code) burden tree) (worth_telling top (map head_view heads) (all_sites code) tree)

-- the call sites of code are numbered in order, from 1
abbrev pub HasNumberedSites : Code → Type 0
HasNumberedSites code = are_numbered 0 (reported_sites code) ≡ true

-- THE GAIN TABLE of a run, or why the run has no value
abbrev pub GainsAsCode : Code → List Head → List ℤ → (n : ℕ) → Burden → (top : ℕ) → Result declared.Gains Fault → Type 0
GainsAsCode code heads args n burden top result =
    MatchResult result (Gains code heads args n burden top) (IsFailure code args n burden)
