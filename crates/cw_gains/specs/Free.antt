-- The sites that take no time if a function does, as the run receives them.
use Rattle.std.specs.Prelude.{◌≡◌, ℕ, ℤ, true, Bool, List, ◌∷◌, map, Some}
use Rattle.std.specs.Global.{Vec}
use Rattle.cw_model.specs.declared.burden.Burden.{Burden}
use Rattle.cw_model.specs.declared.total.Total.{Total}
use Rattle.cw_model.specs.Syntax.{Name}
use Rattle.cw_model.specs.Names.{same_name}
use Rattle.cw_model.specs.Trees.{Tree}
use Rattle.cw_model.specs.Answers.{Ended, main_name}
use Rattle.cw_model.specs.Freed.{FunctionRow, span_if_free, burdened_if_free}
use Rattle.cw_text.specs.declared.fault.Fault.{Fault}
use Rattle.cw_text.specs.declared.fault.Fault.TheVariants as fault
use Rattle.cw_code.specs.Code.{Code, CodeSite, code_view, site_view}
use Rattle.cw_code.specs.declared.code.Code as declared
use Rattle.cw_code.specs.Run.{code_serial}
use Rattle.cw_machine.specs.Freed.{is_freed}
use Rattle.cw_machine.specs.Runs.{is_request}
use Rattle.cw_runnable.specs.declared.verified.Verified.{Verified}
use Rattle.cw_gains.specs.Counts.{row_view}
use Rattle.cw_gains.specs.Gains.{FreeRow, gain_view}
use Rattle.cw_gains.specs.declared.counts.Counted.{Counted}
use Rattle.cw_gains.specs.declared.gains.FunctionGain.{FunctionGain}

-- which call sites call a function of this name
abbrev pub callees_are : Name → List CodeSite → List Bool
callees_are name sites = map (λ s. same_name name s.told.callee) sites

-- the entries of all sites; the first is that of the call of main by the run itself
abbrev pub frees_from : Name → List CodeSite → List Bool
frees_from name sites = same_name name main_name ∷ callees_are name sites

-- for each site of code, in the order of the numbers, whether it calls a function of this name
abbrev pub AreFrees : Name → declared.Code → Vec Bool → Type 0
AreFrees name code frees = frees.items ≡ frees_from name (map site_view code.sites.items)

-- the request for the run is in range, and the run ends with this tree
pub record EndsWith (code : Code) (args : List ℤ) (n : ℕ) (burden : Burden) (t : Tree) : Type 0 where
  pub asked : is_request code args n burden ≡ true
  pub value : ℤ
  pub lines : List ℤ
  pub totals : List Total
  pub answer : code_serial code args n ≡ Some (Ended value lines totals t)

-- a function, with the spans of the run if its sites took no time
abbrev pub freed_row : Code → Burden → Tree → FunctionRow → FreeRow
freed_row code burden t row =
    let frees = is_freed (frees_from row.name code.sites) in
    record { counted = row; span = span_if_free frees t; burdened = burdened_if_free burden frees t }

-- if the run of verified code ends, this is the row of the function
abbrev pub IsFreeOf : Verified → List ℤ → (n : ℕ) → Burden → Counted → FunctionGain → Type 0
IsFreeOf v args n burden counted g =
    (t : Tree) → EndsWith (code_view v.code) args n burden t
    → gain_view g ≡ freed_row (code_view v.code) burden t (row_view counted)

-- and these are the rows of the functions
abbrev pub AreFreeOf : Verified → List ℤ → (n : ℕ) → Burden → List Counted → Vec FunctionGain → Type 0
AreFreeOf v args n burden all gains =
    (t : Tree) → EndsWith (code_view v.code) args n burden t
    → map gain_view gains.items ≡ map (λ c. freed_row (code_view v.code) burden t (row_view c)) all

-- if the run ends, lack of memory is the only error
abbrev pub OnlyMemory : Verified → List ℤ → (n : ℕ) → Burden → Fault → Type 0
OnlyMemory v args n burden e = (t : Tree) → EndsWith (code_view v.code) args n burden t → e ≡ fault.Memory
