-- The spans of a run if the instructions of some sites' invocations cost nothing.
use Rattle.std.specs.Prelude.{◌≡◌, ℕ, ℤ, Bool, true, false, List, Some, Result, MatchResult, slice_index_or}
use Rattle.cw_model.specs.declared.burden.Burden.{Burden}
use Rattle.cw_model.specs.declared.total.Total.{Total}
use Rattle.cw_model.specs.Trees.{Tree, Event}
use Rattle.cw_model.specs.Answers.{Ended}
use Rattle.cw_text.specs.declared.fault.Fault.{Fault}
use Rattle.cw_freed.specs.declared.meter.Freed.{Freed}
use Rattle.cw_freed.specs.Freeing.{FreesIn, AreFreed}
use Rattle.cw_measure.specs.OpenParts.{Open}
use Rattle.cw_code.specs.Code.{Code}
use Rattle.cw_code.specs.Run.{code_serial}
use Rattle.cw_machine.specs.declared.freed.Freeing.{Freeing}
use Rattle.cw_machine.specs.Runs.{is_request, IsFailure}

-- a site is free if the list says so; sites after the end of the list are not free
abbrev pub is_freed : List Bool → (site : ℕ) → Bool
is_freed frees site = slice_index_or frees site false

-- the question about a run: the free sites, and the charge for a spawn
pub record Asked : Type 0 where
  pub frees : List Bool
  pub burden : Burden

-- a meter with a list of the free sites measures a run so far
pub record FreesRun (asked : Asked) (count : ℕ) (os : List Open) (es : List Event) (f : Freeing) : Type 0 where
  pub frees : f.frees.items ≡ asked.frees
  pub tells : FreesIn (is_freed asked.frees) asked.burden count os es f.meter

-- the request is in range, and the run ends, with these spans of its tree if these sites cost nothing
pub record Frees (code : Code) (args : List ℤ) (n : ℕ) (burden : Burden) (frees : List Bool) (f : Freed) : Type 0 where
  pub asked : is_request code args n burden ≡ true
  pub value : ℤ
  pub lines : List ℤ
  pub totals : List Total
  pub tree : Tree
  pub answer : code_serial code args n ≡ Some (Ended value lines totals tree)
  pub are_freed : AreFreed (is_freed frees) burden tree f

-- a run of code returns these spans, or the reason for its failure
abbrev pub FreesAsCode : Code → List ℤ → (n : ℕ) → Burden → (frees : List Bool) → Result Freed Fault → Type 0
FreesAsCode code args n burden frees result =
    MatchResult result (Frees code args n burden frees) (IsFailure code args n burden)
