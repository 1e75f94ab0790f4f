-- The strands that a run records.
use Rattle.std.specs.Prelude.{◌≡◌, ℕ, ℤ, true, List, Some, Result, MatchResult}
use Rattle.cw_model.specs.declared.total.Total.{Total}
use Rattle.cw_model.specs.Burdens.{no_burden}
use Rattle.cw_model.specs.Trees.{Tree}
use Rattle.cw_model.specs.Answers.{Ended}
use Rattle.cw_text.specs.declared.fault.Fault.{Fault}
use Rattle.cw_greedy.specs.Recorded.{Recorded}
use Rattle.cw_greedy.specs.Recording.{IsKept}
use Rattle.cw_code.specs.Code.{Code}
use Rattle.cw_code.specs.Run.{code_serial}
use Rattle.cw_machine.specs.Runs.{is_request, IsFailure}

-- the request is in range, and the run ends, with this record of the strands of its tree
pub record Records (code : Code) (args : List ℤ) (n : ℕ) (kept : Recorded) : Type 0 where
  pub asked : is_request code args n no_burden ≡ true
  pub value : ℤ
  pub lines : List ℤ
  pub totals : List Total
  pub tree : Tree
  pub answer : code_serial code args n ≡ Some (Ended value lines totals tree)
  pub is_kept : IsKept tree kept

-- a run of code returns the record of its strands, or the reason for its failure
abbrev pub RecordsAsCode : Code → List ℤ → (n : ℕ) → Result Recorded Fault → Type 0
RecordsAsCode code args n result = MatchResult result (Records code args n) (IsFailure code args n no_burden)
