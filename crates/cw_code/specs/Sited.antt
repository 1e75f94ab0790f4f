-- A run calls only at the sites of its code.
use Rattle.std.specs.Prelude.{◌≡◌, ℕ, ◌+◌, ℤ, true, List, length, Some}
use Rattle.cw_model.specs.declared.total.Total.{Total}
use Rattle.cw_model.specs.Trees.{Tree}
use Rattle.cw_model.specs.Rows.{sites_below}
use Rattle.cw_model.specs.Answers.{Ended}
use Rattle.cw_code.specs.Code.{Code}
use Rattle.cw_code.specs.Run.{code_serial}

-- if a run ends, each invocation in its tree is of a site of the code (numbered from 1) or of the run's own call
-- (number 0)
abbrev pub CallsAtItsSites : Code → Type 0
CallsAtItsSites code =
    (args : List ℤ) (n : ℕ) (value : ℤ) (lines : List ℤ) (totals : List Total) (tree : Tree)
    → code_serial code args n ≡ Some (Ended value lines totals tree)
    → sites_below (length code.sites + 1) tree ≡ true
