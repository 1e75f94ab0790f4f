use Rattle.std.specs.Prelude.{ℕ, ℤ, pos, List, [], ◌∷◌}
use Rattle.cw_model.specs.Syntax.{Program}
use Rattle.cw_model.specs.Meaning.{call}
use Rattle.cw_model.specs.ExamplePrograms as example
use Rattle.cw_part.specs.PieceRuns.{OfCall, HasRun}
use Rattle.cw_part.specs.Elision.{elision}
use Rattle.cw_part.proofs.PieceRunLaws.{runs_call}
use Rattle.cw_part.proofs.laws.runs_of_small_programs.Goals as goal

abbrev found : (program : Program) (args : List ℤ) (limit : ℕ) → HasRun OfCall limit (elision program args limit)
found program args limit = (runs_call _ _ _ _ _ _ _).at limit

pub returns : goal.returns
unfolding runs_call call
returns c =
    let spawn = found example.first_program [] 100 in
    let trap = found example.division_after_print (pos 0 ∷ []) 100 in
    let over = found example.division_after_print (pos 0 ∷ []) 5 in
    record {
      spawn = record { exit = spawn.exit; is_run = spawn.is_run };
      trap = record { exit = trap.exit; is_run = trap.is_run };
      limit = record { exit = over.exit; is_run = over.is_run };
    }
