-- The runs that the elisions of small programs are, worked out by hand.
use Rattle.std.specs.Prelude.{ℕ, ℤ, pos, true, List, [], ◌∷◌, Some}
use Rattle.cw_model.specs.declared.trap.Trap.TheVariants as trap
use Rattle.cw_model.specs.Syntax.{Program}
use Rattle.cw_model.specs.Trees.{Invocation, Work, Join, works}
use Rattle.cw_model.specs.Outcome.{shows}
use Rattle.cw_model.specs.ExamplePrograms as example
use Rattle.cw_part.specs.Runs.{Run, Ends, Shows, Traps, Inside}
use Rattle.cw_part.specs.PieceRuns.{OfCall, Exit, IsRunOf}
use Rattle.cw_part.specs.Elision.{elision}

-- an instruction, a join, a printed line, and a spawned child of a call site
abbrev pub one : Run → Run
one rest = Shows (shows (Work 1 ∷ [])) rest

abbrev pub join : Run → Run
join rest = Shows (shows (Join ∷ [])) rest

abbrev pub print : ℤ → Run → Run
print v rest = Shows (record { lines = v ∷ []; updates = []; events = [] }) rest

abbrev pub child : (site : ℕ) → (inner rest : Run) → Run
child site inner rest = Inside true (Some (Invocation site)) inner rest

-- the elision of a program is this run within the limit
pub record Elides (program : Program) (args : List ℤ) (limit : ℕ) (run : Run) : Type 0 where
  pub exit : Exit OfCall
  pub is_run : IsRunOf OfCall limit (elision program args limit) run exit

pub record ElisionExamples : Type 0 where
  -- a declaration, a spawn with one argument, a sync and a return
  pub spawn : Elides example.first_program [] 100
      (one (one (one (one (child 1 (one (join (one Ends))) (join (one (one (join (one Ends))))))))))
  -- a print, and then a spawned child that divides by 0: nothing comes after it
  pub trap : Elides example.division_after_print (pos 0 ∷ []) 100
      (one (one (print (pos 1) (one (one (child 1 (one (one (Traps trap.DivisionByZero 1 (shows (works 3))))) Ends))))))
  -- the same program within a limit that the child's second instruction exceeds
  pub limit : Elides example.division_after_print (pos 0 ∷ []) 5
      (one (one (print (pos 1) (one (one (child 1 (one (one Ends)) Ends))))))
