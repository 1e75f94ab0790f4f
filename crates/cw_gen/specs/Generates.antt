-- The contract of the code generator.
use Rattle.std.specs.Prelude.{◌≡◌, ℕ, ℤ, true, List, [], length, Some, Result, MatchResult}
use Rattle.std.specs.List.{list_all}
use Rattle.cw_model.specs.Ints as ints
use Rattle.cw_model.specs.Syntax.{Program}
use Rattle.cw_model.specs.Lines.{IsLeastLine}
use Rattle.cw_model.specs.Meaning.{function_named}
use Rattle.cw_model.specs.Answers.{main_name, serial_answer}
use Rattle.cw_model.specs.Report.{tags_of}
use Rattle.cw_model.specs.Sites.{call_sites, root_site}
use Rattle.cw_model.specs.Sizes.{program_faults}
use Rattle.cw_text.specs.declared.fault.Fault.{Fault}
use Rattle.cw_text.specs.declared.fault.Fault.TheVariants as fault
use Rattle.cw_tree.specs.ResolvedView.{program_of}
use Rattle.cw_loops.specs.declared.program.Core.{Core}
use Rattle.cw_code.specs.declared.code.Code as made_code
use Rattle.cw_code.specs.Code.{Code, code_view, reported_sites}
use Rattle.cw_code.specs.Run.{code_serial}
use Rattle.cw_code.specs.Fits.{main_params, Fits}
use Rattle.cw_gen.specs.Emit.{coded_reducers}

-- the number of arguments of the main of a program
abbrev pub main_count : Program → ℕ
main_count program = length (function_named main_name program.functions).params

-- on all 64-bit arguments and within all limits, the code has the serial answer of the program, including its tree; it
-- is well formed, has the arguments of the program's main, the program's call statements, the line of main's head,
-- reducers and tags, and the program is small enough
pub record Generates (program : Program) (code : Code) : Type 0 where
  pub serial : (args : List ℤ) → list_all ints.fits args ≡ true → length args ≡ main_count program → (n : ℕ) →
      code_serial code args n ≡ Some (serial_answer program args n)
  pub fits : Fits code
  pub params : main_params code ≡ main_count program
  pub sites : reported_sites code ≡ call_sites program
  pub main_line : code.main_line ≡ (root_site program).line
  pub reducers : code.reducers ≡ coded_reducers program.reducers
  pub tags : code.tags ≡ tags_of program
  pub small : program_faults program ≡ []

-- the reason why there is no code: the program is too large, or memory ran out
abbrev pub IsRejection : Program → Fault → Type 0
IsRejection program (fault.Size place) = IsLeastLine (program_faults program) place.line
IsRejection program fault.Memory = Unit {0}
IsRejection program _ = ⊥

-- the source of a lowered program
abbrev pub source_of : Core → Program
source_of core = program_of core.source.typed.tree

-- the result is the code of the program, or a reason for its rejection
abbrev pub Answers : Program → Result made_code.Code Fault → Type 0
Answers program r = MatchResult r (λ code. Generates program (code_view code)) (IsRejection program)
