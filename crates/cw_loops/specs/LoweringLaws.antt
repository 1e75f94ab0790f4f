-- Laws of a program with its loops lowered.
use Rattle.std.specs.Prelude.{◌≡◌, ℕ, ℤ, true, not, List, [], length, flat_map}
use Rattle.std.specs.List.{list_all}
use Rattle.cw_model.specs.Ints.{fits}
use Rattle.cw_model.specs.declared.token.Token.{Token}
use Rattle.cw_model.specs.Tokens.{IsTokenCut}
use Rattle.cw_model.specs.Grammar.{Derives}
use Rattle.cw_model.specs.Syntax.{Function, Program, is_array_param}
use Rattle.cw_model.specs.Meaning.{function_named}
use Rattle.cw_model.specs.Answers.{main_name, serial_answer}
use Rattle.cw_model.specs.Sizes.{loops_in_block, call_count, static_size}
use Rattle.cw_model.specs.Typing.{IsWellTyped}
use Rattle.cw_model.specs.Ownership.{KeepsOwnership}
use Rattle.cw_loops.specs.SourceLike.{is_source_like}
use Rattle.cw_loops.specs.Lowered.{lowered}
use Rattle.cw_loops.specs.Lowerable.{is_lowerable}

-- the function that a run of a program starts with
abbrev pub main_of : Program → Function
main_of program = function_named main_name program.functions

-- for one 64-bit argument for each parameter of `main`, and within each limit, the lowered program has the answer of
-- the program: its value, printed lines, totals and tree, or its trap with the line, or that it exceeds the limit
abbrev pub AnswersAsItsSource : Program → Type 0
AnswersAsItsSource program =
    (args : List ℤ) (limit : ℕ) → list_all fits args ≡ true → length args ≡ length (main_of program).params →
    serial_answer (lowered program) args limit ≡ serial_answer program args limit

-- main takes only integers
abbrev pub MainTakesIntegers : Program → Type 0
MainTakesIntegers program = list_all (λ p. not (is_array_param p)) (main_of program).params ≡ true

abbrev pub LoweredAnswersAsItsSource : Type 0
LoweredAnswersAsItsSource =
    (program : Program) → is_lowerable program ≡ true → MainTakesIntegers program → AnswersAsItsSource program

abbrev pub LoweredIsAsLong : Type 0
LoweredIsAsLong =
    (program : Program) → is_lowerable program ≡ true → static_size (lowered program) ≡ static_size program

-- no `cilk_for` is left
abbrev pub LoweredHasNoLoop : Type 0
LoweredHasNoLoop = (program : Program) → flat_map (λ f. loops_in_block f.body) (lowered program).functions ≡ []

-- lowering keeps the number of call statements
abbrev pub LoweredHasItsCalls : Type 0
LoweredHasItsCalls = (program : Program) → call_count (lowered program) ≡ call_count program

-- types and ownership accept the program, and its names and numbers are possible in a source
pub record IsOwnedSource (program : Program) : Type 0 where
  pub typed : IsWellTyped program
  pub owned : KeepsOwnership program
  pub source_like : is_source_like program ≡ true

abbrev pub OwnedIsLowerable : Type 0
OwnedIsLowerable = (program : Program) → IsOwnedSource program → is_lowerable program ≡ true

abbrev pub LoweringKeepsAnswers : Type 0
LoweringKeepsAnswers = (program : Program) → IsOwnedSource program → AnswersAsItsSource program

abbrev pub LoweringKeepsSize : Type 0
LoweringKeepsSize = (program : Program) → IsOwnedSource program → static_size (lowered program) ≡ static_size program

-- the names and numbers of a program that is derived from a text are possible in a source
abbrev pub DerivedIsSourceLike : Type 0
DerivedIsSourceLike =
    (text : List ℕ) (ts : List Token) (program : Program) → IsTokenCut text ts → Derives text ts program →
    is_source_like program ≡ true

-- for a program that is derived from a text, being accepted by types and ownership suffices
abbrev pub LoweringKeepsDerivedAnswers : Type 0
LoweringKeepsDerivedAnswers =
    (text : List ℕ) (ts : List Token) (program : Program) → IsTokenCut text ts → Derives text ts program →
    IsWellTyped program → KeepsOwnership program → AnswersAsItsSource program
