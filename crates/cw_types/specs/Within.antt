-- Rules of names and types, and reasons, in the program that the code holds.
use Rattle.std.specs.Prelude.{ℕ, List, flat_map, Result}
use Rattle.cw_model.specs.Syntax.{Program}
use Rattle.cw_model.specs.Typing as rule
use Rattle.cw_model.specs.Typing.{faults_of, faults_in_block}
use Rattle.cw_tree.specs.declared.syntax.Function.{Function}
use Rattle.cw_tree.specs.declared.syntax.Line.{Line}
use Rattle.cw_tree.specs.SyntaxView.{program_of, function_of, stmt_of, block_of}
use Rattle.cw_text.specs.RecordedReasons.{RecordsOnOk, AddsOnly}
use Rattle.cw_text.specs.declared.reasons.Reasons.{Reasons}
use Rattle.cw_types.specs.declared.globals.Globals.{Globals}
use Rattle.cw_types.specs.declared.reason.IllTyped.{IllTyped}
use Rattle.cw_types.specs.declared.rules.Returns.{Returns}
use Rattle.cw_types.specs.Returned.{returns_of}
use Rattle.cw_types.specs.Scope.{Declared, kinds}
use Rattle.cw_types.specs.StmtContext.{StmtContext, statement_at, statements_in, statements_inside}
use Rattle.cw_types.specs.ReasonMeaning.{IsNeverReached, BreaksRuleAmong, BreaksRuleIn}
use Rattle.cw_types.specs.Typing.{faults_inside}

-- the program that the code holds
abbrev pub program_in : Globals → Program
program_in globals = program_of globals.ast.now

-- the lines that break a rule in the functions of a program
abbrev pub faults_of_all : Program → List ℕ
faults_of_all program = flat_map (faults_of program) program.functions

-- the lines that break a rule in one function
abbrev pub faults_in_function : Globals → Function → List ℕ
faults_in_function globals f = faults_of (program_in globals) (function_of f)

-- the lines of a block that break a rule, in this context
abbrev pub block_faults : Globals → Returns → List Declared → List Line → List ℕ
block_faults globals returns known lines =
    faults_in_block (program_in globals) (returns_of returns) (kinds known) (block_of lines)

-- the lines of the inner blocks of a statement that break a rule
abbrev pub inner_faults : Globals → Returns → List Declared → Line → List ℕ
inner_faults globals returns known line =
    faults_inside (program_in globals) (returns_of returns) (kinds known) (stmt_of line.stmt)

-- the lines of a block that break a rule are recorded if the result is `Ok`
abbrev pub NotesBlock : {R E : Type 0} → Globals → Returns → List Declared → List Line →
    (before after : Reasons IllTyped) → Result R E → Type 0
NotesBlock globals returns known lines before after r = RecordsOnOk (block_faults globals returns known lines) before after r

-- the lines of the inner blocks of a statement that break a rule are recorded if the result is `Ok`
abbrev pub NotesInner : {R E : Type 0} → Globals → Returns → List Declared → Line →
    (before after : Reasons IllTyped) → Result R E → Type 0
NotesInner globals returns known line before after r = RecordsOnOk (inner_faults globals returns known line) before after r

-- the reason is correct for one of these statements, in its line
abbrev pub IsAmong : Globals → List StmtContext → (ℕ → IllTyped → Type 0)
IsAmong globals statements = λ line r. BreaksRuleAmong (program_in globals) line statements r

-- the reason is correct for this function, in one of its lines
abbrev pub IsToldIn : Globals → Function → (ℕ → IllTyped → Type 0)
IsToldIn globals f = λ line r. BreaksRuleIn (program_in globals) line (function_of f) r

-- each new reason is correct for one of these statements
abbrev pub AddsAmong : Globals → List StmtContext → (before after : Reasons IllTyped) → Type 0
AddsAmong globals statements before after = AddsOnly (IsAmong globals statements) before after

-- the statements of a block, including all inner statements
abbrev pub all_in : Returns → List Declared → List Line → List StmtContext
all_in returns known lines = statements_in (returns_of returns) known (block_of lines)

-- the inner statements of the statement of a line
abbrev pub all_inside : Returns → List Declared → Line → List StmtContext
all_inside returns known line = statements_inside (returns_of returns) known line.line (stmt_of line.stmt)

-- the statements after a line are never reached, in every context
abbrev pub NeverReached : Line → List Line → IllTyped → Type 0
NeverReached line behind r =
    (returns : rule.Returns) → (known : List Declared) → IsNeverReached (statement_at returns known line behind) r
