-- Limits: the lines of tokens, declarations, heads, regions and loops above a limit, and the counts of a whole
-- program.
use Rattle.std.specs.Prelude.{ℕ, ◌+◌, ◌-◌, ◌*◌, nat_le, if◌then◌else◌, List, [], ◌∷◌, ◌++◌, length, drop, map}
use Rattle.std.specs.Prelude.{flat_map, sum_by, Option, Some, None}
use Rattle.cw_model.specs.declared.token.Token.{Token}
use Rattle.cw_model.specs.declared.token.Kind.{Kind}
use Rattle.cw_model.specs.declared.token.Kind.TheVariants as kind
use Rattle.cw_model.specs.declared.limits.TheConstants.{MOST_OPEN_BRACKETS, MOST_TOKENS_IN_A_ROW, MOST_FUNCTIONS}
use Rattle.cw_model.specs.declared.limits.TheConstants.{MOST_REDUCERS, MOST_PARAMETERS, MOST_DECLARED, MOST_TAG_BYTES}
use Rattle.cw_model.specs.declared.limits.TheConstants.{MOST_TAGS, MOST_LOOPS, MOST_INSTRUCTIONS}
use Rattle.cw_model.specs.declared.limits.TheConstants.{MOST_CALL_STATEMENTS}
use Rattle.cw_model.specs.Syntax.{Name, Expr, Number, Variable, Element, Length, Negative, Not, Binary, Stmt, Declare}
use Rattle.cw_model.specs.Syntax.{DeclareArray, Assign, AssignElement, Reduce, Call, Start, Begin, Sync, If, IfElse}
use Rattle.cw_model.specs.Syntax.{While, For, Scope, Cut, Region, Print, Return, Block, End, Then, Param, Function}
use Rattle.cw_model.specs.Syntax.{is_array_param, Program}
use Rattle.cw_model.specs.Names.{is_among}
use Rattle.cw_model.specs.Captured.{captured}
use Rattle.cw_model.specs.Meaning.{function_named}
use Rattle.cw_model.specs.Lines.{unless}
use Rattle.cw_model.specs.Sites.{call_sites}

-- the number of open brackets after a token; a closing bracket of any kind closes one
abbrev pub open_after : ℕ → Kind → ℕ
open_after n kind.LeftParen = n + 1
open_after n kind.LeftBracket = n + 1
open_after n kind.LeftBrace = n + 1
open_after n kind.RightParen = n - 1
open_after n kind.RightBracket = n - 1
open_after n kind.RightBrace = n - 1
open_after n _ = n

-- the number of tokens in a row after a token; a semicolon or a brace ends the row
abbrev pub row_after : ℕ → Kind → ℕ
row_after n kind.Semicolon = 0
row_after n kind.LeftBrace = 0
row_after n kind.RightBrace = 0
row_after n _ = n + 1

-- the lines of tokens at which too many brackets are open, or at which a row is too long
abbrev pub token_faults : (brackets row : ℕ) → List Token → List ℕ
token_faults brackets row [] = []
token_faults brackets row (t ∷ ts) =
    let opened = open_after brackets t.kind in
    let next = row_after row t.kind in
    unless (nat_le opened MOST_OPEN_BRACKETS) t.line
    ++ (unless (nat_le next MOST_TOKENS_IN_A_ROW) t.line ++ token_faults opened next ts)

-- the first entry of each name
abbrev pub first_places : List (Name × ℕ) → List Name → List (Name × ℕ)
first_places [] known = []
first_places (d ∷ ds) known = if is_among d.0 known then first_places ds known else d ∷ first_places ds (d.0 ∷ known)

-- the lines after the first `most` ones
abbrev pub lines_beyond : ℕ → List ℕ → List ℕ
lines_beyond most lines = drop most lines

abbrev mutual
  -- the line of each name that a statement declares, in source order
  pub declaring_lines : ℕ → Stmt → List ℕ
  declaring_lines line (Declare x e) = line ∷ []
  declaring_lines line (DeclareArray a e) = line ∷ []
  declaring_lines line (If e b) = declaring_lines_in b
  declaring_lines line (IfElse e b c) = declaring_lines_in b ++ declaring_lines_in c
  declaring_lines line (While e b) = declaring_lines_in b
  declaring_lines line (For x y z from to grain over b) = line ∷ declaring_lines_in b
  declaring_lines line (Scope b) = declaring_lines_in b
  declaring_lines line (Cut a e l r b) = line ∷ line ∷ declaring_lines_in b
  declaring_lines line (Region tag b) = declaring_lines_in b
  declaring_lines line _ = []

  -- the line of each name that a block declares, in source order
  pub declaring_lines_in : Block → List ℕ
  declaring_lines_in End = []
  declaring_lines_in (Then line s b) = declaring_lines line s ++ declaring_lines_in b

abbrev mutual
  -- the tag and the line of each region in a statement
  pub regions_in : ℕ → Stmt → List (Name × ℕ)
  regions_in line (If e b) = regions_in_block b
  regions_in line (IfElse e b c) = regions_in_block b ++ regions_in_block c
  regions_in line (While e b) = regions_in_block b
  regions_in line (For x y z from to grain over b) = regions_in_block b
  regions_in line (Scope b) = regions_in_block b
  regions_in line (Cut a e l r b) = regions_in_block b
  regions_in line (Region tag b) = (tag, line) ∷ regions_in_block b
  regions_in line _ = []

  -- the tag and the line of each region in a block
  pub regions_in_block : Block → List (Name × ℕ)
  regions_in_block End = []
  regions_in_block (Then line s b) = regions_in line s ++ regions_in_block b

abbrev mutual
  -- the line of each loop in a statement
  pub loops_in : ℕ → Stmt → List ℕ
  loops_in line (If e b) = loops_in_block b
  loops_in line (IfElse e b c) = loops_in_block b ++ loops_in_block c
  loops_in line (While e b) = loops_in_block b
  loops_in line (For x y z from to grain over b) = line ∷ loops_in_block b
  loops_in line (Scope b) = loops_in_block b
  loops_in line (Cut a e l r b) = loops_in_block b
  loops_in line (Region tag b) = loops_in_block b
  loops_in line _ = []

  -- the line of each loop in a block
  pub loops_in_block : Block → List ℕ
  loops_in_block End = []
  loops_in_block (Then line s b) = loops_in line s ++ loops_in_block b

-- the regions of a program
abbrev pub regions_of : Program → List (Name × ℕ)
regions_of program = flat_map (λ f. regions_in_block f.body) program.functions

-- the line of a head with too many parameters, and the lines of declarations above the limit; parameters are in the
-- head's line
abbrev pub function_limits : Function → List ℕ
function_limits f =
    unless (nat_le (length f.params) MOST_PARAMETERS) f.line
    ++ lines_beyond MOST_DECLARED (map (λ p. f.line) f.params ++ declaring_lines_in f.body)

-- the lines of functions, reducers, heads, declarations and regions above a limit
abbrev pub limit_faults : Program → List ℕ
limit_faults program =
    lines_beyond MOST_FUNCTIONS (map (λ f. f.line) program.functions)
    ++ (lines_beyond MOST_REDUCERS (map (λ r. r.line) program.reducers)
    ++ (flat_map function_limits program.functions
    ++ (flat_map (λ d. unless (nat_le (length d.0) MOST_TAG_BYTES) d.1) (regions_of program)
    ++ lines_beyond MOST_TAGS (map (λ d. d.1) (first_places (regions_of program) [])))))

-- the lines of loops above the limit
abbrev pub loop_faults : Program → List ℕ
loop_faults program = lines_beyond MOST_LOOPS (flat_map (λ f. loops_in_block f.body) program.functions)

-- the number of instructions of an expression inside loops over these arrays: an index into one of them costs two
-- more
abbrev pub size_of : List Name → Expr → ℕ
size_of over (Number n) = 1
size_of over (Variable x) = 1
size_of over (Element a e) = (if is_among a over then 2 else 0) + size_of over e + 1
size_of over (Length a) = 1
size_of over (Negative e) = size_of over e + 1
size_of over (Not e) = size_of over e + 1
size_of over (Binary operator d e) = size_of over d + size_of over e + 1

-- the number of instructions of the integer arguments of a call
abbrev pub arguments_size : List Name → List Param → List Expr → ℕ
arguments_size over [] es = 0
arguments_size over (p ∷ ps) [] = 0
arguments_size over (p ∷ ps) (e ∷ es) = (if is_array_param p then 0 else size_of over e) + arguments_size over ps es

-- the number of instructions of a return
abbrev pub returned_size : List Name → Option Expr → ℕ
returned_size over None = 1
returned_size over (Some e) = size_of over e + 1

abbrev mutual
  -- the number of instructions of a statement after lowering of loops, each construct, branch, jump and end counted
  -- once
  pub stmt_size : List Function → List Name → Stmt → ℕ
  stmt_size fs over (Declare x e) = size_of over e + 1
  stmt_size fs over (DeclareArray a e) = size_of over e + 1
  stmt_size fs over (Assign x e) = size_of over e + 1
  stmt_size fs over (AssignElement a i e) = (if is_among a over then 2 else 0) + size_of over i + size_of over e + 1
  stmt_size fs over (Reduce how s e) = size_of over e + 1
  stmt_size fs over (Call kind site target f es) = arguments_size over (function_named f fs).params es + 1
  stmt_size fs over (Start kind f es) = arguments_size over (function_named f fs).params es + 1
  stmt_size fs over (Begin f from to names arrays) = size_of over from + size_of over to + length names + 1
  stmt_size fs over Sync = 1
  stmt_size fs over (If e b) = size_of over e + 1 + block_size fs over b
  stmt_size fs over (IfElse e b c) = size_of over e + 1 + block_size fs over b + 1 + block_size fs over c
  stmt_size fs over (While e b) = size_of over e + 1 + block_size fs over b + 1
  stmt_size fs over (For x y z from to grain arrays b) =
      let k = length (captured x b) in
      size_of over from + size_of over to + k + 1 + (35 + 5 * length arrays + 2 * k) + block_size fs (arrays ++ over) b
  stmt_size fs over (Scope b) = 1 + block_size fs over b + 1
  stmt_size fs over (Cut a e l r b) = size_of over e + 1 + block_size fs over b + 1
  stmt_size fs over (Region tag b) = 1 + block_size fs over b + 1
  stmt_size fs over (Print e) = size_of over e + 1
  stmt_size fs over (Return e) = returned_size over e

  -- the number of instructions of a block
  pub block_size : List Function → List Name → Block → ℕ
  block_size fs over End = 0
  block_size fs over (Then line s b) = stmt_size fs over s + block_size fs over b

-- the number of instructions of a function; the end of a void function is one instruction
abbrev pub function_size : List Function → Function → ℕ
function_size fs f = block_size fs [] f.body + (if f.gives_int then 0 else 1)

-- the static size of a program, in instructions
abbrev pub static_size : Program → ℕ
static_size program = sum_by (function_size program.functions) program.functions

-- the number of call statements of a program
abbrev pub call_count : Program → ℕ
call_count program = length (call_sites program)

-- a program with too many instructions or call statements has a fault in line 1
abbrev pub program_faults : Program → List ℕ
program_faults program =
    unless (nat_le (static_size program) MOST_INSTRUCTIONS) 1
    ++ unless (nat_le (call_count program) MOST_CALL_STATEMENTS) 1
