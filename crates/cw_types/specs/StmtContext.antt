-- The statements of a program, each in its context: its line, the allowed kind of `return`, and the known names.
use Rattle.std.specs.Prelude.{ℕ, List, [], ◌∷◌, ◌++◌}
use Rattle.cw_model.specs.declared.syntax.NameKind.TheVariants.{Integer, Array}
use Rattle.cw_model.specs.Syntax.{Stmt, If, IfElse, While, For, Scope, Cut, Region, Block, End, Then, Function}
use Rattle.cw_model.specs.Typing.{Returns, Nowhere}
use Rattle.cw_tree.specs.declared.syntax.Line.{Line}
use Rattle.cw_tree.specs.SyntaxView.{block_of, stmt_of}
use Rattle.cw_types.specs.Scope.{Declared, after_stmt, with_local, with_params}
use Rattle.cw_types.specs.Returned.{returns_in}

-- a statement in its context, with the statements that follow it in its block
pub record StmtContext : Type 0 where
  pub line : ℕ
  pub returns : Returns
  pub locals : List Declared
  pub stmt : Stmt
  pub behind : Block

-- the local names in a loop with this variable
abbrev pub in_loop : (line : ℕ) → (x : List ℕ) → List Declared → List Declared
in_loop line x locals = with_local x Integer line locals

-- the local names in a cut with these parts
abbrev pub in_cut : (line : ℕ) → (l r : List ℕ) → List Declared → List Declared
in_cut line l r locals = with_local r Array line (with_local l Array line locals)

abbrev mutual
  -- the statements of a block in this context, including all inner statements
  pub statements_in : Returns → List Declared → Block → List StmtContext
  statements_in returns locals End = []
  statements_in returns locals (Then line s b) =
      record { line = line; returns = returns; locals = locals; stmt = s; behind = b }
      ∷ (statements_inside returns locals line s ++ statements_in returns (after_stmt line s locals) b)

  -- the inner statements of a statement in this line
  pub statements_inside : Returns → List Declared → ℕ → Stmt → List StmtContext
  statements_inside returns locals line (If e b) = statements_in returns locals b
  statements_inside returns locals line (IfElse e b c) = statements_in returns locals b ++ statements_in returns locals c
  statements_inside returns locals line (While e b) = statements_in returns locals b
  statements_inside returns locals line (For x y z from to grain over b) =
      statements_in Nowhere (in_loop line x locals) b
  statements_inside returns locals line (Scope b) = statements_in Nowhere locals b
  statements_inside returns locals line (Cut a e l r b) = statements_in Nowhere (in_cut line l r locals) b
  statements_inside returns locals line (Region tag b) = statements_in Nowhere locals b
  statements_inside returns locals line _ = []

-- the statements of a function
abbrev pub statements_of : Function → List StmtContext
statements_of f = statements_in (returns_in f) (with_params f.line f.params []) f.body

-- a statement of the code in its context
abbrev pub statement_at : Returns → List Declared → Line → List Line → StmtContext
statement_at returns locals line behind =
    record { line = line.line; returns = returns; locals = locals; stmt = stmt_of line.stmt; behind = block_of behind }
