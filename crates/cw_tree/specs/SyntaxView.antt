-- The abstraction functions from syntax trees of the code to programs.
use Rattle.std.specs.Prelude.{ℕ, List, [], ◌∷◌, map, option_map}
use Rattle.cw_tree.specs.declared.syntax.Expr.{Expr}
use Rattle.cw_tree.specs.declared.syntax.Expr.TheVariants.{Number, Variable, Element', Length, Negative', Not', Binary'}
use Rattle.cw_tree.specs.declared.syntax.Stmt.{Stmt, fold-Stmt}
use Rattle.cw_tree.specs.declared.syntax.Line.{Line, fold-Line}
use Rattle.cw_tree.specs.declared.syntax.Stmt.TheOpen.{Stmt-F, Line-F}
use Rattle.cw_tree.specs.declared.syntax.Param.{Param}
use Rattle.cw_tree.specs.declared.syntax.Function.{Function}
use Rattle.cw_tree.specs.declared.syntax.Reducer.{Reducer}
use Rattle.cw_tree.specs.declared.syntax.Ast.{Ast}
use Rattle.cw_model.specs.Syntax as model

-- the abstraction of an expression
abbrev pub expr_of : Expr → model.Expr
expr_of (Number n) = model.Number n
expr_of (Variable x) = model.Variable x
expr_of (Element' a p e) = model.Element a (expr_of e)
expr_of (Length a) = model.Length a
expr_of (Negative' p e) = model.Negative (expr_of e)
expr_of (Not' p e) = model.Not (expr_of e)
expr_of (Binary' o p d q e) = model.Binary o (expr_of d) (expr_of e)

-- the abstraction of expressions
abbrev pub exprs_of : List Expr → List model.Expr
exprs_of es = map expr_of es

-- statements in order, each with its line, as a block
abbrev pub block_from : List (ℕ × model.Stmt) → model.Block
block_from [] = model.End
block_from (l ∷ ls) = model.Then l.0 l.1 (block_from ls)

-- the abstraction of one level of a statement, given the abstractions of its inner statements
abbrev pub stmt_step : Stmt-F model.Stmt (ℕ × model.Stmt) → model.Stmt
stmt_step (Stmt-F.Declare x e) = model.Declare x (expr_of e)
stmt_step (Stmt-F.DeclareArray x e) = model.DeclareArray x (expr_of e)
stmt_step (Stmt-F.Assign x e) = model.Assign x (expr_of e)
stmt_step (Stmt-F.AssignElement x i e) = model.AssignElement x (expr_of i) (expr_of e)
stmt_step (Stmt-F.Reduce how x e) = model.Reduce how x (expr_of e)
stmt_step (Stmt-F.Call c) =
    model.Call c.value.kind c.value.site c.value.target c.value.callee (exprs_of c.value.arguments.items)
stmt_step Stmt-F.Sync = model.Sync
stmt_step (Stmt-F.If e b) = model.If (expr_of e) (block_from b.items)
stmt_step (Stmt-F.IfElse e b c) = model.IfElse (expr_of e) (block_from b.items) (block_from c.items)
stmt_step (Stmt-F.While e b) = model.While (expr_of e) (block_from b.items)
stmt_step (Stmt-F.For h b) =
    model.For h.value.variable h.value.tested h.value.stepped (expr_of h.value.from) (expr_of h.value.to) h.value.grain
    h.value.over.items (block_from b.items)
stmt_step (Stmt-F.Scope b) = model.Scope (block_from b.items)
stmt_step (Stmt-F.Cut c b) =
    model.Cut c.value.array (expr_of c.value.at) c.value.left c.value.right (block_from b.items)
stmt_step (Stmt-F.Region tag b) = model.Region tag (block_from b.items)
stmt_step (Stmt-F.Print e) = model.Print (expr_of e)
stmt_step (Stmt-F.Return e) = model.Return (option_map expr_of e)

-- a line, given the abstraction of its statement
abbrev pub line_step : Line-F model.Stmt (ℕ × model.Stmt) → ℕ × model.Stmt
line_step l = (l.line, l.stmt)

-- the abstraction of a statement
abbrev pub stmt_of : Stmt → model.Stmt
stmt_of = fold-Stmt model.Stmt (ℕ × model.Stmt) stmt_step line_step

-- the abstraction of a statement with its line
abbrev pub line_of : Line → ℕ × model.Stmt
line_of = fold-Line model.Stmt (ℕ × model.Stmt) stmt_step line_step

-- the abstraction of lines: a block
abbrev pub block_of : List Line → model.Block
block_of ls = block_from (map line_of ls)

-- applies a view to a value that is paired with the number of the next call statement
abbrev pub numbered : {X Y : Type 0} → (X → Y) → X × ℕ → Y × ℕ
numbered view x = (view x.0, x.1)

-- the abstraction of a parameter
abbrev pub param_of : Param → model.Param
param_of p = record { name = p.name; kind = p.kind }

-- the abstraction of a function
abbrev pub function_of : Function → model.Function
function_of f =
    record {
      name = f.name;
      line = f.line;
      gives_int = f.gives_int;
      params = map param_of f.params.items;
      body = block_of f.body.items;
    }

-- the abstraction of a reducer
abbrev pub reducer_of : Reducer → model.Reducer
reducer_of r = record { name = r.name; how = r.how; line = r.line }

-- the program that a tree represents
abbrev pub program_of : Ast → model.Program
program_of ast =
    record { reducers = map reducer_of ast.reducers.items; functions = map function_of ast.functions.items }
