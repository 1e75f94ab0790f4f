-- The abstraction functions from lowered trees to lowered programs.
use Rattle.std.specs.Prelude.{ℕ, List, [], ◌∷◌, map, option_map}
use Rattle.cw_loops.specs.declared.tree.Expr.{Expr}
use Rattle.cw_loops.specs.declared.tree.Expr.TheVariants.{Number, Variable, Element', Length, Negative', Not', Binary'}
use Rattle.cw_loops.specs.declared.tree.Argument.{Argument}
use Rattle.cw_loops.specs.declared.tree.Argument.TheVariants.{Int, Array, Shared}
use Rattle.cw_loops.specs.declared.tree.Stmt.{Stmt, fold-Stmt}
use Rattle.cw_loops.specs.declared.tree.Line.{Line, fold-Line}
use Rattle.cw_loops.specs.declared.tree.Stmt.TheOpen.{Stmt-F, Line-F}
use Rattle.cw_loops.specs.declared.tree.Loop.{Loop}
use Rattle.cw_loops.specs.Slotted as spec
use Rattle.cw_loops.specs.Moved as moved

-- the abstraction of an expression
abbrev pub expr_of : Expr → spec.Expr
expr_of (Number n) = spec.Number n
expr_of (Variable u) = spec.Variable u
expr_of (Element' u p e) = spec.Element u (expr_of e)
expr_of (Length u) = spec.Length u
expr_of (Negative' p e) = spec.Negative (expr_of e)
expr_of (Not' p e) = spec.Not (expr_of e)
expr_of (Binary' o p d q e) = spec.Binary o (expr_of d) (expr_of e)

-- the abstraction of an argument
abbrev pub argument_of : Argument → spec.Argument
argument_of (Int e) = spec.Int (expr_of e)
argument_of (Array u) = spec.Array u
argument_of (Shared u) = spec.Shared u

-- statements in order, each with its line, as a block
abbrev pub block_from : List (ℕ × spec.Stmt) → spec.Block
block_from [] = spec.End
block_from (l ∷ ls) = spec.Then l.0 l.1 (block_from ls)

-- the abstraction of one level of a statement, given the abstractions of its inner statements
abbrev pub stmt_step : Stmt-F spec.Stmt (ℕ × spec.Stmt) → spec.Stmt
stmt_step (Stmt-F.Declare u e) = spec.Declare u (expr_of e)
stmt_step (Stmt-F.DeclareArray u e) = spec.DeclareArray u (expr_of e)
stmt_step (Stmt-F.Assign u e) = spec.Assign u (expr_of e)
stmt_step (Stmt-F.AssignElement u i e) = spec.AssignElement u (expr_of i) (expr_of e)
stmt_step (Stmt-F.Reduce how s e) = spec.Reduce how s (expr_of e)
stmt_step (Stmt-F.Call c) =
    spec.Call c.value.kind c.value.site c.value.target c.value.callee (map argument_of c.value.arguments.items)
stmt_step (Stmt-F.Begin b) =
    spec.Begin b.value.callee (expr_of b.value.from) (expr_of b.value.to) b.value.captured.items b.value.over.items
stmt_step Stmt-F.Sync = spec.Sync
stmt_step (Stmt-F.If e b) = spec.If (expr_of e) (block_from b.items)
stmt_step (Stmt-F.IfElse e b c) = spec.IfElse (expr_of e) (block_from b.items) (block_from c.value.items)
stmt_step (Stmt-F.While e b) = spec.While (expr_of e) (block_from b.items)
stmt_step (Stmt-F.Scope b) = spec.Scope (block_from b.items)
stmt_step (Stmt-F.Cut c b) =
    spec.Cut c.value.array (expr_of c.value.at) c.value.left c.value.right (block_from b.items)
stmt_step (Stmt-F.Region tag b) = spec.Region tag (block_from b.items)
stmt_step (Stmt-F.Print e) = spec.Print (expr_of e)
stmt_step (Stmt-F.Return e) = spec.Return (option_map expr_of e)

-- a line, given the abstraction of its statement
abbrev pub line_step : Line-F spec.Stmt (ℕ × spec.Stmt) → ℕ × spec.Stmt
line_step l = (l.line, l.stmt)

-- the abstraction of a statement
abbrev pub stmt_of : Stmt → spec.Stmt
stmt_of = fold-Stmt spec.Stmt (ℕ × spec.Stmt) stmt_step line_step

-- the abstraction of a statement with its line
abbrev pub line_of : Line → ℕ × spec.Stmt
line_of = fold-Line spec.Stmt (ℕ × spec.Stmt) stmt_step line_step

-- the abstraction of lines: a block
abbrev pub block_of : List Line → spec.Block
block_of ls = block_from (map line_of ls)

-- the abstraction of a loop
abbrev pub loop_of : Loop → moved.Loop
loop_of l =
    record { line = l.line; grain = l.grain; captured = l.captured; over = l.over; body = block_of l.body.items }
