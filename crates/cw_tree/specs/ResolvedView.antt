-- The abstraction functions from trees of the code to resolved trees and their programs.
use Rattle.std.specs.Prelude.{ℕ, List, [], ◌∷◌, map, option_map}
use Rattle.cw_tree.specs.declared.resolved.Use as code_use
use Rattle.cw_tree.specs.declared.resolved.Listed as code_listed
use Rattle.cw_tree.specs.declared.resolved.Expr.{Expr}
use Rattle.cw_tree.specs.declared.resolved.Expr.TheVariants.{Number, Variable, Element', Length, Negative', Not'}
use Rattle.cw_tree.specs.declared.resolved.Expr.TheVariants.{Binary'}
use Rattle.cw_tree.specs.declared.resolved.Argument.{Argument}
use Rattle.cw_tree.specs.declared.resolved.Argument.TheVariants.{Int, Array, Shared}
use Rattle.cw_tree.specs.declared.resolved.Head.{Head}
use Rattle.cw_tree.specs.declared.resolved.Cut.{Cut}
use Rattle.cw_tree.specs.declared.resolved.Stmt.{Stmt, fold-Stmt}
use Rattle.cw_tree.specs.declared.resolved.Line.{Line, fold-Line}
use Rattle.cw_tree.specs.declared.resolved.Stmt.TheOpen.{Stmt-F, Line-F}
use Rattle.cw_tree.specs.declared.resolved.Param.{Param}
use Rattle.cw_tree.specs.declared.resolved.Function.{Function}
use Rattle.cw_tree.specs.declared.resolved.Reducer.{Reducer}
use Rattle.cw_tree.specs.declared.resolved.Tree.{Tree}
use Rattle.cw_tree.specs.Resolved as spec
use Rattle.cw_model.specs.Syntax as model

-- the abstraction of a use of a local
abbrev pub use_of : code_use.Use → spec.Use
use_of u = record { name = u.name; slot = u.slot }

-- the abstraction of a use of a function, a reducer or a tag
abbrev pub listed_of : code_listed.Listed → spec.Listed
listed_of l = record { name = l.name; index = l.index }

-- the abstraction of an expression
abbrev pub expr_of : Expr → spec.Expr
expr_of (Number n) = spec.Number n
expr_of (Variable u) = spec.Variable (use_of u)
expr_of (Element' u p e) = spec.Element (use_of u) (expr_of e)
expr_of (Length u) = spec.Length (use_of u)
expr_of (Negative' p e) = spec.Negative (expr_of e)
expr_of (Not' p e) = spec.Not (expr_of e)
expr_of (Binary' o p d q e) = spec.Binary o (expr_of d) (expr_of e)

-- the abstraction of an argument
abbrev pub argument_of : Argument → spec.Argument
argument_of (Int e) = spec.Int (expr_of e)
argument_of (Array u) = spec.Array (use_of u)
argument_of (Shared u) = spec.Shared (use_of u)

-- the abstraction of the head of a loop
abbrev pub head_of : Head → spec.Head
head_of h = record {
  variable = use_of h.variable;
  from = expr_of h.from;
  to = expr_of h.to;
  grain = h.grain;
  captured = map use_of h.captured.items;
  over = map use_of h.over.items;
}

-- the abstraction of a cut
abbrev pub parts_of : Cut → spec.Parts
parts_of c = record { array = use_of c.array; at = expr_of c.at; left = use_of c.left; right = use_of c.right }

-- statements in order, each with its line, as a block
abbrev pub block_from : List (ℕ × spec.Stmt) → spec.Block
block_from [] = spec.End
block_from (l ∷ ls) = spec.Then l.0 l.1 (block_from ls)

-- the abstraction of one level of a statement, given the abstractions of its inner statements
abbrev pub stmt_step : Stmt-F spec.Stmt (ℕ × spec.Stmt) → spec.Stmt
stmt_step (Stmt-F.Declare u e) = spec.Declare (use_of u) (expr_of e)
stmt_step (Stmt-F.DeclareArray u e) = spec.DeclareArray (use_of u) (expr_of e)
stmt_step (Stmt-F.Assign u e) = spec.Assign (use_of u) (expr_of e)
stmt_step (Stmt-F.AssignElement u i e) = spec.AssignElement (use_of u) (expr_of i.value) (expr_of e)
stmt_step (Stmt-F.Reduce how s e) = spec.Reduce how (listed_of s) (expr_of e)
stmt_step (Stmt-F.Call c) =
    spec.Call c.value.kind c.value.site (option_map use_of c.value.target) (listed_of c.value.callee)
    (map argument_of c.value.arguments.items)
stmt_step Stmt-F.Sync = spec.Sync
stmt_step (Stmt-F.If e b) = spec.If (expr_of e) (block_from b.items)
stmt_step (Stmt-F.IfElse e b c) = spec.IfElse (expr_of e) (block_from b.items) (block_from c.value.items)
stmt_step (Stmt-F.While e b) = spec.While (expr_of e) (block_from b.items)
stmt_step (Stmt-F.For h b) = spec.For (head_of h.value) (block_from b.items)
stmt_step (Stmt-F.Scope b) = spec.Scope (block_from b.items)
stmt_step (Stmt-F.Cut c b) = spec.Cut (parts_of c.value) (block_from b.items)
stmt_step (Stmt-F.Region tag b) = spec.Region (listed_of tag) (block_from b.items)
stmt_step (Stmt-F.Print e) = spec.Print (expr_of e)
stmt_step (Stmt-F.Return e) = spec.Return (option_map expr_of e)

-- a line, given the abstraction of its statement
abbrev pub line_step : Line-F spec.Stmt (ℕ × spec.Stmt) → ℕ × spec.Stmt
line_step l = (l.line, l.stmt)

-- the abstraction of a statement
abbrev pub stmt_of : Stmt → spec.Stmt
stmt_of = fold-Stmt spec.Stmt (ℕ × spec.Stmt) stmt_step line_step

-- the abstraction of a statement with its line
abbrev pub line_of : Line → ℕ × spec.Stmt
line_of = fold-Line spec.Stmt (ℕ × spec.Stmt) stmt_step line_step

-- the abstraction of lines: a block
abbrev pub block_of : List Line → spec.Block
block_of ls = block_from (map line_of ls)

-- the abstraction of a parameter
abbrev pub param_of : Param → model.Param
param_of p = record { name = p.name; kind = p.kind }

-- the abstraction of a function
abbrev pub function_of : Function → spec.Function
function_of f = record {
  name = f.name;
  line = f.line;
  gives_int = f.gives_int;
  params = map param_of f.params.items;
  ints = f.ints;
  arrays = f.arrays;
  body = block_of f.body.items;
}

-- the abstraction of a reducer
abbrev pub reducer_of : Reducer → model.Reducer
reducer_of r = record { name = r.name; how = r.how; line = r.line }

-- the resolved tree that a tree represents
abbrev pub resolved_of : Tree → spec.Resolved
resolved_of tree = record {
  reducers = map reducer_of tree.reducers.items;
  functions = map function_of tree.functions.items;
  tags = tree.tags.items;
  main = tree.main;
}

-- the program that a tree represents
abbrev pub program_of : Tree → model.Program
program_of tree = spec.plain (resolved_of tree)
