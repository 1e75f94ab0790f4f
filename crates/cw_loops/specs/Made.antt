-- The results of the code that lowers the parts of a program.
use Rattle.std.specs.Prelude.{◌≡◌, ℕ, List, map, Option, option_map}
use Rattle.std.specs.Global.{Vec}
use Rattle.cw_tree.specs.declared.resolved.Argument as code_argument
use Rattle.cw_tree.specs.declared.resolved.Call.{Call}
use Rattle.cw_tree.specs.declared.resolved.Cut.{Cut}
use Rattle.cw_tree.specs.declared.resolved.Expr as code_expr
use Rattle.cw_tree.specs.declared.resolved.Function.{Function}
use Rattle.cw_tree.specs.declared.resolved.Head.{Head}
use Rattle.cw_tree.specs.declared.resolved.Line as code_line
use Rattle.cw_tree.specs.declared.resolved.Stmt as code_stmt
use Rattle.cw_tree.specs.declared.resolved.Use.{Use}
use Rattle.cw_tree.specs.Resolved as resolved
use Rattle.cw_tree.specs.ResolvedView as source
use Rattle.cw_loops.specs.declared.bodies.Here.{Here}
use Rattle.cw_loops.specs.declared.moves.Moves.{Moves}
use Rattle.cw_loops.specs.declared.tree.Argument.{Argument}
use Rattle.cw_loops.specs.declared.tree.Expr.{Expr}
use Rattle.cw_loops.specs.declared.tree.Line.{Line}
use Rattle.cw_loops.specs.declared.tree.Loop.{Loop}
use Rattle.cw_loops.specs.declared.tree.Stmt.{Stmt}
use Rattle.cw_loops.specs.declared.tree.Tree.{Tree}
use Rattle.cw_loops.specs.Lowers.{bodies_of, made_of}
use Rattle.cw_loops.specs.Moved as spec
use Rattle.cw_loops.specs.Moving.{moves_view, uses_of}
use Rattle.cw_loops.specs.View.{expr_of, argument_of, stmt_of, block_of, loop_of}

-- the lowered expression
abbrev pub IsExpr : Moves → code_expr.Expr → Expr → Type 0
IsExpr moves e made = expr_of made ≡ spec.moved_expr (moves_view moves) (source.expr_of e)

-- the lowered argument
abbrev pub IsArgument : Moves → code_argument.Argument → Argument → Type 0
IsArgument moves e made = argument_of made ≡ spec.moved_argument (moves_view moves) (source.argument_of e)

-- the lowered arguments, in order
abbrev pub AreArguments : Moves → List code_argument.Argument → List Argument → Type 0
AreArguments moves es made =
    map argument_of made ≡ map (spec.moved_argument (moves_view moves)) (map source.argument_of es)

-- the new slot of the integer that receives a result, if there is one
abbrev pub IsTarget : Moves → Option Use → Option ℕ → Type 0
IsTarget moves target made = made ≡ spec.moved_target (moves_view moves) (option_map source.use_of target)

-- the lowered expression of a return, if there is one
abbrev pub IsReturned : Moves → Option code_expr.Expr → Option Expr → Type 0
IsReturned moves e made = option_map expr_of made ≡ spec.moved_return (moves_view moves) (option_map source.expr_of e)

-- the new slots of integers
abbrev pub AreInts : Moves → List Use → List ℕ → Type 0
AreInts moves uses made = made ≡ spec.moved_ints (moves_view moves) (uses_of uses)

-- the new slots of arrays
abbrev pub AreArrays : Moves → List Use → List ℕ → Type 0
AreArrays moves uses made = made ≡ spec.moved_arrays (moves_view moves) (uses_of uses)

-- the call that begins a loop, whose function has this index
abbrev pub IsBeginning : Moves → (callee : ℕ) → Head → Stmt → Type 0
IsBeginning moves callee head made = stmt_of made ≡ spec.moved_head (moves_view moves) callee (source.head_of head)

-- the lowered call statement
abbrev pub IsCall : Moves → Call → Stmt → Type 0
IsCall moves c made =
    stmt_of made
    ≡ spec.moved_alone (moves_view moves) (resolved.Call c.kind c.site (option_map source.use_of c.target)
    (source.listed_of c.callee) (map source.argument_of c.arguments.items))

-- the lowered statement, which has no inner blocks
abbrev pub IsAlone : Moves → code_stmt.Stmt → Stmt → Type 0
IsAlone moves s made = stmt_of made ≡ spec.moved_alone (moves_view moves) (source.stmt_of s)

-- the lowered block in this context, after the loops so far
abbrev pub block_here : Here → Vec Loop → List code_line.Line → spec.MadeAll
block_here here loops lines =
    spec.made_block here.functions (moves_view here.moves) here.arrays (map loop_of loops.items) (source.block_of lines)

-- the lowered statement in this context, after the loops so far
abbrev pub stmt_here : Here → Vec Loop → (line : ℕ) → resolved.Stmt → spec.Made
stmt_here here loops line s =
    spec.made_stmt here.functions (moves_view here.moves) here.arrays (map loop_of loops.items) line s

-- the lowered statements of a block
abbrev pub IsBlock : Here → List code_line.Line → (before : Vec Loop) → List Line → Type 0
IsBlock here lines before made = block_of made ≡ (block_here here before lines).block

-- the loops of a block are appended to the loops before
abbrev pub LoopsOfBlock : Here → List code_line.Line → (before after : Vec Loop) → Type 0
LoopsOfBlock here lines before after = map loop_of after.items ≡ (block_here here before lines).loops

-- the lowered statement
abbrev pub IsStmt : Here → (line : ℕ) → code_stmt.Stmt → (before : Vec Loop) → Stmt → Type 0
IsStmt here line s before made = stmt_of made ≡ (stmt_here here before line (source.stmt_of s)).stmt

-- the loops of a statement are appended to the loops before
abbrev pub LoopsOfStmt : Here → (line : ℕ) → code_stmt.Stmt → (before after : Vec Loop) → Type 0
LoopsOfStmt here line s before after = map loop_of after.items ≡ (stmt_here here before line (source.stmt_of s)).loops

-- the lowered loop with this head and body in this context
abbrev pub for_here : Here → Vec Loop → (line : ℕ) → Head → List code_line.Line → spec.Made
for_here here loops line head body =
    stmt_here here loops line (resolved.For (source.head_of head) (source.block_of body))

-- the call that replaces the loop
abbrev pub IsFor : Here → (line : ℕ) → Head → List code_line.Line → (before : Vec Loop) → Stmt → Type 0
IsFor here line head body before made = stmt_of made ≡ (for_here here before line head body).stmt

-- the loops of its body are appended to the loops before, followed by the loop itself
abbrev pub LoopsOfFor : Here → (line : ℕ) → Head → List code_line.Line → (before after : Vec Loop) → Type 0
LoopsOfFor here line head body before after = map loop_of after.items ≡ (for_here here before line head body).loops

-- the lowered cut with this block in this context
abbrev pub cut_here : Here → Vec Loop → Cut → List code_line.Line → spec.Made
cut_here here loops cut body = stmt_here here loops 0 (resolved.Cut (source.parts_of cut) (source.block_of body))

-- the lowered cut
abbrev pub IsCut : Here → Cut → List code_line.Line → (before : Vec Loop) → Stmt → Type 0
IsCut here cut body before made = stmt_of made ≡ (cut_here here before cut body).stmt

-- the loops of its block are appended to the loops before
abbrev pub LoopsOfCut : Here → Cut → List code_line.Line → (before after : Vec Loop) → Type 0
LoopsOfCut here cut body before after = map loop_of after.items ≡ (cut_here here before cut body).loops

-- the lowered bodies of functions, with their loops
abbrev pub AreBodies : List Function → Tree → Type 0
AreBodies functions tree = bodies_of tree ≡ made_of (map source.function_of functions)
