-- The kind and the depth of a statement with blocks.
use Rattle.std.proofs.Common.{◌≡◌, ℕ, List, ◌∷◌, Box, Vec, Global, ap}
use Rattle.cw_tree.specs.declared.resolved.Expr.{Expr}
use Rattle.cw_tree.specs.declared.resolved.Line.{Line}
use Rattle.cw_tree.specs.declared.resolved.Stmt as tree_stmt
use Rattle.cw_tree.specs.declared.resolved.Stmt.TheOpen.{Stmt-F}
use Rattle.cw_tree.specs.declared.resolved.Stmt.TheFolds.{fold-roll-Stmt, fold_out-Line}
use Rattle.cw_tree.specs.declared.resolved.Stmt.TheVariants as variant
use Rattle.cw_tree.specs.Resolved as spec
use Rattle.cw_tree.specs.ResolvedView.{expr_of, stmt_of, block_of, stmt_step, line_step}

pub if_else_is : (e : Expr) (b : Vec Line Global) (d : Box (Vec Line Global) Global) →
    stmt_of (variant.IfElse e b d) ≡ spec.IfElse (expr_of e) (block_of b.items) (block_of d.value.items)
unfolding tree_stmt.roll-Stmt denote.Hole.Carrier.roll
if_else_is e b d = fold-roll-Stmt spec.Stmt (ℕ × spec.Stmt) stmt_step line_step (Stmt-F.IfElse e b d)

pub line_is : (l : Line) (ls : List Line) → block_of (l ∷ ls) ≡ spec.Then l.line (stmt_of l.stmt) (block_of ls)
line_is l ls = ap (λ p. spec.Then p.0 p.1 (block_of ls)) (fold_out-Line spec.Stmt (ℕ × spec.Stmt) stmt_step line_step l)
