-- The abstraction of statements of the tree.
use Rattle.std.proofs.Common.{◌≡◌, ℕ, Box, Vec, Global}
use Rattle.cw_loops.specs.declared.tree.Expr.{Expr}
use Rattle.cw_loops.specs.declared.tree.Cut.{Cut}
use Rattle.cw_loops.specs.declared.tree.Line.{Line}
use Rattle.cw_loops.specs.declared.tree.Stmt as tree_stmt
use Rattle.cw_loops.specs.declared.tree.Stmt.TheOpen.{Stmt-F}
use Rattle.cw_loops.specs.declared.tree.Stmt.TheFolds.{fold-roll-Stmt}
use Rattle.cw_loops.specs.declared.tree.Stmt.TheVariants as variant
use Rattle.cw_loops.specs.Slotted as spec
use Rattle.cw_loops.specs.View.{expr_of, stmt_of, block_of, stmt_step, line_step}

pub if_else_is : (e : Expr) (b : Vec Line Global) (d : Box (Vec Line Global) Global) →
    stmt_of (variant.IfElse e b d) ≡ spec.IfElse (expr_of e) (block_of b.items) (block_of d.value.items)
unfolding tree_stmt.roll-Stmt denote.Hole.Carrier.roll
if_else_is e b d = fold-roll-Stmt spec.Stmt (ℕ × spec.Stmt) stmt_step line_step (Stmt-F.IfElse e b d)

pub while_is : (e : Expr) (b : Vec Line Global) → stmt_of (variant.While e b) ≡ spec.While (expr_of e) (block_of b.items)
unfolding tree_stmt.roll-Stmt denote.Hole.Carrier.roll
while_is e b = fold-roll-Stmt spec.Stmt (ℕ × spec.Stmt) stmt_step line_step (Stmt-F.While e b)

pub cut_is : (k : Box Cut Global) (b : Vec Line Global) → stmt_of (variant.Cut k b) ≡ spec.Cut k.value.array (expr_of k.value.at) k.value.left k.value.right (block_of b.items)
unfolding tree_stmt.roll-Stmt denote.Hole.Carrier.roll
cut_is k b = fold-roll-Stmt spec.Stmt (ℕ × spec.Stmt) stmt_step line_step (Stmt-F.Cut k b)
