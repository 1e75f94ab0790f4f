-- The equality test of lowered trees is reflexive.
use Rattle.std.proofs.Common.{◌≡◌, ℕ, ◌==◌, ℤ, pos, negsuc, true, List, [], ◌∷◌, Option, Some, None, refl, sym, ◌∙◌, ap}
use Rattle.cw_facts.specs.Tests.{both_true, equal}
use Rattle.cw_model.specs.declared.syntax.CallKind.{CallKind}
use Rattle.cw_model.specs.declared.syntax.CallKind.TheVariants.{Plain, Spawned}
use Rattle.cw_model.specs.declared.syntax.Reduction.{Reduction}
use Rattle.cw_model.specs.declared.syntax.Reduction.TheVariants.{Sum, Max}
use Rattle.cw_model.specs.Typing.{same_reduction}
use Rattle.cw_loops.specs.Slotted.{Expr, Number, Variable, Element, Length, Negative, Not, Binary, Argument, Int, Array, Stmt, Declare, DeclareArray, Assign, AssignElement}
use Rattle.cw_loops.specs.Slotted.{Reduce, Call, Start, Begin, Sync, If, IfElse, While, Scope, Cut, Region, Print, Return, Block, End, Then, Shared}
use Rattle.cw_loops.specs.Moved.{Loop}
use Rattle.cw_loops.specs.Lowers.{Bodies}
use Rattle.cw_loops.specs.Same.{number_of, same_kind, same_int, same_slots, same_target, same_expr, same_argument, same_arguments}
use Rattle.cw_loops.specs.Same.{same_return, same_stmt, same_block, same_loop, same_loops, same_blocks, same_bodies}

kind_itself : (k : CallKind) → same_kind k k ≡ true
kind_itself Plain = refl
kind_itself Spawned = refl

reduction_itself : (how : Reduction) → same_reduction how how ≡ true
reduction_itself Sum = refl
reduction_itself Max = refl

int_itself : (n : ℤ) → same_int n n ≡ true
int_itself (pos n) = equal n n refl
int_itself (negsuc n) = equal n n refl

slots_itself : (ns : List ℕ) → same_slots ns ns ≡ true
slots_itself [] = refl
slots_itself (n ∷ ns) = both_true (n == n) _ (equal n n refl) (slots_itself ns)

target_itself : (t : Option ℕ) → same_target t t ≡ true
target_itself None = refl
target_itself (Some n) = equal n n refl

expr_itself : (e : Expr) → same_expr e e ≡ true
expr_itself (Number n) = int_itself n
expr_itself (Variable u) = equal u u refl
expr_itself (Element u e) = both_true (u == u) _ (equal u u refl) (expr_itself e)
expr_itself (Length u) = equal u u refl
expr_itself (Negative e) = expr_itself e
expr_itself (Not e) = expr_itself e
expr_itself (Binary o d e) = both_true (number_of o == number_of o) _ (equal (number_of o) (number_of o) refl) (both_true (same_expr d d) _ (expr_itself d) (expr_itself e))

argument_itself : (e : Argument) → same_argument e e ≡ true
argument_itself (Int e) = expr_itself e
argument_itself (Array u) = equal u u refl
argument_itself (Shared u) = equal u u refl

arguments_itself : (es : List Argument) → same_arguments es es ≡ true
arguments_itself [] = refl
arguments_itself (e ∷ es) = both_true (same_argument e e) _ (argument_itself e) (arguments_itself es)

return_itself : (e : Option Expr) → same_return e e ≡ true
return_itself None = refl
return_itself (Some e) = expr_itself e

mutual
  stmt_itself : (s : Stmt) → same_stmt s s ≡ true
  stmt_itself (Declare u e) = both_true (u == u) _ (equal u u refl) (expr_itself e)
  stmt_itself (DeclareArray u e) = both_true (u == u) _ (equal u u refl) (expr_itself e)
  stmt_itself (Assign u e) = both_true (u == u) _ (equal u u refl) (expr_itself e)
  stmt_itself (AssignElement u i e) = both_true (u == u) _ (equal u u refl) (both_true (same_expr i i) _ (expr_itself i) (expr_itself e))
  stmt_itself (Reduce how u e) = both_true (same_reduction how how) _ (reduction_itself how) (both_true (u == u) _ (equal u u refl) (expr_itself e))
  stmt_itself (Call k s t f es) =
      both_true (same_kind k k) _ (kind_itself k) (both_true (s == s) _ (equal s s refl)
      (both_true (same_target t t) _ (target_itself t) (both_true (f == f) _ (equal f f refl) (arguments_itself es))))
  stmt_itself (Start k f es) = both_true (same_kind k k) _ (kind_itself k) (both_true (f == f) _ (equal f f refl) (arguments_itself es))
  stmt_itself (Begin f a b ks os) =
      both_true (f == f) _ (equal f f refl) (both_true (same_expr a a) _ (expr_itself a)
      (both_true (same_expr b b) _ (expr_itself b) (both_true (same_slots ks ks) _ (slots_itself ks) (slots_itself os))))
  stmt_itself Sync = refl
  stmt_itself (If e b) = both_true (same_expr e e) _ (expr_itself e) (block_itself b)
  stmt_itself (IfElse e b c) = both_true (same_expr e e) _ (expr_itself e) (both_true (same_block b b) _ (block_itself b) (block_itself c))
  stmt_itself (While e b) = both_true (same_expr e e) _ (expr_itself e) (block_itself b)
  stmt_itself (Scope b) = block_itself b
  stmt_itself (Cut u e l r b) =
      both_true (u == u) _ (equal u u refl) (both_true (same_expr e e) _ (expr_itself e) (both_true (l == l) _ (equal l l refl) (both_true (r == r) _ (equal r r refl) (block_itself b))))
  stmt_itself (Region u b) = both_true (u == u) _ (equal u u refl) (block_itself b)
  stmt_itself (Print e) = expr_itself e
  stmt_itself (Return e) = return_itself e

  block_itself : (b : Block) → same_block b b ≡ true
  block_itself End = refl
  block_itself (Then l s b) = both_true (l == l) _ (equal l l refl) (both_true (same_stmt s s) _ (stmt_itself s) (block_itself b))

loops_itself : (ls : List Loop) → same_loops ls ls ≡ true
loops_itself [] = refl
loops_itself (l ∷ ls) =
    both_true (same_loop l l) _
    (both_true (l.line == l.line) _ (equal l.line l.line refl) (both_true (l.grain == l.grain) _ (equal l.grain l.grain refl)
    (both_true (l.captured == l.captured) _ (equal l.captured l.captured refl) (both_true (l.over == l.over) _ (equal l.over l.over refl) (block_itself l.body)))))
    (loops_itself ls)

blocks_itself : (bs : List Block) → same_blocks bs bs ≡ true
blocks_itself [] = refl
blocks_itself (b ∷ bs) = both_true (same_block b b) _ (block_itself b) (blocks_itself bs)

pub bodies_itself : (a b : Bodies) → a ≡ b → same_bodies a b ≡ true
bodies_itself a b e = ap (same_bodies a) (sym e) ∙ both_true (same_blocks a.blocks a.blocks) _ (blocks_itself a.blocks) (loops_itself a.loops)
