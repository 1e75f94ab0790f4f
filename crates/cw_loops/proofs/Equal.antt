-- Lowered trees that pass the test are equal.
use Rattle.std.proofs.Common.{◌≡◌, ℕ, ◌==◌, ℤ, pos, negsuc, true, List, [], ◌∷◌, Option, Some, None, refl, ap}
use Rattle.std.proofs.lemmas.Bool.{eqb-true, and_parts}
use Rattle.cw_model.specs.declared.syntax.CallKind.{CallKind}
use Rattle.cw_model.specs.declared.syntax.CallKind.TheVariants.{Plain, Spawned}
use Rattle.cw_model.specs.declared.syntax.Operator.{Operator}
use Rattle.cw_model.specs.declared.syntax.Operator.TheVariants as operator
use Rattle.cw_model.specs.declared.syntax.Reduction.{Reduction}
use Rattle.cw_model.specs.declared.syntax.Reduction.TheVariants.{Sum, Max}
use Rattle.cw_model.specs.Typing.{same_reduction}
use Rattle.cw_loops.specs.Slotted.{Expr, Number, Variable, Element, Length, Negative, Not, Binary, Argument, Int, Array, Stmt, Declare, DeclareArray, Assign, AssignElement}
use Rattle.cw_loops.specs.Slotted.{Reduce, Call, Start, Begin, Sync, If, IfElse, While, Scope, Cut, Region, Print, Return, Block, End, Then, Shared}
use Rattle.cw_loops.specs.Moved.{Loop}
use Rattle.cw_loops.specs.Lowers.{Bodies}
use Rattle.cw_loops.specs.Same.{number_of, same_kind, same_int, same_slots, same_target, same_expr, same_argument, same_arguments}
use Rattle.cw_loops.specs.Same.{same_return, same_stmt, same_block, same_loop, same_loops, same_blocks, same_bodies}

operator_equal : (o p : Operator) → (number_of o == number_of p) ≡ true → o ≡ p
operator_equal operator.Equal operator.Equal h = refl
operator_equal operator.Unequal operator.Unequal h = refl
operator_equal operator.Less operator.Less h = refl
operator_equal operator.AtMost operator.AtMost h = refl
operator_equal operator.Greater operator.Greater h = refl
operator_equal operator.AtLeast operator.AtLeast h = refl
operator_equal operator.Plus operator.Plus h = refl
operator_equal operator.Minus operator.Minus h = refl
operator_equal operator.Times operator.Times h = refl
operator_equal operator.Divide operator.Divide h = refl
operator_equal operator.Modulo operator.Modulo h = refl
operator_equal o p h = absurd cc

kind_equal : (k l : CallKind) → same_kind k l ≡ true → k ≡ l
kind_equal Plain Plain h = refl
kind_equal Spawned Spawned h = refl
kind_equal k l h = absurd cc

reduction_equal : (how other : Reduction) → same_reduction how other ≡ true → how ≡ other
reduction_equal Sum Sum h = refl
reduction_equal Max Max h = refl
reduction_equal how other h = absurd cc

int_equal : (n m : ℤ) → same_int n m ≡ true → n ≡ m
int_equal (pos n) (pos m) h = ap pos (eqb-true n m h)
int_equal (negsuc n) (negsuc m) h = ap negsuc (eqb-true n m h)
int_equal n m h = absurd cc

slots_equal : (ns ms : List ℕ) → same_slots ns ms ≡ true → ns ≡ ms
slots_equal [] [] h = refl
slots_equal (n ∷ ns) (m ∷ ms) h =
    let p = and_parts (n == m) (same_slots ns ms) h in
    rw (eqb-true n m p.0, slots_equal ns ms p.1) refl
slots_equal ns ms h = absurd cc

target_equal : (t u : Option ℕ) → same_target t u ≡ true → t ≡ u
target_equal None None h = refl
target_equal (Some n) (Some m) h = ap Some (eqb-true n m h)
target_equal t u h = absurd cc

expr_equal : (d e : Expr) → same_expr d e ≡ true → d ≡ e
expr_equal (Number n) (Number m) h = ap Number (int_equal n m h)
expr_equal (Variable u) (Variable v) h = ap Variable (eqb-true u v h)
expr_equal (Element u d) (Element v e) h =
    let p = and_parts (u == v) (same_expr d e) h in
    rw (eqb-true u v p.0, expr_equal d e p.1) refl
expr_equal (Length u) (Length v) h = ap Length (eqb-true u v h)
expr_equal (Negative d) (Negative e) h = ap Negative (expr_equal d e h)
expr_equal (Not d) (Not e) h = ap Not (expr_equal d e h)
expr_equal (Binary o c d) (Binary p e f) h =
    let q = and_parts (number_of o == number_of p) _ h in
    let r = and_parts (same_expr c e) (same_expr d f) q.1 in
    rw (operator_equal o p q.0, expr_equal c e r.0, expr_equal d f r.1) refl
expr_equal d e h = absurd cc

argument_equal : (d e : Argument) → same_argument d e ≡ true → d ≡ e
argument_equal (Int d) (Int e) h = ap Int (expr_equal d e h)
argument_equal (Array u) (Array v) h = ap Array (eqb-true u v h)
argument_equal (Shared u) (Shared v) h = ap Shared (eqb-true u v h)
argument_equal d e h = absurd cc

arguments_equal : (ds es : List Argument) → same_arguments ds es ≡ true → ds ≡ es
arguments_equal [] [] h = refl
arguments_equal (d ∷ ds) (e ∷ es) h =
    let p = and_parts (same_argument d e) (same_arguments ds es) h in
    rw (argument_equal d e p.0, arguments_equal ds es p.1) refl
arguments_equal ds es h = absurd cc

return_equal : (d e : Option Expr) → same_return d e ≡ true → d ≡ e
return_equal None None h = refl
return_equal (Some d) (Some e) h = ap Some (expr_equal d e h)
return_equal d e h = absurd cc

mutual
  stmt_equal : (s t : Stmt) → same_stmt s t ≡ true → s ≡ t
  stmt_equal (Declare u d) (Declare v e) h = let p = and_parts (u == v) (same_expr d e) h in rw (eqb-true u v p.0, expr_equal d e p.1) refl
  stmt_equal (DeclareArray u d) (DeclareArray v e) h = let p = and_parts (u == v) (same_expr d e) h in rw (eqb-true u v p.0, expr_equal d e p.1) refl
  stmt_equal (Assign u d) (Assign v e) h = let p = and_parts (u == v) (same_expr d e) h in rw (eqb-true u v p.0, expr_equal d e p.1) refl
  stmt_equal (AssignElement u i d) (AssignElement v j e) h =
      let p = and_parts (u == v) _ h in
      let q = and_parts (same_expr i j) (same_expr d e) p.1 in
      rw (eqb-true u v p.0, expr_equal i j q.0, expr_equal d e q.1) refl
  stmt_equal (Reduce how u d) (Reduce other v e) h =
      let q = and_parts (same_reduction how other) _ h in
      let p = and_parts (u == v) (same_expr d e) q.1 in
      rw (reduction_equal how other q.0, eqb-true u v p.0, expr_equal d e p.1) refl
  stmt_equal (Call k s t f ds) (Call l r u g es) h =
      let p = and_parts (same_kind k l) _ h in
      let q = and_parts (s == r) _ p.1 in
      let o = and_parts (same_target t u) _ q.1 in
      let w = and_parts (f == g) (same_arguments ds es) o.1 in
      rw (kind_equal k l p.0, eqb-true s r q.0, target_equal t u o.0, eqb-true f g w.0, arguments_equal ds es w.1) refl
  stmt_equal (Start k f ds) (Start l g es) h =
      let p = and_parts (same_kind k l) _ h in
      let q = and_parts (f == g) (same_arguments ds es) p.1 in
      rw (kind_equal k l p.0, eqb-true f g q.0, arguments_equal ds es q.1) refl
  stmt_equal (Begin f a b ks os) (Begin g c d ls ps) h =
      let p = and_parts (f == g) _ h in
      let q = and_parts (same_expr a c) _ p.1 in
      let o = and_parts (same_expr b d) _ q.1 in
      let w = and_parts (same_slots ks ls) (same_slots os ps) o.1 in
      rw (eqb-true f g p.0, expr_equal a c q.0, expr_equal b d o.0, slots_equal ks ls w.0, slots_equal os ps w.1) refl
  stmt_equal Sync Sync h = refl
  stmt_equal (If d b) (If e c) h = let p = and_parts (same_expr d e) (same_block b c) h in rw (expr_equal d e p.0, block_equal b c p.1) refl
  stmt_equal (IfElse d a b) (IfElse e f g) h =
      let p = and_parts (same_expr d e) _ h in
      let q = and_parts (same_block a f) (same_block b g) p.1 in
      rw (expr_equal d e p.0, block_equal a f q.0, block_equal b g q.1) refl
  stmt_equal (While d b) (While e c) h = let p = and_parts (same_expr d e) (same_block b c) h in rw (expr_equal d e p.0, block_equal b c p.1) refl
  stmt_equal (Scope b) (Scope c) h = ap Scope (block_equal b c h)
  stmt_equal (Cut u d l r b) (Cut v e m s c) h =
      let p = and_parts (u == v) _ h in
      let q = and_parts (same_expr d e) _ p.1 in
      let o = and_parts (l == m) _ q.1 in
      let w = and_parts (r == s) (same_block b c) o.1 in
      rw (eqb-true u v p.0, expr_equal d e q.0, eqb-true l m o.0, eqb-true r s w.0, block_equal b c w.1) refl
  stmt_equal (Region u b) (Region v c) h = let p = and_parts (u == v) (same_block b c) h in rw (eqb-true u v p.0, block_equal b c p.1) refl
  stmt_equal (Print d) (Print e) h = ap Print (expr_equal d e h)
  stmt_equal (Return d) (Return e) h = ap Return (return_equal d e h)
  stmt_equal s t h = absurd cc

  block_equal : (b c : Block) → same_block b c ≡ true → b ≡ c
  block_equal End End h = refl
  block_equal (Then l s b) (Then m t c) h =
      let p = and_parts (l == m) _ h in
      let q = and_parts (same_stmt s t) (same_block b c) p.1 in
      rw (eqb-true l m p.0, stmt_equal s t q.0, block_equal b c q.1) refl
  block_equal b c h = absurd cc

abbrev loop_as : ℕ → ℕ → ℕ → ℕ → Block → Loop
loop_as line grain captured over body = record { line = line; grain = grain; captured = captured; over = over; body = body }

loop_equal : (l m : Loop) → same_loop l m ≡ true → l ≡ m
loop_equal l m h =
    let p = and_parts (l.line == m.line) _ h in
    let q = and_parts (l.grain == m.grain) _ p.1 in
    let o = and_parts (l.captured == m.captured) _ q.1 in
    let w = and_parts (l.over == m.over) (same_block l.body m.body) o.1 in
    of_parts (eqb-true l.line m.line p.0) (eqb-true l.grain m.grain q.0) (eqb-true l.captured m.captured o.0) (eqb-true l.over m.over w.0) (block_equal l.body m.body w.1)
  where
    of_parts : l.line ≡ m.line → l.grain ≡ m.grain → l.captured ≡ m.captured → l.over ≡ m.over → l.body ≡ m.body →
        loop_as l.line l.grain l.captured l.over l.body ≡ loop_as m.line m.grain m.captured m.over m.body
    of_parts a b c d e = rw (a, b, c, d, e) refl

loops_equal : (ls ms : List Loop) → same_loops ls ms ≡ true → ls ≡ ms
loops_equal [] [] h = refl
loops_equal (l ∷ ls) (m ∷ ms) h =
    let p = and_parts (same_loop l m) (same_loops ls ms) h in
    rw (loop_equal l m p.0, loops_equal ls ms p.1) refl
loops_equal ls ms h = absurd cc

blocks_equal : (bs cs : List Block) → same_blocks bs cs ≡ true → bs ≡ cs
blocks_equal [] [] h = refl
blocks_equal (b ∷ bs) (c ∷ cs) h =
    let p = and_parts (same_block b c) (same_blocks bs cs) h in
    rw (block_equal b c p.0, blocks_equal bs cs p.1) refl
blocks_equal bs cs h = absurd cc

abbrev bodies_as : List Block → List Loop → Bodies
bodies_as blocks loops = record { blocks = blocks; loops = loops }

pub bodies_equal : (a b : Bodies) → same_bodies a b ≡ true → a ≡ b
bodies_equal a b h =
    let p = and_parts (same_blocks a.blocks b.blocks) (same_loops a.loops b.loops) h in
    of_parts (blocks_equal a.blocks b.blocks p.0) (loops_equal a.loops b.loops p.1)
  where
    of_parts : a.blocks ≡ b.blocks → a.loops ≡ b.loops → bodies_as a.blocks a.loops ≡ bodies_as b.blocks b.loops
    of_parts e f = rw (e, f) refl
