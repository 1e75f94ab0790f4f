-- A test whether two lowered trees are equal; a `Core` can hold only a test.
use Rattle.std.specs.Prelude.{◌≡◌, ℕ, ◌==◌, ℤ, pos, negsuc, Bool, true, false, ◌&&◌, List, [], ◌∷◌, Option, Some, None}
use Rattle.cw_model.specs.declared.syntax.CallKind.{CallKind}
use Rattle.cw_model.specs.declared.syntax.CallKind.TheVariants.{Plain, Spawned}
use Rattle.cw_model.specs.declared.syntax.Operator.{Operator}
use Rattle.cw_model.specs.declared.syntax.Operator.TheVariants.{Equal, Unequal, Less, AtMost, Greater, AtLeast, Plus}
use Rattle.cw_model.specs.declared.syntax.Operator.TheVariants.{Minus, Times, Divide, Modulo}
use Rattle.cw_model.specs.Typing.{same_reduction}
use Rattle.cw_loops.specs.Slotted.{Expr, Number, Variable, Element, Length, Negative, Not, Binary, Argument, Int}
use Rattle.cw_loops.specs.Slotted.{Array, Stmt, Declare, DeclareArray, Assign, AssignElement, Reduce, Call, Start}
use Rattle.cw_loops.specs.Slotted.{Begin, Sync, If, IfElse, While, Scope, Cut, Region, Print, Return, Block, End}
use Rattle.cw_loops.specs.Slotted.{Then, Shared}
use Rattle.cw_loops.specs.Moved.{Loop}
use Rattle.cw_loops.specs.Lowers.{Bodies}

-- a distinct number for each operator
abbrev pub number_of : Operator → ℕ
number_of Equal = 0
number_of Unequal = 1
number_of Less = 2
number_of AtMost = 3
number_of Greater = 4
number_of AtLeast = 5
number_of Plus = 6
number_of Minus = 7
number_of Times = 8
number_of Divide = 9
number_of Modulo = 10

-- equality of kinds of calls
abbrev pub same_kind : CallKind → CallKind → Bool
same_kind Plain Plain = true
same_kind Spawned Spawned = true
same_kind _ _ = false

-- equality of numbers
abbrev pub same_int : ℤ → ℤ → Bool
same_int (pos n) (pos m) = n == m
same_int (negsuc n) (negsuc m) = n == m
same_int _ _ = false

-- equality of lists of slots
abbrev pub same_slots : List ℕ → List ℕ → Bool
same_slots [] [] = true
same_slots (n ∷ ns) (m ∷ ms) = (n == m) && same_slots ns ms
same_slots _ _ = false

-- equality of targets
abbrev pub same_target : Option ℕ → Option ℕ → Bool
same_target None None = true
same_target (Some n) (Some m) = n == m
same_target _ _ = false

-- equality of expressions
abbrev pub same_expr : Expr → Expr → Bool
same_expr (Number n) (Number m) = same_int n m
same_expr (Variable u) (Variable v) = u == v
same_expr (Element u d) (Element v e) = (u == v) && same_expr d e
same_expr (Length u) (Length v) = u == v
same_expr (Negative d) (Negative e) = same_expr d e
same_expr (Not d) (Not e) = same_expr d e
same_expr (Binary o c d) (Binary p e f) = (number_of o == number_of p) && (same_expr c e && same_expr d f)
same_expr _ _ = false

-- equality of arguments
abbrev pub same_argument : Argument → Argument → Bool
same_argument (Int d) (Int e) = same_expr d e
same_argument (Array u) (Array v) = u == v
same_argument (Shared u) (Shared v) = u == v
same_argument _ _ = false

-- equality of lists of arguments
abbrev pub same_arguments : List Argument → List Argument → Bool
same_arguments [] [] = true
same_arguments (d ∷ ds) (e ∷ es) = same_argument d e && same_arguments ds es
same_arguments _ _ = false

-- equality of expressions of returns
abbrev pub same_return : Option Expr → Option Expr → Bool
same_return None None = true
same_return (Some d) (Some e) = same_expr d e
same_return _ _ = false

abbrev mutual
  -- equality of statements
  pub same_stmt : Stmt → Stmt → Bool
  same_stmt (Declare u d) (Declare v e) = (u == v) && same_expr d e
  same_stmt (DeclareArray u d) (DeclareArray v e) = (u == v) && same_expr d e
  same_stmt (Assign u d) (Assign v e) = (u == v) && same_expr d e
  same_stmt (AssignElement u i d) (AssignElement v j e) = (u == v) && (same_expr i j && same_expr d e)
  same_stmt (Reduce how u d) (Reduce other v e) = same_reduction how other && ((u == v) && same_expr d e)
  same_stmt (Call k s t f ds) (Call l r u g es) =
      same_kind k l && ((s == r) && (same_target t u && ((f == g) && same_arguments ds es)))
  same_stmt (Start k f ds) (Start l g es) = same_kind k l && ((f == g) && same_arguments ds es)
  same_stmt (Begin f a b ks os) (Begin g c d ls ps) =
      (f == g) && (same_expr a c && (same_expr b d && (same_slots ks ls && same_slots os ps)))
  same_stmt Sync Sync = true
  same_stmt (If d b) (If e c) = same_expr d e && same_block b c
  same_stmt (IfElse d a b) (IfElse e f g) = same_expr d e && (same_block a f && same_block b g)
  same_stmt (While d b) (While e c) = same_expr d e && same_block b c
  same_stmt (Scope b) (Scope c) = same_block b c
  same_stmt (Cut u d l r b) (Cut v e m s c) = (u == v) && (same_expr d e && ((l == m) && ((r == s) && same_block b c)))
  same_stmt (Region u b) (Region v c) = (u == v) && same_block b c
  same_stmt (Print d) (Print e) = same_expr d e
  same_stmt (Return d) (Return e) = same_return d e
  same_stmt _ _ = false

  -- equality of blocks
  pub same_block : Block → Block → Bool
  same_block End End = true
  same_block (Then l s b) (Then m t c) = (l == m) && (same_stmt s t && same_block b c)
  same_block _ _ = false

-- equality of loops
abbrev pub same_loop : Loop → Loop → Bool
same_loop l m =
    (l.line == m.line)
    && ((l.grain == m.grain) && ((l.captured == m.captured) && ((l.over == m.over) && same_block l.body m.body)))

-- equality of lists of loops
abbrev pub same_loops : List Loop → List Loop → Bool
same_loops [] [] = true
same_loops (l ∷ ls) (m ∷ ms) = same_loop l m && same_loops ls ms
same_loops _ _ = false

-- equality of lists of blocks
abbrev pub same_blocks : List Block → List Block → Bool
same_blocks [] [] = true
same_blocks (b ∷ bs) (c ∷ cs) = same_block b c && same_blocks bs cs
same_blocks _ _ = false

-- equality of bodies and loops
abbrev pub same_bodies : Bodies → Bodies → Bool
same_bodies a b = same_blocks a.blocks b.blocks && same_loops a.loops b.loops

-- trees that pass the test are equal
abbrev pub SameTreesAreEqual : Type 0
SameTreesAreEqual = (a b : Bodies) → same_bodies a b ≡ true → a ≡ b
