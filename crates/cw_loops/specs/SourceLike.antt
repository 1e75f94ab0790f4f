-- Programs whose names and numbers are possible in a source.
use Rattle.std.specs.Prelude.{Bool, true, false, ◌&&◌, Option, Some, None}
use Rattle.std.specs.List.{list_all}
use Rattle.cw_model.specs.Ints.{fits}
use Rattle.cw_model.specs.Syntax.{Name, Expr, Number, Variable, Element, Length, Negative, Not, Binary, Stmt, Declare}
use Rattle.cw_model.specs.Syntax.{DeclareArray, Assign, AssignElement, Reduce, Call, Start, Begin, Sync, If, IfElse}
use Rattle.cw_model.specs.Syntax.{While, For, Scope, Cut, Region, Print, Return, Block, End, Then, Function, Program}
use Rattle.cw_loops.specs.Lowered.{is_plain}

-- an expression with plain names and with numbers that fit in 64 bits
abbrev pub is_source_expr : Expr → Bool
is_source_expr (Number n) = fits n
is_source_expr (Variable x) = is_plain x
is_source_expr (Element a e) = is_plain a && is_source_expr e
is_source_expr (Length a) = is_plain a
is_source_expr (Negative e) = is_source_expr e
is_source_expr (Not e) = is_source_expr e
is_source_expr (Binary operator d e) = is_source_expr d && is_source_expr e

-- the target of a call is a plain name
abbrev pub is_source_target : Option Name → Bool
is_source_target None = true
is_source_target (Some x) = is_plain x

-- the expression of a return has plain names and numbers that fit
abbrev pub is_source_return : Option Expr → Bool
is_source_return None = true
is_source_return (Some e) = is_source_expr e

abbrev mutual
  -- a statement, including its inner blocks, has plain names and numbers that fit
  pub is_source_stmt : Stmt → Bool
  is_source_stmt (Declare x e) = is_plain x && is_source_expr e
  is_source_stmt (DeclareArray a e) = is_plain a && is_source_expr e
  is_source_stmt (Assign x e) = is_plain x && is_source_expr e
  is_source_stmt (AssignElement a i e) = is_plain a && (is_source_expr i && is_source_expr e)
  is_source_stmt (Reduce how s e) = is_plain s && is_source_expr e
  is_source_stmt (Call kind site target f es) = is_source_target target && (is_plain f && list_all is_source_expr es)
  -- no source contains this statement
  is_source_stmt (Start kind f es) = false
  is_source_stmt (Begin f from to captured over) = false
  is_source_stmt Sync = true
  is_source_stmt (If e b) = is_source_expr e && is_source_block b
  is_source_stmt (IfElse e b c) = is_source_expr e && (is_source_block b && is_source_block c)
  is_source_stmt (While e b) = is_source_expr e && is_source_block b
  is_source_stmt (For x y z from to grain over b) =
      is_plain x && (is_source_expr from && (is_source_expr to && (list_all is_plain over && is_source_block b)))
  is_source_stmt (Scope b) = is_source_block b
  is_source_stmt (Cut a e l r b) = is_plain a && (is_source_expr e && (is_plain l && (is_plain r && is_source_block b)))
  is_source_stmt (Region tag b) = is_source_block b
  is_source_stmt (Print e) = is_source_expr e
  is_source_stmt (Return e) = is_source_return e

  -- a block has plain names and numbers that fit
  pub is_source_block : Block → Bool
  is_source_block End = true
  is_source_block (Then line s b) = is_source_stmt s && is_source_block b

-- a function has a plain name, and its body has plain names and numbers that fit
abbrev pub is_source_function : Function → Bool
is_source_function f = is_plain f.name && is_source_block f.body

-- no name begins with `#`, and each number fits in 64 bits
abbrev pub is_source_like : Program → Bool
is_source_like program = list_all is_source_function program.functions
