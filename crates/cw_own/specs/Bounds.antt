-- Bounds of the slots that are declared, held or listed: each is below the maximum number of names of a function.
use Rattle.std.specs.Prelude.{Bool, true, false, ◌&&◌, nat_lt, nat_le, Option, Some, None, length}
use Rattle.std.specs.List.{list_all}
use Rattle.cw_model.specs.declared.limits.TheConstants.{MOST_DECLARED, MOST_PARAMETERS}
use Rattle.cw_tree.specs.Resolved.{Use, Argument, Int, Array, Shared, Stmt, Declare, DeclareArray, Call, If, IfElse}
use Rattle.cw_tree.specs.Resolved.{While}
use Rattle.cw_tree.specs.Resolved.{For, Scope, Cut, Region, Block, End, Then, Function}

-- a slot fits in a set of bits
abbrev pub is_small : Use → Bool
is_small u = nat_lt u.slot MOST_DECLARED

-- the slot of an array that is passed is small
abbrev pub small_argument : Argument → Bool
small_argument (Int e) = true
small_argument (Array u) = is_small u
small_argument (Shared u) = is_small u

-- the slot of a target, if there is one, is small
abbrev pub small_target : Option Use → Bool
small_target None = true
small_target (Some u) = is_small u

abbrev mutual
  -- the slots that a statement declares, takes or lists are small
  pub small_stmt : Stmt → Bool
  small_stmt (Declare u e) = is_small u
  small_stmt (DeclareArray u e) = is_small u
  small_stmt (Call kind site target f es) = small_target target && list_all small_argument es
  small_stmt (If e b) = small_block b
  small_stmt (IfElse e b c) = small_block b && small_block c
  small_stmt (While e b) = small_block b
  small_stmt (For head b) = is_small head.variable && (list_all is_small head.over && small_block b)
  small_stmt (Scope b) = small_block b
  small_stmt (Cut parts b) = is_small parts.array && (is_small parts.left && (is_small parts.right && small_block b))
  small_stmt (Region tag b) = small_block b
  small_stmt _ = true

  -- the slots that a block declares, takes or lists are small
  pub small_block : Block → Bool
  small_block End = true
  small_block (Then line s b) = small_stmt s && small_block b

-- a statement is an `if` with two branches
abbrev pub is_if_else : Stmt → Bool
is_if_else (IfElse e b c) = true
is_if_else _ = false

-- a function has few parameters, and the slots of its body are small
abbrev pub small_function : Function → Bool
small_function f = nat_le (length f.params) MOST_PARAMETERS && small_block f.body
