-- Bounds of slots and indices: each slot is below the count of its kind in its function, which is at most the maximum
-- number of names of a function, and each index is below the length of its table.
use Rattle.std.specs.Prelude.{ℕ, Bool, true, ◌&&◌, nat_lt, nat_le, length, Option, Some, None}
use Rattle.std.specs.List.{list_all}
use Rattle.cw_model.specs.declared.limits.TheConstants.{MOST_DECLARED}
use Rattle.cw_tree.specs.Resolved.{Expr, Number, Variable, Element, Length, Negative, Not, Binary, Use, Argument, Int}
use Rattle.cw_tree.specs.Resolved.{Array, Shared, Head, Parts, Stmt, Declare, DeclareArray, Assign, AssignElement, Reduce}
use Rattle.cw_tree.specs.Resolved.{Call, Sync, If, IfElse, While, For, Scope, Cut, Region, Print, Return, Block, End}
use Rattle.cw_tree.specs.Resolved.{Then, Function, Resolved}

-- the numbers of slots for integers and for arrays, of functions, of reducers and of tags
pub record Counts : Type 0 where
  pub ints : ℕ
  pub arrays : ℕ
  pub functions : ℕ
  pub reducers : ℕ
  pub tags : ℕ

-- the slot of a use is below `n`
abbrev pub is_below : ℕ → Use → Bool
is_below n u = nat_lt u.slot n

-- all slots of an expression are below the counts
abbrev pub fits_expr : Counts → Expr → Bool
fits_expr n (Number v) = true
fits_expr n (Variable u) = is_below n.ints u
fits_expr n (Element u e) = is_below n.arrays u && fits_expr n e
fits_expr n (Length u) = is_below n.arrays u
fits_expr n (Negative e) = fits_expr n e
fits_expr n (Not e) = fits_expr n e
fits_expr n (Binary operator d e) = fits_expr n d && fits_expr n e

-- all slots of an argument are below the counts
abbrev pub fits_argument : Counts → Argument → Bool
fits_argument n (Int e) = fits_expr n e
fits_argument n (Array u) = is_below n.arrays u
fits_argument n (Shared u) = is_below n.arrays u

-- the slot that receives a result, if there is one, is below the count
abbrev pub fits_target : Counts → Option Use → Bool
fits_target n None = true
fits_target n (Some u) = is_below n.ints u

-- all slots of a returned expression, if there is one, are below the counts
abbrev pub fits_return : Counts → Option Expr → Bool
fits_return n None = true
fits_return n (Some e) = fits_expr n e

-- all slots in the head of a loop are below the counts
abbrev pub fits_head : Counts → Head → Bool
fits_head n h =
    is_below n.ints h.variable && fits_expr n h.from && fits_expr n h.to && list_all (is_below n.ints) h.captured
    && list_all (is_below n.arrays) h.over

-- all slots of a cut are below the counts
abbrev pub fits_parts : Counts → Parts → Bool
fits_parts n c = is_below n.arrays c.array && fits_expr n c.at && is_below n.arrays c.left && is_below n.arrays c.right

abbrev mutual
  -- all slots and indices of a statement are below the counts
  pub fits_stmt : Counts → Stmt → Bool
  fits_stmt n (Declare u e) = is_below n.ints u && fits_expr n e
  fits_stmt n (DeclareArray u e) = is_below n.arrays u && fits_expr n e
  fits_stmt n (Assign u e) = is_below n.ints u && fits_expr n e
  fits_stmt n (AssignElement u i e) = is_below n.arrays u && fits_expr n i && fits_expr n e
  fits_stmt n (Reduce how s e) = nat_lt s.index n.reducers && fits_expr n e
  fits_stmt n (Call kind site target f es) =
      fits_target n target && nat_lt f.index n.functions && list_all (fits_argument n) es
  fits_stmt n Sync = true
  fits_stmt n (If e b) = fits_expr n e && fits_block n b
  fits_stmt n (IfElse e b c) = fits_expr n e && fits_block n b && fits_block n c
  fits_stmt n (While e b) = fits_expr n e && fits_block n b
  fits_stmt n (For head b) = fits_head n head && fits_block n b
  fits_stmt n (Scope b) = fits_block n b
  fits_stmt n (Cut parts b) = fits_parts n parts && fits_block n b
  fits_stmt n (Region tag b) = nat_lt tag.index n.tags && fits_block n b
  fits_stmt n (Print e) = fits_expr n e
  fits_stmt n (Return e) = fits_return n e

  -- all slots and indices of a block are below the counts
  pub fits_block : Counts → Block → Bool
  fits_block n End = true
  fits_block n (Then line s b) = fits_stmt n s && fits_block n b

-- the counts for a function of a program
abbrev pub counts_of : Resolved → Function → Counts
counts_of tree f = record {
  ints = f.ints;
  arrays = f.arrays;
  functions = length tree.functions;
  reducers = length tree.reducers;
  tags = length tree.tags;
}

-- the numbers of slots of a function keep the limit, and the slots and indices of its body are below the counts
abbrev pub fits_function : Resolved → Function → Bool
fits_function tree f =
    nat_le f.ints MOST_DECLARED && nat_le f.arrays MOST_DECLARED && fits_block (counts_of tree f) f.body

-- all slots and indices of a program are below their counts, and the index of main exists
abbrev pub is_fitting : Resolved → Bool
is_fitting tree = list_all (fits_function tree) tree.functions && nat_lt tree.main (length tree.functions)
