-- The rules of ownership by slots: the lines of a resolved tree that break a rule.
use Rattle.std.specs.Prelude.{ℕ, ◌==◌, Bool, true, false, not, ◌&&◌, ◌||◌, List, [], ◌∷◌, ◌++◌, Option, Some, None}
use Rattle.std.specs.List.{list_all}
use Rattle.cw_model.specs.Lines.{unless}
use Rattle.cw_model.specs.Ownership.{Closing, Joins, Leaves}
use Rattle.cw_tree.specs.Resolved.{Use, Expr, Number, Variable, Element, Length, Negative, Not, Binary, Argument, Int}
use Rattle.cw_tree.specs.Resolved.{Array, Shared, Stmt, Declare, DeclareArray, Assign, AssignElement, Reduce, Call}
use Rattle.cw_tree.specs.Resolved.{Sync, If}
use Rattle.cw_tree.specs.Resolved.{IfElse, While, For, Scope, Cut, Region, Print, Return, Head, Block, End, Then}
use Rattle.cw_tree.specs.Resolved.{Function}
use Rattle.cw_own.specs.Sets.{Slots, no_slot, with_slot, Row, no_local, with_int}
use Rattle.cw_own.specs.Taken.{either_restrictions, Taken, nothing, int_taken, array_taken, array_held, inside, inside_cut}
use Rattle.cw_own.specs.Taken.{joined, with_parts}
use Rattle.cw_own.specs.Taken.{known_after, taken_after, taken_after_all, gain, with_params}

-- the innermost enclosing loop: the locals outside its body together with its variable, the slot of the variable, and
-- the arrays of the loop
pub record Loop : Type 0 where
  pub outer : Row
  pub variable : ℕ
  pub over : Slots

-- adds the slots of these uses to a set
abbrev pub with_uses : List Use → Slots → Slots
with_uses [] set = set
with_uses (u ∷ us) set = with_uses us (with_slot u.slot set)

-- the loop with this head, if these locals are known before it
abbrev pub loop_in : Head → Row → Loop
loop_in head known =
    record
    { outer = with_int head.variable.slot known; variable = head.variable.slot; over = with_uses head.over no_slot }

-- the loop as the head of an inner loop sees it: the head must not name its arrays
abbrev pub for_head : Option Loop → Option Loop
for_head None = None
for_head (Some l) = Some (record { outer = l.outer; variable = l.variable; over = no_slot })

-- an integer is from outside the loop
abbrev pub is_outer_int : Option Loop → ℕ → Bool
is_outer_int None slot = false
is_outer_int (Some l) slot = l.outer.ints slot

-- an array is from outside the loop
abbrev pub is_outer_array : Option Loop → ℕ → Bool
is_outer_array None slot = false
is_outer_array (Some l) slot = l.outer.arrays slot

-- the expression is exactly this integer
abbrev pub is_variable : ℕ → Expr → Bool
is_variable slot (Variable u) = slot == u.slot
is_variable slot _ = false

-- an outer array may be named only as x[i], where the loop is over x and its variable is i
abbrev pub may_index : Option Loop → ℕ → Expr → Bool
may_index None slot e = true
may_index (Some l) slot e = not (l.outer.arrays slot) || (l.over slot && is_variable l.variable e)

-- an expression names nothing taken, and keeps the rule of the enclosing loop
abbrev pub may_read : Option Loop → Taken → Expr → Bool
may_read around taken (Number n) = true
may_read around taken (Variable u) = not (int_taken taken u.slot)
may_read around taken (Element u e) =
    not (array_taken taken u.slot) && may_index around u.slot e && may_read around taken e
may_read around taken (Length u) = not (array_taken taken u.slot) && not (is_outer_array around u.slot)
may_read around taken (Negative e) = may_read around taken e
may_read around taken (Not e) = may_read around taken e
may_read around taken (Binary operator d e) = may_read around taken d && may_read around taken e

-- an integer that is neither taken nor from outside the loop may be written
abbrev pub may_write : Option Loop → Taken → ℕ → Bool
may_write around taken slot = not (int_taken taken slot) && not (is_outer_int around slot)

-- an array that is neither held nor from outside the loop may be given away or cut
abbrev pub may_pass : Option Loop → Taken → ℕ → Bool
may_pass around taken slot = not (array_held taken slot) && not (is_outer_array around slot)

-- an array that is neither taken nor from outside the loop may be passed to a call that only reads it
abbrev pub may_lend : Option Loop → Taken → ℕ → Bool
may_lend around taken slot = not (array_taken taken slot) && not (is_outer_array around slot)

-- the integer that receives a result, if there is one, may be written
abbrev pub may_target : Option Loop → Taken → Option Use → Bool
may_target around taken None = true
may_target around taken (Some u) = may_write around taken u.slot

-- an argument may be read or passed
abbrev pub may_give : Option Loop → Taken → Argument → Bool
may_give around taken (Int e) = may_read around taken e
may_give around taken (Array u) = may_pass around taken u.slot
may_give around taken (Shared u) = may_lend around taken u.slot

-- the expression of a return, if there is one, may be read
abbrev pub may_return : Option Loop → Taken → Option Expr → Bool
may_return around taken None = true
may_return around taken (Some e) = may_read around taken e

-- no array is given away twice, and none of `seen` is given away
abbrev pub passed_once : Slots → List Argument → Bool
passed_once seen [] = true
passed_once seen (Int e ∷ es) = passed_once seen es
passed_once seen (Array u ∷ es) = not (seen u.slot) && passed_once (with_slot u.slot seen) es
passed_once seen (Shared u ∷ es) = passed_once seen es

-- adds the arrays that are given away to a set
abbrev pub given_away : List Argument → Slots → Slots
given_away [] set = set
given_away (Int e ∷ es) set = given_away es set
given_away (Array u ∷ es) set = given_away es (with_slot u.slot set)
given_away (Shared u ∷ es) set = given_away es set

-- no array of `given` is passed to be read
abbrev pub none_read : Slots → List Argument → Bool
none_read given [] = true
none_read given (Int e ∷ es) = none_read given es
none_read given (Array u ∷ es) = none_read given es
none_read given (Shared u ∷ es) = not (given u.slot) && none_read given es

-- no array is named twice, and none of `seen` is named
abbrev pub named_once : Slots → List Use → Bool
named_once seen [] = true
named_once seen (u ∷ us) = not (seen u.slot) && named_once (with_slot u.slot seen) us

-- the head of a loop keeps the rules
abbrev pub head_keeps : Option Loop → Taken → Head → Bool
head_keeps around taken head =
    may_read (for_head around) taken head.from && may_read (for_head around) taken head.to
    && list_all (λ u. may_pass around taken u.slot) head.over && named_once no_slot head.over

-- a statement keeps the rules, apart from its inner blocks
abbrev pub keeps : Option Loop → Taken → Stmt → Bool
keeps around taken (Declare u e) = may_read around taken e
keeps around taken (DeclareArray u e) = may_read around taken e
keeps around taken (Assign u e) = may_read around taken e && may_write around taken u.slot
keeps around taken (AssignElement u i e) =
    may_read around taken i && may_read around taken e && not (array_held taken u.slot) && may_index around u.slot i
keeps around taken (Reduce how s e) = may_read around taken e
keeps around taken (Call kind site target f es) =
    list_all (may_give around taken) es && may_target around taken target && passed_once no_slot es
    && none_read (given_away es no_slot) es
keeps around taken Sync = true
keeps around taken (If e b) = may_read around taken e
keeps around taken (IfElse e b c) = may_read around taken e
keeps around taken (While e b) = may_read around taken e
keeps around taken (For head b) = head_keeps around taken head
keeps around taken (Scope b) = true
keeps around taken (Cut parts b) = may_read around taken parts.at && may_pass around taken parts.array.slot
keeps around taken (Region tag b) = true
keeps around taken (Print e) = may_read around taken e
keeps around taken (Return e) = may_return around taken e

-- the line of a declaration whose name is held at the end of its block
abbrev pub left_line : Taken → ℕ → Stmt → List ℕ
left_line taken line (Declare u e) = unless (not (int_taken taken u.slot)) line
left_line taken line (DeclareArray u e) = unless (not (array_held taken u.slot)) line
left_line taken line _ = []

-- the lines of the declarations of a block whose names are held at its end
abbrev pub left_lines : Taken → Block → List ℕ
left_lines taken End = []
left_lines taken (Then line s b) = left_line taken line s ++ left_lines taken b

-- a sync block joins its own spawns at its end; another block joins none
abbrev pub at_end : Closing → Taken → Taken
at_end Joins taken = joined taken
at_end Leaves taken = taken

-- the lines of the declarations of a block whose names are held after its end
abbrev pub left_at_end : Closing → (known : Row) → Taken → Block → List ℕ
left_at_end closing known taken b = left_lines (at_end closing (taken_after_all known b taken)) b

-- the locals that the test and the body of a `while` see as held, which include those that an iteration holds
abbrev pub seen_by : (known : Row) → Taken → Stmt → Taken
seen_by known taken (While e b) =
    record { outer = taken.outer; here = either_restrictions taken.here (gain known b); cuts = taken.cuts }
seen_by known taken _ = taken

abbrev mutual
  -- the lines in the inner blocks of a statement that break a rule, if these locals are known and held
  pub lines_within : Option Loop → (known : Row) → Taken → Stmt → List ℕ
  lines_within around known taken (If e b) = lines_in around known taken b ++ left_at_end Leaves known taken b
  lines_within around known taken (IfElse e b c) =
      (lines_in around known taken b ++ left_at_end Leaves known taken b)
      ++ (lines_in around known taken c ++ left_at_end Leaves known taken c)
  lines_within around known taken (While e b) = lines_in around known taken b ++ left_at_end Leaves known taken b
  lines_within around known taken (For head b) =
      lines_in (Some (loop_in head known)) (with_int head.variable.slot known) (inside taken) b
      ++ left_at_end Joins (with_int head.variable.slot known) (inside taken) b
  lines_within around known taken (Scope b) =
      lines_in around known (inside taken) b ++ left_at_end Joins known (inside taken) b
  lines_within around known taken (Cut parts b) =
      lines_in around (with_parts parts known) (inside_cut parts.array.slot taken) b
      ++ left_at_end Joins (with_parts parts known) (inside_cut parts.array.slot taken) b
  lines_within around known taken (Region tag b) =
      lines_in around known (inside taken) b ++ left_at_end Joins known (inside taken) b
  lines_within around known taken _ = []

  -- the lines of the statements of a block and of their inner blocks that break a rule
  pub lines_in : Option Loop → (known : Row) → Taken → Block → List ℕ
  lines_in around known taken End = []
  lines_in around known taken (Then line s b) =
      (unless (keeps around (seen_by known taken s) s) line ++ lines_within around known (seen_by known taken s) s)
      ++ lines_in around (known_after known s) (taken_after known s taken) b

-- the lines of a block that break a rule, including its declarations whose names are held at its end
abbrev pub block_lines : Option Loop → (known : Row) → Taken → Closing → Block → List ℕ
block_lines around known taken closing b = lines_in around known taken b ++ left_at_end closing known taken b

-- the lines of a function that break a rule
abbrev pub function_lines : Function → List ℕ
function_lines f = block_lines None (with_params 0 0 f.params no_local) nothing Joins f.body
