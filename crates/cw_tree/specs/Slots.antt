-- A test of all slots, indices and counts of slots of a resolved tree; a `Typed` can hold only a test. The law
-- `slots_are_right` says that a tree that passes it is `resolved` of its program.
use Rattle.std.specs.Prelude.{◌==◌, Bool, true, false, not, ◌&&◌, bytes_eq, List, [], ◌∷◌, ◌++◌, length, drop, Option}
use Rattle.std.specs.Prelude.{Some, None}
use Rattle.std.specs.List.{list_all}
use Rattle.cw_model.specs.Syntax.{Name, Param}
use Rattle.cw_model.specs.Names.{is_among}
use Rattle.cw_model.specs.Answers.{main_name}
use Rattle.cw_tree.specs.Resolved.{Use, Listed, Expr, Number, Variable, Element, Length, Negative, Not, Binary}
use Rattle.cw_tree.specs.Resolved.{Argument, Int, Array, Shared, Head, Parts, Stmt, Declare, DeclareArray, Assign}
use Rattle.cw_tree.specs.Resolved.{AssignElement, Reduce, Call, Sync, If, IfElse, While, For, Scope, Cut, Region}
use Rattle.cw_tree.specs.Resolved.{Print, Return, Block, End, Then, Function, Resolved, Lists, Locals, slot_of}
use Rattle.cw_tree.specs.Resolved.{with_int, with_array, locals_after, captured_in, ints_in_block, arrays_in_block}
use Rattle.cw_tree.specs.Resolved.{is_reader, params_of, locals_of, lists_of, tags_of, plain_stmt, plain}

-- a use has the slot of its name
abbrev pub is_use : List Name → Use → Bool
is_use names u = u.slot == slot_of u.name names

-- a declaration has the next slot
abbrev pub is_next : List Name → Use → Bool
is_next names u = u.slot == length names

-- a use of a name of the program has the index of the name
abbrev pub is_listed : List Name → Listed → Bool
is_listed names l = l.index == slot_of l.name names

-- two lists of uses are equal
abbrev pub same_uses : List Use → List Use → Bool
same_uses [] [] = true
same_uses (u ∷ us) (w ∷ ws) = bytes_eq u.name w.name && (u.slot == w.slot) && same_uses us ws
same_uses _ _ = false

-- two lists of names are equal
abbrev pub same_names : List Name → List Name → Bool
same_names [] [] = true
same_names (x ∷ xs) (y ∷ ys) = bytes_eq x y && same_names xs ys
same_names _ _ = false

-- each use in an expression has its slot
abbrev pub is_right_expr : Locals → Expr → Bool
is_right_expr locals (Number n) = true
is_right_expr locals (Variable u) = is_use locals.ints u
is_right_expr locals (Element u e) = is_use locals.arrays u && is_right_expr locals e
is_right_expr locals (Length u) = is_use locals.arrays u
is_right_expr locals (Negative e) = is_right_expr locals e
is_right_expr locals (Not e) = is_right_expr locals e
is_right_expr locals (Binary operator d e) = is_right_expr locals d && is_right_expr locals e

-- an argument for the first of these parameters has correct slots; a name is an array exactly if an array with this
-- name is known, and it is passed as this parameter requires
abbrev pub is_right_argument : Locals → List Param → Argument → Bool
is_right_argument locals ps (Int (Variable u)) = not (is_among u.name locals.arrays) && is_use locals.ints u
is_right_argument locals ps (Int e) = is_right_expr locals e
is_right_argument locals ps (Array u) = is_among u.name locals.arrays && is_use locals.arrays u && not (is_reader ps)
is_right_argument locals ps (Shared u) = is_among u.name locals.arrays && is_use locals.arrays u && is_reader ps

-- each argument for these parameters has correct slots and is passed correctly
abbrev pub are_right_arguments : Locals → List Param → List Argument → Bool
are_right_arguments locals ps [] = true
are_right_arguments locals ps (e ∷ es) =
    is_right_argument locals ps e && are_right_arguments locals (drop 1 ps) es

-- the use that receives a result, if there is one, has its slot
abbrev pub is_right_target : Locals → Option Use → Bool
is_right_target locals None = true
is_right_target locals (Some u) = is_use locals.ints u

-- each use in a returned expression, if there is one, has its slot
abbrev pub is_right_return : Locals → Option Expr → Bool
is_right_return locals None = true
is_right_return locals (Some e) = is_right_expr locals e

-- each use in the head of a loop has its slot, and the captured integers are those that the body captures
abbrev pub is_right_head : Locals → Head → Block → Bool
is_right_head locals h b =
    is_next locals.ints h.variable && is_right_expr locals h.from && is_right_expr locals h.to
    && same_uses h.captured (captured_in (length locals.ints) b) && list_all (is_use locals.arrays) h.over

-- each use in a cut has its slot
abbrev pub is_right_cut : Locals → Parts → Bool
is_right_cut locals c =
    is_use locals.arrays c.array && is_right_expr locals c.at && is_next locals.arrays c.left
    && is_next (locals.arrays ++ c.left.name ∷ []) c.right

abbrev mutual
  -- each slot and each index in a statement is correct
  pub is_right_stmt : Lists → Locals → Stmt → Bool
  is_right_stmt lists locals (Declare u e) = is_next locals.ints u && is_right_expr locals e
  is_right_stmt lists locals (DeclareArray u e) = is_next locals.arrays u && is_right_expr locals e
  is_right_stmt lists locals (Assign u e) = is_use locals.ints u && is_right_expr locals e
  is_right_stmt lists locals (AssignElement u i e) =
      is_use locals.arrays u && is_right_expr locals i && is_right_expr locals e
  is_right_stmt lists locals (Reduce how s e) = is_listed lists.reducers s && is_right_expr locals e
  is_right_stmt lists locals (Call kind site target f es) =
      is_right_target locals target && is_listed lists.functions f && are_right_arguments locals (params_of lists f.name) es
  is_right_stmt lists locals Sync = true
  is_right_stmt lists locals (If e b) = is_right_expr locals e && is_right_block lists locals b
  is_right_stmt lists locals (IfElse e b c) =
      is_right_expr locals e && is_right_block lists locals b && is_right_block lists locals c
  is_right_stmt lists locals (While e b) = is_right_expr locals e && is_right_block lists locals b
  is_right_stmt lists locals (For head b) =
      is_right_head locals head b && is_right_block lists (with_int head.variable.name locals) b
  is_right_stmt lists locals (Scope b) = is_right_block lists locals b
  is_right_stmt lists locals (Cut parts b) =
      is_right_cut locals parts
      && is_right_block lists (with_array parts.right.name (with_array parts.left.name locals)) b
  is_right_stmt lists locals (Region tag b) = is_listed lists.tags tag && is_right_block lists locals b
  is_right_stmt lists locals (Print e) = is_right_expr locals e
  is_right_stmt lists locals (Return e) = is_right_return locals e

  -- each slot and each index in a block is correct
  pub is_right_block : Lists → Locals → Block → Bool
  is_right_block lists locals End = true
  is_right_block lists locals (Then line s b) =
      is_right_stmt lists locals s && is_right_block lists (locals_after locals (plain_stmt s)) b

-- each slot, each index and both counts of slots of a function are correct
abbrev pub is_right_function : Lists → Function → Bool
is_right_function lists f =
    let locals = locals_of f.params in
    (f.ints == ints_in_block (length locals.ints) f.body) && (f.arrays == arrays_in_block (length locals.arrays) f.body)
    && is_right_block lists locals f.body

-- each slot, each index and each count of slots is correct, and so are the tags and the index of main
abbrev pub is_resolved : Resolved → Bool
is_resolved tree =
    let lists = lists_of (plain tree) in
    same_names tree.tags (tags_of (plain tree)) && (tree.main == slot_of main_name lists.functions)
    && list_all (is_right_function lists) tree.functions
