-- The results of the code that looks names up.
use Rattle.std.specs.Prelude.{◌≡◌, ◌≤◌, ◌+◌, ◌++◌, ℕ, List, length, map, Option, option_map, Result, IfOk}
use Rattle.std.specs.Global.{Vec}
use Rattle.cw_model.specs.declared.limits.TheConstants.{MOST_DECLARED}
use Rattle.cw_model.specs.Syntax.{Name}
use Rattle.cw_model.specs.Syntax as model
use Rattle.cw_tree.specs.declared.syntax.Ast.{Ast}
use Rattle.cw_tree.specs.declared.syntax.Call.{Call}
use Rattle.cw_tree.specs.declared.syntax.Cut.{Cut}
use Rattle.cw_tree.specs.declared.syntax.Expr.{Expr}
use Rattle.cw_tree.specs.declared.syntax.Function.{Function}
use Rattle.cw_tree.specs.declared.syntax.Head.{Head}
use Rattle.cw_tree.specs.declared.syntax.Line.{Line}
use Rattle.cw_tree.specs.declared.syntax.Param.{Param}
use Rattle.cw_tree.specs.declared.syntax.Reducer.{Reducer}
use Rattle.cw_tree.specs.declared.syntax.Stmt.{Stmt}
use Rattle.cw_tree.specs.SyntaxView as parsed
use Rattle.cw_types.specs.declared.lists.Lists.{Lists}
use Rattle.cw_types.specs.declared.locals.Locals.{Locals}
use Rattle.cw_types.specs.declared.regions.Marked.{Marked}
use Rattle.cw_tree.specs.declared.resolved.Argument as made_argument
use Rattle.cw_tree.specs.declared.resolved.Call as made_call
use Rattle.cw_tree.specs.declared.resolved.Cut as made_cut
use Rattle.cw_tree.specs.declared.resolved.Expr as made_expr
use Rattle.cw_tree.specs.declared.resolved.Function as made_function
use Rattle.cw_tree.specs.declared.resolved.Head as made_head
use Rattle.cw_tree.specs.declared.resolved.Line as made_line
use Rattle.cw_tree.specs.declared.resolved.Reducer as made_reducer
use Rattle.cw_tree.specs.declared.resolved.Stmt as made_stmt
use Rattle.cw_tree.specs.declared.resolved.Use as made_use
use Rattle.cw_tree.specs.Declares.{declares_in_block}
use Rattle.cw_types.specs.Heads.{call_of, resolved_call, resolved_head, resolved_cut}
use Rattle.cw_types.specs.Locals.{locals_view, lists_view}
use Rattle.cw_types.specs.Regions.{tags_of}
use Rattle.cw_tree.specs.Resolved as spec
use Rattle.cw_tree.specs.ResolvedView.{use_of, expr_of, argument_of, head_of, parts_of, stmt_of, block_of}
use Rattle.cw_tree.specs.ResolvedView.{function_of, reducer_of}

-- the resolved expression among these locals
abbrev pub IsExpr : Locals → Expr → made_expr.Expr → Type 0
IsExpr locals e found = expr_of found ≡ spec.resolved_expr (locals_view locals) (parsed.expr_of e)

-- the resolved name as an argument for the first of these parameters
abbrev pub IsNameAlone : Locals → List Param → Name → made_argument.Argument → Type 0
IsNameAlone locals ps x found = argument_of found ≡ spec.resolved_name (locals_view locals) (map parsed.param_of ps) x

-- the resolved argument for the first of these parameters
abbrev pub IsArgument : Locals → List Param → Expr → made_argument.Argument → Type 0
IsArgument locals ps e found =
    argument_of found ≡ spec.resolved_argument (locals_view locals) (map parsed.param_of ps) (parsed.expr_of e)

-- the resolved arguments for these parameters, in order
abbrev pub AreArguments : Locals → List Param → List Expr → List made_argument.Argument → Type 0
AreArguments locals ps es found =
    map argument_of found
    ≡ spec.resolved_arguments (locals_view locals) (map parsed.param_of ps) (map parsed.expr_of es)

-- the resolved target of a result, if there is one
abbrev pub IsTarget : List Name → Option Name → Option made_use.Use → Type 0
IsTarget names x found = option_map use_of found ≡ option_map (spec.use_of names) x

-- the resolved expression of a return, if there is one
abbrev pub IsReturned : Locals → Option Expr → Option made_expr.Expr → Type 0
IsReturned locals e found =
    option_map expr_of found ≡ option_map (spec.resolved_expr (locals_view locals)) (option_map parsed.expr_of e)

-- the resolved call
abbrev pub IsCall : Lists → Locals → Call → made_call.Call → Type 0
IsCall lists locals c found = call_of found ≡ resolved_call (lists_view lists) (locals_view locals) c

-- the resolved head of a loop with this body
abbrev pub IsHead : Locals → Head → List made_line.Line → made_head.Head → Type 0
IsHead locals h body found = head_of found ≡ resolved_head (locals_view locals) h (block_of body)

-- the resolved cut
abbrev pub IsCut : Locals → Cut → made_cut.Cut → Type 0
IsCut locals c found = parts_of found ≡ resolved_cut (locals_view locals) c

-- the resolved statement
abbrev pub IsStmt : Lists → Locals → Stmt → made_stmt.Stmt → Type 0
IsStmt lists locals s found =
    stmt_of found ≡ spec.resolved_stmt (lists_view lists) (locals_view locals) (parsed.stmt_of s)

-- a parallel loop with this head and this body, and a cut with these parts and this block
abbrev pub loop_over : Head → List Line → model.Stmt
loop_over h b =
    model.For h.variable h.tested h.stepped (parsed.expr_of h.from) (parsed.expr_of h.to) h.grain h.over.items
    (parsed.block_of b)

abbrev pub cut_over : Cut → List Line → model.Stmt
cut_over c b = model.Cut c.array (parsed.expr_of c.at) c.left c.right (parsed.block_of b)

-- the resolved loop, and the resolved cut
abbrev pub IsLoop : Lists → Locals → Head → List Line → made_stmt.Stmt → Type 0
IsLoop lists locals h b found =
    stmt_of found ≡ spec.resolved_stmt (lists_view lists) (locals_view locals) (loop_over h b)

abbrev pub IsCutOver : Lists → Locals → Cut → List Line → made_stmt.Stmt → Type 0
IsCutOver lists locals c b found =
    stmt_of found ≡ spec.resolved_stmt (lists_view lists) (locals_view locals) (cut_over c b)

-- the resolved statements of a block
abbrev pub IsBlock : Lists → Locals → List Line → List made_line.Line → Type 0
IsBlock lists locals b found =
    block_of found ≡ spec.resolved_block (lists_view lists) (locals_view locals) (parsed.block_of b)

-- a result was found, and the known locals are unchanged
pub record IsFound (Found : Type 0) (before after : Locals) : Type 0 where
  pub tree : Found
  pub ints : after.ints ≡ before.ints
  pub arrays : after.arrays ≡ before.arrays

-- if the result is `Ok`, a result that satisfies `Such` was found, and the known locals are unchanged
abbrev pub Finds : {A E : Type 0} → (A → Type 0) → (before after : Locals) → Result A E → Type 0
Finds Such before after r = IfOk r (λ found. IsFound (Such found) before after)

-- the names that a program lists, if `marked` holds the first region of each tag
abbrev pub AreLists : Ast → List Marked → Lists → Type 0
AreLists ast marked lists =
    lists_view lists ≡ record {
      callees = map parsed.function_of ast.functions.items;
      functions = spec.function_names (map parsed.function_of ast.functions.items);
      reducers = spec.reducer_names (map parsed.reducer_of ast.reducers.items);
      tags = tags_of marked;
    }

-- the number of names that a function declares, including its parameters, keeps the limit
abbrev pub DeclaresFew : Function → Type 0
DeclaresFew f = length f.params.items + declares_in_block (parsed.block_of f.body.items) ≤ MOST_DECLARED

-- the resolved function
abbrev pub IsFunction : Lists → Function → made_function.Function → Type 0
IsFunction lists f found = function_of found ≡ spec.resolved_function (lists_view lists) (parsed.function_of f)

-- the resolved functions, in order
abbrev pub AreFunctions : Lists → List Function → List made_function.Function → Type 0
AreFunctions lists fs found =
    map function_of found ≡ map (spec.resolved_function (lists_view lists)) (map parsed.function_of fs)

-- the reducers, in order
abbrev pub AreReducers : List Reducer → List made_reducer.Reducer → Type 0
AreReducers rs found = map reducer_of found ≡ map parsed.reducer_of rs

-- the integers with slots below `count` that a block reads
abbrev pub AreCaptured : ℕ → List made_line.Line → Vec made_use.Use → Type 0
AreCaptured count body found = map use_of found.items ≡ spec.captured_in count (block_of body)

-- the integers that arguments read
abbrev pub read_by : List made_argument.Argument → List spec.Use
read_by es = spec.arguments_read (map argument_of es)

-- the use is appended if its slot is below `count` and new
abbrev pub FindsOne : ℕ → spec.Use → (before after : Vec made_use.Use) → Type 0
FindsOne count used before after = map use_of after.items ≡ spec.with_first count (map use_of before.items) used

-- each of the uses is appended if its slot is below `count` and new
abbrev pub FindsUses : ℕ → List spec.Use → (before after : Vec made_use.Use) → Type 0
FindsUses count uses before after = map use_of after.items ≡ spec.first_uses count (map use_of before.items) uses

-- the integers among parameters, in order
abbrev pub int_params : List Param → List Name
int_params params = (spec.locals_of (map parsed.param_of params)).ints

-- the arrays among parameters, in order
abbrev pub array_params : List Param → List Name
array_params params = (spec.locals_of (map parsed.param_of params)).arrays

-- the integers among the parameters follow the integers known before
abbrev pub AddsInts : List Param → (before after : Locals) → Type 0
AddsInts params before after = after.ints ≡ before.ints ++ int_params params

-- the arrays among the parameters follow the arrays known before
abbrev pub AddsArrays : List Param → (before after : Locals) → Type 0
AddsArrays params before after = after.arrays ≡ before.arrays ++ array_params params

-- the locals after the declaration of a statement
abbrev pub Declared : Stmt → (before after : Locals) → Type 0
Declared s before after = locals_view after ≡ spec.locals_after (locals_view before) (parsed.stmt_of s)
