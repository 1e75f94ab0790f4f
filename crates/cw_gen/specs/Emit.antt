-- The code of a program with lowered loops and resolved names.
use Rattle.std.specs.Prelude.{ℕ, suc, ◌+◌, ◌-◌, ◌*◌, ◌^◌, Bool, true, false, ◌&&◌, if◌then◌else◌, List, [], ◌∷◌}
use Rattle.std.specs.Prelude.{◌++◌, length, map, min, max, replicate, Option, Some, None, slice_get}
use Rattle.std.specs.Prelude.{slice_set}
use Rattle.cw_model.specs.declared.syntax.CallKind.{CallKind}
use Rattle.cw_model.specs.declared.syntax.CallKind.TheVariants.{Plain, Spawned}
use Rattle.cw_model.specs.Sites.{Of}
use Rattle.cw_model.specs.Syntax as model
use Rattle.cw_tree.specs.Resolved.{Listed, Resolved}
use Rattle.cw_tree.specs.Resolved as source
use Rattle.cw_loops.specs.Slotted.{Expr, Number, Variable, Element, Length, Negative, Not, Binary, Argument, Int}
use Rattle.cw_loops.specs.Slotted.{Array, Shared, Stmt, Declare, DeclareArray, Assign, AssignElement, Reduce, Call}
use Rattle.cw_loops.specs.Slotted.{Start, Begin, Sync, If, IfElse, While, Scope, Cut, Region, Print, Return, Block, End}
use Rattle.cw_loops.specs.Slotted.{Then, Function}
use Rattle.cw_code.specs.declared.code.UnaryOperator.TheVariants as unary
use Rattle.cw_code.specs.declared.code.BlockKind.{BlockKind}
use Rattle.cw_code.specs.declared.code.BlockKind.TheVariants as block
use Rattle.cw_code.specs.declared.code.Callee.{Callee}
use Rattle.cw_code.specs.declared.code.Inner.{Inner}
use Rattle.cw_code.specs.declared.code.Func.{Func}
use Rattle.cw_code.specs.declared.code.Halves.{Halves}
use Rattle.cw_code.specs.declared.code.Instr.{Instr}
use Rattle.cw_code.specs.declared.code.Instr.TheVariants as instr
use Rattle.cw_code.specs.declared.code.Loan.{Loan}
use Rattle.cw_code.specs.declared.code.Loan.TheVariants as loan
use Rattle.cw_code.specs.declared.code.Reducer.{Reducer}
use Rattle.cw_code.specs.Code.{CodeSite, Code}
use Rattle.cw_gen.specs.Marks.{Marks, marks_of, place_of, array_at}
use Rattle.cw_gen.specs.Marks.{count_ints, count_arrays, count_taken, count_readers}

-- the maximum distance of a jump
abbrev pub most_jump : ℕ
most_jump = 2 ^ 32 - 1

-- a number as an instruction holds it, at most the maximum; within the limits no program exceeds the maximum
abbrev pub distance : ℕ → ℕ
distance n = min n most_jump

-- the numbers of the lists of array slots: list 0 belongs to no call and is empty; the list of a call site has the
-- number of the site; from the number `first` on, each function has three lists, which a loop's function uses for its
-- first call and for its calls on the left and on the right half
abbrev pub whole_list : (first callee : ℕ) → ℕ
whole_list first callee = distance (first + 3 * callee)

abbrev pub half_list : (first : ℕ) → CallKind → (callee : ℕ) → ℕ
half_list first Spawned callee = distance (first + 3 * callee + 1)
half_list first Plain callee = distance (first + 3 * callee + 2)

-- the instructions that load an element and the length of an array
abbrev pub element_at : Loan → (line : ℕ) → Instr
element_at (loan.Array a) line = instr.Element a line
element_at (loan.Reader r) line = instr.ReadElement r line

abbrev pub length_at : Loan → Instr
length_at (loan.Array a) = instr.Length a
length_at (loan.Reader r) = instr.ReadLength r

-- the instructions of an expression, with operands from left to right; `marks` gives the read-only array slots
abbrev pub emitted_expr : Marks → (line : ℕ) → Expr → List Instr
emitted_expr marks line (Number n) = instr.Push n ∷ []
emitted_expr marks line (Variable u) = instr.Load u ∷ []
emitted_expr marks line (Element u e) = emitted_expr marks line e ++ element_at (place_of marks u) line ∷ []
emitted_expr marks line (Length u) = length_at (place_of marks u) ∷ []
emitted_expr marks line (Negative e) = emitted_expr marks line e ++ instr.Unary unary.Negative line ∷ []
emitted_expr marks line (Not e) = emitted_expr marks line e ++ instr.Unary unary.Not line ∷ []
emitted_expr marks line (Binary operator d e) =
    emitted_expr marks line d ++ (emitted_expr marks line e ++ instr.Binary operator line ∷ [])

-- the instructions of an argument; an array has none
abbrev pub emitted_arg : Marks → (line : ℕ) → Argument → List Instr
emitted_arg marks line (Int e) = emitted_expr marks line e
emitted_arg marks line (Array u) = []
emitted_arg marks line (Shared u) = []

-- the instructions of arguments, from left to right
abbrev pub emitted_args : Marks → (line : ℕ) → List Argument → List Instr
emitted_args marks line [] = []
emitted_args marks line (e ∷ es) = emitted_arg marks line e ++ emitted_args marks line es

-- instructions that load the integers in these slots
abbrev pub emitted_loads : List ℕ → List Instr
emitted_loads slots = map (λ u. instr.Load u) slots

-- the array slots among arguments that are given away, in order, and the loans of those that are only read
abbrev pub passed_in : Marks → List Argument → List ℕ
passed_in marks [] = []
passed_in marks (Int e ∷ es) = passed_in marks es
passed_in marks (Array u ∷ es) = array_at marks u ∷ passed_in marks es
passed_in marks (Shared u ∷ es) = passed_in marks es

abbrev pub lent_in : Marks → List Argument → List Loan
lent_in marks [] = []
lent_in marks (Int e ∷ es) = lent_in marks es
lent_in marks (Array u ∷ es) = lent_in marks es
lent_in marks (Shared u ∷ es) = place_of marks u ∷ lent_in marks es

-- the operand of a call instruction; its lists of array slots and of loans have the number of its site
abbrev pub callee_of : (line site : ℕ) → Option ℕ → (callee : ℕ) → Callee
callee_of line site target callee =
    record { function = callee; site = site; line = line; target = target; passed = site; lent = site }

-- the operands of the first call of a loop's function and of a call on one half
abbrev pub whole_of : (first callee : ℕ) → Inner
whole_of first callee = record { function = callee; passed = whole_list first callee }

abbrev pub half_of : (first : ℕ) → CallKind → (callee : ℕ) → Inner
half_of first kind callee = record { function = callee; passed = half_list first kind callee }

-- the slots of a cut
abbrev pub halves_of : (array left right : ℕ) → Halves
halves_of array left right = record { array = array; left = left; right = right }

abbrev pub halves_at : Marks → (array left right : ℕ) → Halves
halves_at marks array left right = halves_of (array_at marks array) (array_at marks left) (array_at marks right)

-- code that is skipped if the last operand is 0
abbrev pub emitted_over : List Instr → List Instr
emitted_over body = instr.SkipIfZero (distance (length body)) ∷ body

-- the distance of the jump over the second branch; if the first branch surely returns, no run executes the jump
abbrev pub past : Bool → ℕ → ℕ
past returns n = distance (if returns then 0 else n)

-- the code of one branch with a jump over the other, and then the code of the other branch
abbrev pub emitted_branches : Bool → (one other : List Instr) → List Instr
emitted_branches returns one other = emitted_over (one ++ instr.Skip (past returns (length other)) ∷ []) ++ other

-- code after a test of `test` instructions, to which it jumps back
abbrev pub emitted_turn : (test : ℕ) → (body : List Instr) → List Instr
emitted_turn test body = emitted_over (body ++ instr.GoBack (distance (test + 1 + length body)) ∷ [])

-- the code of a sync block
abbrev pub emitted_inside : BlockKind → List Instr → List Instr
emitted_inside kind body = instr.Open kind ∷ (body ++ instr.Close ∷ [])

-- the code of a cut: the cut, the block in which its parts are known, and its end
abbrev pub emitted_cut : (line : ℕ) → Halves → List Instr → List Instr
emitted_cut line h body = instr.Cut h line ∷ (body ++ instr.EndCut ∷ [])

-- the code of the first call of a loop's function: the ends of its range, the captured integers, and its instruction
abbrev pub emitted_begin : (first : ℕ) → Marks → (line callee : ℕ) → (from to : Expr) → (captured : List ℕ) → List Instr
emitted_begin first marks line callee from to captured =
    emitted_expr marks line from
    ++ (emitted_expr marks line to ++ (emitted_loads captured ++ instr.Start (whole_of first callee) line ∷ []))

-- the instructions of a statement in a line that has no inner block and is no return; an index precedes its value
abbrev pub emitted_alone : (first : ℕ) → Marks → (line : ℕ) → Stmt → List Instr
emitted_alone first marks line (Declare u e) = emitted_expr marks line e ++ instr.Store u ∷ []
emitted_alone first marks line (DeclareArray u e) =
    emitted_expr marks line e ++ instr.NewArray (array_at marks u) line ∷ []
emitted_alone first marks line (AssignElement u i e) =
    emitted_expr marks line i ++ (emitted_expr marks line e ++ instr.SetElement (array_at marks u) line ∷ [])
emitted_alone first marks line (Assign u e) = emitted_expr marks line e ++ instr.Store u ∷ []
emitted_alone first marks line (Reduce how s e) = emitted_expr marks line e ++ instr.Reduce s ∷ []
emitted_alone first marks line (Print e) = emitted_expr marks line e ++ instr.Print ∷ []
emitted_alone first marks line (Call kind site target f es) =
    emitted_args marks line es ++ instr.Call kind (callee_of line site target f) ∷ []
emitted_alone first marks line (Start kind f es) =
    emitted_args marks line es ++ instr.Recur kind (half_of first kind f) ∷ []
emitted_alone first marks line (Begin f from to captured over) = emitted_begin first marks line f from to captured
emitted_alone first marks line Sync = instr.Sync ∷ []
emitted_alone first marks line _ = []

-- the instructions of a return
abbrev pub emitted_return : Marks → (line : ℕ) → Option Expr → List Instr
emitted_return marks line None = instr.Return ∷ []
emitted_return marks line (Some e) = emitted_expr marks line e ++ instr.ReturnValue ∷ []

abbrev mutual
  -- whether a statement surely returns
  pub stmt_returns : Stmt → Bool
  stmt_returns (Return e) = true
  stmt_returns (IfElse e b c) = returns b && returns c
  stmt_returns _ = false

  -- whether the last statement of a block surely returns
  pub returns : Block → Bool
  returns End = false
  returns (Then line s End) = stmt_returns s
  returns (Then line s b) = returns b

abbrev mutual
  -- the instructions of a statement in a line
  pub emitted_stmt : (first : ℕ) → Marks → (line : ℕ) → Stmt → List Instr
  emitted_stmt first marks line (If e b) = emitted_expr marks line e ++ emitted_over (emitted_block first marks b)
  emitted_stmt first marks line (IfElse e b c) =
      emitted_expr marks line e
      ++ emitted_branches (returns b) (emitted_block first marks b) (emitted_block first marks c)
  emitted_stmt first marks line (While e b) =
      emitted_expr marks line e ++ emitted_turn (length (emitted_expr marks line e)) (emitted_block first marks b)
  emitted_stmt first marks line (Scope b) = emitted_inside block.Scope (emitted_block first marks b)
  emitted_stmt first marks line (Cut a e l r b) =
      emitted_expr marks line e ++ emitted_cut line (halves_at marks a l r) (emitted_block first marks b)
  emitted_stmt first marks line (Region tag b) = emitted_inside (block.Region tag) (emitted_block first marks b)
  emitted_stmt first marks line (Return e) = emitted_return marks line e
  emitted_stmt first marks line s = emitted_alone first marks line s

  -- the instructions of a block, statement by statement
  pub emitted_block : (first : ℕ) → Marks → Block → List Instr
  emitted_block first marks End = []
  emitted_block first marks (Then line s b) = emitted_stmt first marks line s ++ emitted_block first marks b

-- the end of a function: a return, unless the function returns an integer
abbrev pub emitted_end : (gives_int : Bool) → List Instr
emitted_end gives_int = if gives_int then [] else instr.Return ∷ []

-- the instructions of a function
abbrev pub emitted_function : (first : ℕ) → Function → List Instr
emitted_function first f = emitted_block first (marks_of f.params) f.body ++ emitted_end f.gives_int

-- the instructions of all functions in order
abbrev pub emitted_instrs : (first : ℕ) → List Function → List Instr
emitted_instrs first [] = []
emitted_instrs first (f ∷ fs) = emitted_function first f ++ emitted_instrs first fs

abbrev mutual
  -- the number of integer slots after a statement, if there were `n` before
  pub ints_in : ℕ → Stmt → ℕ
  ints_in n (Declare u e) = max n (suc u)
  ints_in n (If e b) = ints_in_block n b
  ints_in n (IfElse e b c) = ints_in_block (ints_in_block n b) c
  ints_in n (While e b) = ints_in_block n b
  ints_in n (Scope b) = ints_in_block n b
  ints_in n (Cut a e l r b) = ints_in_block n b
  ints_in n (Region tag b) = ints_in_block n b
  ints_in n _ = n

  pub ints_in_block : ℕ → Block → ℕ
  ints_in_block n End = n
  ints_in_block n (Then line s b) = ints_in_block (ints_in n s) b

abbrev mutual
  -- the number of array slots after a statement, including the parts of cuts, if there were `n` before
  pub arrays_in : ℕ → Stmt → ℕ
  arrays_in n (DeclareArray u e) = max n (suc u)
  arrays_in n (If e b) = arrays_in_block n b
  arrays_in n (IfElse e b c) = arrays_in_block (arrays_in_block n b) c
  arrays_in n (While e b) = arrays_in_block n b
  arrays_in n (Scope b) = arrays_in_block n b
  arrays_in n (Cut a e l r b) = arrays_in_block (max n (suc r)) b
  arrays_in n (Region tag b) = arrays_in_block n b
  arrays_in n _ = n

  pub arrays_in_block : ℕ → Block → ℕ
  arrays_in_block n End = n
  arrays_in_block n (Then line s b) = arrays_in_block (arrays_in n s) b

-- the table entry of a function whose code begins at `start`
abbrev pub emitted_func : (first start : ℕ) → Function → Func
emitted_func first start f =
    record {
      start = start;
      end = start + length (emitted_function first f);
      gives_int = f.gives_int;
      params = count_ints f.params;
      slots = ints_in_block (count_ints f.params) f.body;
      array_params = count_taken f.params;
      arrays = arrays_in_block (count_arrays f.params) f.body - count_readers f.params;
      readers = count_readers f.params;
    }

-- the table entries of functions in order, the first of which begins at `start`
abbrev pub emitted_funcs : (first start : ℕ) → List Function → List Func
emitted_funcs first start [] = []
emitted_funcs first start (f ∷ fs) =
    emitted_func first start f ∷ emitted_funcs first (start + length (emitted_function first f)) fs

-- the call site of a call in a line
abbrev pub site_of : (line : ℕ) → CallKind → (site : ℕ) → Listed → CodeSite
site_of line kind site f =
    record { told = record { number = site; kind = Of kind; line = line; callee = f.name }; function = f.index }

abbrev mutual
  -- the call sites of a source statement in a line, by position
  pub emitted_sites : (line : ℕ) → source.Stmt → List CodeSite
  emitted_sites line (source.Call kind site target f es) = site_of line kind site f ∷ []
  emitted_sites line (source.If e b) = emitted_sites_in b
  emitted_sites line (source.IfElse e b c) = emitted_sites_in b ++ emitted_sites_in c
  emitted_sites line (source.While e b) = emitted_sites_in b
  emitted_sites line (source.For head b) = emitted_sites_in b
  emitted_sites line (source.Scope b) = emitted_sites_in b
  emitted_sites line (source.Cut parts b) = emitted_sites_in b
  emitted_sites line (source.Region tag b) = emitted_sites_in b
  emitted_sites line _ = []

  -- the call sites of a source block, by position
  pub emitted_sites_in : source.Block → List CodeSite
  emitted_sites_in source.End = []
  emitted_sites_in (source.Then line s b) = emitted_sites line s ++ emitted_sites_in b

-- the call sites of functions
abbrev pub emitted_sites_of : List source.Function → List CodeSite
emitted_sites_of [] = []
emitted_sites_of (f ∷ fs) = emitted_sites_in f.body ++ emitted_sites_of fs

-- the tables that call instructions refer to: the lists of array slots and of loans, and the call sites
pub record Tables : Type 0 where
  pub passed : List (List ℕ)
  pub lent : List (List Loan)
  pub sites : List CodeSite

-- the number of the first list of a function, after the lists of the call sites
abbrev pub first_list : List CodeSite → ℕ
first_list sites = suc (length sites)

abbrev mutual
  -- stores the list of each call in a statement at its number
  pub put_lists : (first : ℕ) → Marks → Stmt → List (List ℕ) → List (List ℕ)
  put_lists first marks (Call kind site target f es) lists = slice_set lists site (passed_in marks es)
  put_lists first marks (Start kind f es) lists = slice_set lists (half_list first kind f) (passed_in marks es)
  put_lists first marks (Begin f from to captured over) lists =
      slice_set lists (whole_list first f) (map (array_at marks) over)
  put_lists first marks (If e b) lists = put_lists_in first marks b lists
  put_lists first marks (IfElse e b c) lists = put_lists_in first marks c (put_lists_in first marks b lists)
  put_lists first marks (While e b) lists = put_lists_in first marks b lists
  put_lists first marks (Scope b) lists = put_lists_in first marks b lists
  put_lists first marks (Cut a e l r b) lists = put_lists_in first marks b lists
  put_lists first marks (Region tag b) lists = put_lists_in first marks b lists
  put_lists first marks _ lists = lists

  -- stores the lists of a block
  pub put_lists_in : (first : ℕ) → Marks → Block → List (List ℕ) → List (List ℕ)
  put_lists_in first marks End lists = lists
  put_lists_in first marks (Then line s b) lists = put_lists_in first marks b (put_lists first marks s lists)

-- stores the lists of functions
abbrev pub put_lists_of : (first : ℕ) → List Function → List (List ℕ) → List (List ℕ)
put_lists_of first [] lists = lists
put_lists_of first (f ∷ fs) lists = put_lists_of first fs (put_lists_in first (marks_of f.params) f.body lists)

-- empty lists: one for no call, one for each site, and three for each function
abbrev pub no_lists : (first functions : ℕ) → List (List ℕ)
no_lists first functions = replicate (first + 3 * functions) []

-- the lists of array slots of functions
abbrev pub emitted_lists : (first : ℕ) → List Function → List (List ℕ)
emitted_lists first functions = put_lists_of first functions (no_lists first (length functions))

abbrev mutual
  -- stores the loans of each call in a statement at its number
  pub put_loans : Marks → Stmt → List (List Loan) → List (List Loan)
  put_loans marks (Call kind site target f es) lists = slice_set lists site (lent_in marks es)
  put_loans marks (If e b) lists = put_loans_in marks b lists
  put_loans marks (IfElse e b c) lists = put_loans_in marks c (put_loans_in marks b lists)
  put_loans marks (While e b) lists = put_loans_in marks b lists
  put_loans marks (Scope b) lists = put_loans_in marks b lists
  put_loans marks (Cut a e l r b) lists = put_loans_in marks b lists
  put_loans marks (Region tag b) lists = put_loans_in marks b lists
  put_loans marks _ lists = lists

  -- stores the loans of a block
  pub put_loans_in : Marks → Block → List (List Loan) → List (List Loan)
  put_loans_in marks End lists = lists
  put_loans_in marks (Then line s b) lists = put_loans_in marks b (put_loans marks s lists)

-- stores the loans of functions
abbrev pub put_loans_of : List Function → List (List Loan) → List (List Loan)
put_loans_of [] lists = lists
put_loans_of (f ∷ fs) lists = put_loans_of fs (put_loans_in (marks_of f.params) f.body lists)

-- the loans of functions: one list for no call, and one for each site
abbrev pub emitted_loans : (first : ℕ) → List Function → List (List Loan)
emitted_loans first functions = put_loans_of functions (replicate first [])

-- the line of a function's head, or 0 if there is no function
abbrev pub head_line : Option source.Function → ℕ
head_line None = 0
head_line (Some f) = f.line

-- a reducer in the code, without its line
abbrev pub coded_reducer : model.Reducer → Reducer
coded_reducer r = record { name = r.name; how = r.how }

abbrev pub coded_reducers : List model.Reducer → List Reducer
coded_reducers reducers = map coded_reducer reducers

-- the complete code of a program: it has the sites, reducers and tags of the source, and all else is generated from its
-- functions, which have no loops
abbrev pub emitted : Resolved → List Function → Code
emitted tree functions =
    let sites = emitted_sites_of tree.functions in
    let first = first_list sites in
    record {
      instrs = emitted_instrs first functions;
      funcs = emitted_funcs first 0 functions;
      main = tree.main;
      main_line = head_line (slice_get tree.functions tree.main);
      sites = sites;
      reducers = coded_reducers tree.reducers;
      tags = tree.tags;
      passed = emitted_lists first functions;
      lent = emitted_loans first functions;
    }
