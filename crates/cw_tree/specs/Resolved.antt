-- Programs with each name looked up.
--
-- How later stages use this: a `Typed` holds its tree. `View.resolved_of` is the `Resolved` that the tree represents,
-- and `View.program_of` is this `Resolved` without slots and indices, which is the program of the source. A stage
-- states its result as a function of the resolved tree only, by the slot of each use and the index of each callee, so
-- it looks up no name. The type guarantees that slots and indices are correct: `Typed` holds
-- `is_resolved (resolved_of tree) ≡ true`, and the law `slots_are_right` derives
-- `resolved_of tree ≡ resolved (program_of tree)`: the slot of a name is its position among the integers or the arrays
-- that are known there.
use Rattle.std.specs.Prelude.{ℕ, suc, ℤ, ◌==◌, max, nat_lt, Bool, false, not, ◌&&◌, if◌then◌else◌, List, [], ◌∷◌, ◌++◌}
use Rattle.std.specs.Prelude.{length, drop, map, filter, Option, Some, None, option_map}
use Rattle.std.specs.List.{list_any}
use Rattle.cw_model.specs.declared.syntax.CallKind.{CallKind}
use Rattle.cw_model.specs.declared.syntax.Operator.{Operator}
use Rattle.cw_model.specs.declared.syntax.Reduction.{Reduction}
use Rattle.cw_model.specs.Syntax.{Name, Param, Reducer, is_array_param, reads_array}
use Rattle.cw_model.specs.Syntax as model
use Rattle.cw_model.specs.Names.{same_name, is_among}
use Rattle.cw_model.specs.Answers.{main_name}
use Rattle.cw_model.specs.Meaning.{function_named}
use Rattle.cw_model.specs.Sizes.{first_places, regions_of}

-- a use of a local with its slot among the locals of its kind
pub record Use : Type 0 where
  pub name : Name
  pub slot : ℕ

-- a use of a function, a reducer or a tag with its index in the program
pub record Listed : Type 0 where
  pub name : Name
  pub index : ℕ

-- an expression
pub data Expr : Type 0 where
  Number : ℤ → Expr
  Variable : Use → Expr
  Element : Use → Expr → Expr
  Length : Use → Expr
  Negative : Expr → Expr
  Not : Expr → Expr
  Binary : Operator → Expr → Expr → Expr

-- an argument of a call
pub data Argument : Type 0 where
  Int : Expr → Argument
  -- an array that the callee owns until the call returns
  Array : Use → Argument
  -- an array that the callee only reads
  Shared : Use → Argument

-- the head of a loop
pub record Head : Type 0 where
  pub variable : Use
  pub from : Expr
  pub to : Expr
  pub grain : ℕ
  pub captured : List Use
  pub over : List Use

-- a cut of an array: the array, the position and the two parts
pub record Parts : Type 0 where
  pub array : Use
  pub at : Expr
  pub left : Use
  pub right : Use

mutual
  -- a statement
  pub data Stmt : Type 0 where
    Declare : Use → Expr → Stmt
    DeclareArray : Use → Expr → Stmt
    Assign : Use → Expr → Stmt
    AssignElement : Use → Expr → Expr → Stmt
    Reduce : (how : Reduction) → Listed → Expr → Stmt
    Call : (kind : CallKind) (site : ℕ) (target : Option Use) (callee : Listed) → List Argument → Stmt
    Sync : Stmt
    If : Expr → Block → Stmt
    IfElse : Expr → Block → Block → Stmt
    While : Expr → Block → Stmt
    For : Head → Block → Stmt
    Scope : Block → Stmt
    Cut : Parts → Block → Stmt
    Region : Listed → Block → Stmt
    Print : Expr → Stmt
    Return : Option Expr → Stmt

  -- statements in order, each with the line of its first token
  pub data Block : Type 0 where
    End : Block
    Then : (line : ℕ) → Stmt → Block → Block

-- a function with the numbers of slots for its integers and its arrays
pub record Function : Type 0 where
  pub name : Name
  pub line : ℕ
  pub gives_int : Bool
  pub params : List Param
  pub ints : ℕ
  pub arrays : ℕ
  pub body : Block

-- a program: its reducers and functions, its distinct tags in the order of first occurrence, and the index of main
pub record Resolved : Type 0 where
  pub reducers : List Reducer
  pub functions : List Function
  pub tags : List Name
  pub main : ℕ

-- the names of functions, reducers and tags; the parameters of the functions decide how arrays are passed
pub record Lists : Type 0 where
  pub callees : List model.Function
  pub functions : List Name
  pub reducers : List Name
  pub tags : List Name

-- the known integers and the known arrays, each in the order of declaration
pub record Locals : Type 0 where
  pub ints : List Name
  pub arrays : List Name

-- the first position of a name, or the number of names if it is not among them
abbrev pub slot_of : Name → List Name → ℕ
slot_of x [] = 0
slot_of x (y ∷ names) = if same_name x y then 0 else suc (slot_of x names)

-- a use of a known name, with its slot
abbrev pub use_of : List Name → Name → Use
use_of names x = record { name = x; slot = slot_of x names }

-- a declaration takes the next slot
abbrev pub next_use : List Name → Name → Use
next_use names x = record { name = x; slot = length names }

-- a use of a name of the program, with its index
abbrev pub listed_in : List Name → Name → Listed
listed_in names x = record { name = x; index = slot_of x names }

-- adds an integer to the locals
abbrev pub with_int : Name → Locals → Locals
with_int x locals = record { ints = locals.ints ++ x ∷ []; arrays = locals.arrays }

-- adds an array to the locals
abbrev pub with_array : Name → Locals → Locals
with_array a locals = record { ints = locals.ints; arrays = locals.arrays ++ a ∷ [] }

-- an expression with each name looked up
abbrev pub resolved_expr : Locals → model.Expr → Expr
resolved_expr locals (model.Number n) = Number n
resolved_expr locals (model.Variable x) = Variable (use_of locals.ints x)
resolved_expr locals (model.Element a e) = Element (use_of locals.arrays a) (resolved_expr locals e)
resolved_expr locals (model.Length a) = Length (use_of locals.arrays a)
resolved_expr locals (model.Negative e) = Negative (resolved_expr locals e)
resolved_expr locals (model.Not e) = Not (resolved_expr locals e)
resolved_expr locals (model.Binary operator d e) = Binary operator (resolved_expr locals d) (resolved_expr locals e)

-- the first of these parameters is a read-only array
abbrev pub is_reader : List Param → Bool
is_reader [] = false
is_reader (p ∷ ps) = reads_array p

-- an array as the argument for the first of these parameters
abbrev pub passed_to : List Param → Use → Argument
passed_to ps u = if is_reader ps then Shared u else Array u

-- a name as an argument: an array if an array with this name is known, otherwise an integer
abbrev pub resolved_name : Locals → List Param → Name → Argument
resolved_name locals ps x =
    if is_among x locals.arrays then passed_to ps (use_of locals.arrays x) else Int (Variable (use_of locals.ints x))

-- an argument for the first of these parameters, with each name looked up
abbrev pub resolved_argument : Locals → List Param → model.Expr → Argument
resolved_argument locals ps (model.Variable x) = resolved_name locals ps x
resolved_argument locals ps e = Int (resolved_expr locals e)

-- the arguments for these parameters, in order
abbrev pub resolved_arguments : Locals → List Param → List model.Expr → List Argument
resolved_arguments locals ps [] = []
resolved_arguments locals ps (e ∷ es) = resolved_argument locals ps e ∷ resolved_arguments locals (drop 1 ps) es

-- the parameters of the first function with this name
abbrev pub params_of : Lists → Name → List Param
params_of lists f = (function_named f lists.callees).params

-- the known locals after a statement
abbrev pub locals_after : Locals → model.Stmt → Locals
locals_after locals (model.Declare x e) = with_int x locals
locals_after locals (model.DeclareArray a e) = with_array a locals
locals_after locals _ = locals

-- the integers that an expression reads
abbrev pub reads : Expr → List Use
reads (Number n) = []
reads (Variable u) = u ∷ []
reads (Element a e) = reads e
reads (Length a) = []
reads (Negative e) = reads e
reads (Not e) = reads e
reads (Binary operator d e) = reads d ++ reads e

-- the integers that an argument reads
abbrev pub argument_reads : Argument → List Use
argument_reads (Int e) = reads e
argument_reads (Array a) = []
argument_reads (Shared a) = []

-- the integers that arguments read
abbrev pub arguments_read : List Argument → List Use
arguments_read [] = []
arguments_read (e ∷ es) = argument_reads e ++ arguments_read es

-- the integers that a return reads
abbrev pub return_reads : Option Expr → List Use
return_reads None = []
return_reads (Some e) = reads e

-- the integers that the head of a loop reads, and those that its body captures
abbrev pub head_reads : Head → List Use
head_reads head = reads head.from ++ (reads head.to ++ head.captured)

abbrev mutual
  -- the integers that a statement reads, in order; a loop reads the integers of its head and the integers that its body
  -- captures
  pub reads_in : Stmt → List Use
  reads_in (Declare u e) = reads e
  reads_in (DeclareArray u e) = reads e
  reads_in (Assign u e) = reads e
  reads_in (AssignElement u i e) = reads i ++ reads e
  reads_in (Reduce how s e) = reads e
  reads_in (Call kind site target callee es) = arguments_read es
  reads_in Sync = []
  reads_in (If e b) = reads e ++ reads_in_block b
  reads_in (IfElse e b c) = reads e ++ (reads_in_block b ++ reads_in_block c)
  reads_in (While e b) = reads e ++ reads_in_block b
  reads_in (For head b) = head_reads head
  reads_in (Scope b) = reads_in_block b
  reads_in (Cut parts b) = reads parts.at ++ reads_in_block b
  reads_in (Region tag b) = reads_in_block b
  reads_in (Print e) = reads e
  reads_in (Return e) = return_reads e

  -- the integers that a block reads, in order
  pub reads_in_block : Block → List Use
  reads_in_block End = []
  reads_in_block (Then line s b) = reads_in s ++ reads_in_block b

-- the slot is one of these slots
abbrev pub is_slot_in : ℕ → List ℕ → Bool
is_slot_in slot slots = list_any (λ k. k == slot) slots

-- appends a use to the uses found so far, if its slot is below `n` and new
abbrev pub with_first : (n : ℕ) → List Use → Use → List Use
with_first n found u =
    if nat_lt u.slot n && not (is_slot_in u.slot (map (λ w. w.slot) found)) then found ++ u ∷ [] else found

-- appends the first use of each new slot below `n` to the uses found so far
abbrev pub first_uses : (n : ℕ) → (found : List Use) → List Use → List Use
first_uses n found [] = found
first_uses n found (u ∷ us) = first_uses n (with_first n found u) us

-- the outer integers that a body reads, without duplicates and in order, if the first `n` slots are outside
abbrev pub captured_in : ℕ → Block → List Use
captured_in n body = first_uses n [] (reads_in_block body)

-- the head of a loop, for a resolved body
abbrev pub head_with : Locals → Name → (from to : model.Expr) → ℕ → List Name → Block → Head
head_with locals x from to grain over body = record {
  variable = next_use locals.ints x;
  from = resolved_expr locals from;
  to = resolved_expr locals to;
  grain = grain;
  captured = captured_in (length locals.ints) body;
  over = map (use_of locals.arrays) over;
}

-- a loop with a resolved body
abbrev pub loop_of : Locals → Name → (from to : model.Expr) → ℕ → List Name → Block → Stmt
loop_of locals x from to grain over body = For (head_with locals x from to grain over body) body

-- a resolved cut
abbrev pub parts_of : Locals → Name → model.Expr → (left right : Name) → Parts
parts_of locals a e l r = record {
  array = use_of locals.arrays a;
  at = resolved_expr locals e;
  left = next_use locals.arrays l;
  right = next_use (locals.arrays ++ l ∷ []) r;
}

abbrev mutual
  -- a statement with each name looked up among these locals
  pub resolved_stmt : Lists → Locals → model.Stmt → Stmt
  resolved_stmt lists locals (model.Declare x e) = Declare (next_use locals.ints x) (resolved_expr locals e)
  resolved_stmt lists locals (model.DeclareArray a e) = DeclareArray (next_use locals.arrays a) (resolved_expr locals e)
  resolved_stmt lists locals (model.Assign x e) = Assign (use_of locals.ints x) (resolved_expr locals e)
  resolved_stmt lists locals (model.AssignElement a i e) =
      AssignElement (use_of locals.arrays a) (resolved_expr locals i) (resolved_expr locals e)
  resolved_stmt lists locals (model.Reduce how s e) = Reduce how (listed_in lists.reducers s) (resolved_expr locals e)
  resolved_stmt lists locals (model.Call kind site target f es) =
      Call kind site (option_map (use_of locals.ints) target) (listed_in lists.functions f)
      (resolved_arguments locals (params_of lists f) es)
  -- no source contains this statement
  resolved_stmt lists locals (model.Start kind f es) = Sync
  resolved_stmt lists locals (model.Begin f from to captured over) = Sync
  resolved_stmt lists locals model.Sync = Sync
  resolved_stmt lists locals (model.If e b) = If (resolved_expr locals e) (resolved_block lists locals b)
  resolved_stmt lists locals (model.IfElse e b c) =
      IfElse (resolved_expr locals e) (resolved_block lists locals b) (resolved_block lists locals c)
  resolved_stmt lists locals (model.While e b) = While (resolved_expr locals e) (resolved_block lists locals b)
  resolved_stmt lists locals (model.For x y z from to grain over b) =
      loop_of locals x from to grain over (resolved_block lists (with_int x locals) b)
  resolved_stmt lists locals (model.Scope b) = Scope (resolved_block lists locals b)
  resolved_stmt lists locals (model.Cut a e l r b) =
      Cut (parts_of locals a e l r) (resolved_block lists (with_array r (with_array l locals)) b)
  resolved_stmt lists locals (model.Region tag b) = Region (listed_in lists.tags tag) (resolved_block lists locals b)
  resolved_stmt lists locals (model.Print e) = Print (resolved_expr locals e)
  resolved_stmt lists locals (model.Return e) = Return (option_map (resolved_expr locals) e)

  -- a block with each name looked up; the scope of its names ends with it
  pub resolved_block : Lists → Locals → model.Block → Block
  resolved_block lists locals model.End = End
  resolved_block lists locals (model.Then line s b) =
      Then line (resolved_stmt lists locals s) (resolved_block lists (locals_after locals s) b)

abbrev mutual
  -- the number of slots for integers after a statement, if there were `n` before
  pub ints_in : ℕ → Stmt → ℕ
  ints_in n (Declare u e) = max n (suc u.slot)
  ints_in n (If e b) = ints_in_block n b
  ints_in n (IfElse e b c) = ints_in_block (ints_in_block n b) c
  ints_in n (While e b) = ints_in_block n b
  ints_in n (For head b) = ints_in_block (max n (suc head.variable.slot)) b
  ints_in n (Scope b) = ints_in_block n b
  ints_in n (Cut parts b) = ints_in_block n b
  ints_in n (Region tag b) = ints_in_block n b
  ints_in n _ = n

  -- the number of slots for integers after a block, if there were `n` before
  pub ints_in_block : ℕ → Block → ℕ
  ints_in_block n End = n
  ints_in_block n (Then line s b) = ints_in_block (ints_in n s) b

abbrev mutual
  -- the number of slots for arrays after a statement, if there were `n` before
  pub arrays_in : ℕ → Stmt → ℕ
  arrays_in n (DeclareArray u e) = max n (suc u.slot)
  arrays_in n (If e b) = arrays_in_block n b
  arrays_in n (IfElse e b c) = arrays_in_block (arrays_in_block n b) c
  arrays_in n (While e b) = arrays_in_block n b
  arrays_in n (For head b) = arrays_in_block n b
  arrays_in n (Scope b) = arrays_in_block n b
  arrays_in n (Cut parts b) = arrays_in_block (max n (suc parts.right.slot)) b
  arrays_in n (Region tag b) = arrays_in_block n b
  arrays_in n _ = n

  -- the number of slots for arrays after a block, if there were `n` before
  pub arrays_in_block : ℕ → Block → ℕ
  arrays_in_block n End = n
  arrays_in_block n (Then line s b) = arrays_in_block (arrays_in n s) b

-- the parameters as locals
abbrev pub locals_of : List Param → Locals
locals_of ps = record {
  ints = map (λ p. p.name) (filter (λ p. not (is_array_param p)) ps);
  arrays = map (λ p. p.name) (filter (λ p. is_array_param p) ps);
}

-- a function with a resolved body; its numbers of slots suffice for the locals that are known at the same time
abbrev pub function_with : model.Function → Locals → Block → Function
function_with f locals body = record {
  name = f.name;
  line = f.line;
  gives_int = f.gives_int;
  params = f.params;
  ints = ints_in_block (length locals.ints) body;
  arrays = arrays_in_block (length locals.arrays) body;
  body = body;
}

-- a function with each name looked up
abbrev pub resolved_function : Lists → model.Function → Function
resolved_function lists f = function_with f (locals_of f.params) (resolved_block lists (locals_of f.params) f.body)

-- the names of functions
abbrev pub function_names : List model.Function → List Name
function_names fs = map (λ f. f.name) fs

-- the names of reducers
abbrev pub reducer_names : List Reducer → List Name
reducer_names rs = map (λ r. r.name) rs

-- the distinct tags, in the order of their first occurrences
abbrev pub tags_of : model.Program → List Name
tags_of program = map (λ d. d.0) (first_places (regions_of program) [])

-- the names that a program lists
abbrev pub lists_of : model.Program → Lists
lists_of program = record {
  callees = program.functions;
  functions = function_names program.functions;
  reducers = reducer_names program.reducers;
  tags = tags_of program;
}

-- a program with each name looked up
abbrev pub resolved : model.Program → Resolved
resolved program = record {
  reducers = program.reducers;
  functions = map (resolved_function (lists_of program)) program.functions;
  tags = tags_of program;
  main = slot_of main_name (function_names program.functions);
}

-- an expression without its slots
abbrev pub plain_expr : Expr → model.Expr
plain_expr (Number n) = model.Number n
plain_expr (Variable u) = model.Variable u.name
plain_expr (Element u e) = model.Element u.name (plain_expr e)
plain_expr (Length u) = model.Length u.name
plain_expr (Negative e) = model.Negative (plain_expr e)
plain_expr (Not e) = model.Not (plain_expr e)
plain_expr (Binary operator d e) = model.Binary operator (plain_expr d) (plain_expr e)

-- an argument without its slots
abbrev pub plain_argument : Argument → model.Expr
plain_argument (Int e) = plain_expr e
plain_argument (Array u) = model.Variable u.name
plain_argument (Shared u) = model.Variable u.name

abbrev mutual
  -- a statement without slots and indices; the three names in the head of a loop are the same name
  pub plain_stmt : Stmt → model.Stmt
  plain_stmt (Declare u e) = model.Declare u.name (plain_expr e)
  plain_stmt (DeclareArray u e) = model.DeclareArray u.name (plain_expr e)
  plain_stmt (Assign u e) = model.Assign u.name (plain_expr e)
  plain_stmt (AssignElement u i e) = model.AssignElement u.name (plain_expr i) (plain_expr e)
  plain_stmt (Reduce how s e) = model.Reduce how s.name (plain_expr e)
  plain_stmt (Call kind site target f es) =
      model.Call kind site (option_map (λ u. u.name) target) f.name (map plain_argument es)
  plain_stmt Sync = model.Sync
  plain_stmt (If e b) = model.If (plain_expr e) (plain_block b)
  plain_stmt (IfElse e b c) = model.IfElse (plain_expr e) (plain_block b) (plain_block c)
  plain_stmt (While e b) = model.While (plain_expr e) (plain_block b)
  plain_stmt (For head b) =
      let x = head.variable.name in
      model.For x x x (plain_expr head.from) (plain_expr head.to) head.grain (map (λ u. u.name) head.over)
      (plain_block b)
  plain_stmt (Scope b) = model.Scope (plain_block b)
  plain_stmt (Cut parts b) =
      model.Cut parts.array.name (plain_expr parts.at) parts.left.name parts.right.name (plain_block b)
  plain_stmt (Region tag b) = model.Region tag.name (plain_block b)
  plain_stmt (Print e) = model.Print (plain_expr e)
  plain_stmt (Return e) = model.Return (option_map plain_expr e)

  -- a block without slots and indices
  pub plain_block : Block → model.Block
  plain_block End = model.End
  plain_block (Then line s b) = model.Then line (plain_stmt s) (plain_block b)

-- a function without slots and indices
abbrev pub plain_function : Function → model.Function
plain_function f =
    record { name = f.name; line = f.line; gives_int = f.gives_int; params = f.params; body = plain_block f.body }

-- a program without slots and indices
abbrev pub plain : Resolved → model.Program
plain tree = record { reducers = tree.reducers; functions = map plain_function tree.functions }
