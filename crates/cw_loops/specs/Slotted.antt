-- Programs with lowered loops, with a slot for each local and an index for each function, reducer and tag: there are no
-- names and no `cilk_for`.
--
-- How later stages use this: by the law `core_is_lowered`, a `Core` represents `slotted_functions`: its source,
-- lowered, with each name looked up as in the source (`Resolved` of `cw_tree`). The functions of the source come first,
-- at their indices there, and then the functions of the loops, by number. The integer slots of a loop's function are 0
-- and 1 for the two ends of its range, then its captured integers, then its variable or its middle, then the integers
-- that an iteration declares. Its array slots are the arrays of the loop first, then the arrays that an iteration
-- declares or the two parts of each array.
use Rattle.std.specs.Prelude.{ℕ, suc, ℤ, Bool, List, [], ◌∷◌, length, drop, map, Option, option_map, if◌then◌else◌}
use Rattle.cw_model.specs.declared.syntax.CallKind.{CallKind}
use Rattle.cw_model.specs.declared.syntax.NameKind.{NameKind}
use Rattle.cw_model.specs.declared.syntax.Operator.{Operator}
use Rattle.cw_model.specs.declared.syntax.Reduction.{Reduction}
use Rattle.cw_model.specs.Syntax.{Name, Param, Program}
use Rattle.cw_model.specs.Syntax as model
use Rattle.cw_model.specs.Names.{is_among}
use Rattle.cw_tree.specs.Resolved.{Lists, Locals, slot_of, with_array, locals_after, locals_of, function_names}
use Rattle.cw_tree.specs.Resolved.{is_reader, params_of, reducer_names, tags_of}
use Rattle.cw_loops.specs.Lowered.{lowered}

-- an expression
pub data Expr : Type 0 where
  Number : ℤ → Expr
  Variable : ℕ → Expr
  Element : ℕ → Expr → Expr
  Length : ℕ → Expr
  Negative : Expr → Expr
  Not : Expr → Expr
  Binary : Operator → Expr → Expr → Expr

-- an argument of a call
pub data Argument : Type 0 where
  Int : Expr → Argument
  -- an array that the callee owns until the call returns
  Array : ℕ → Argument
  -- an array that the callee only reads
  Shared : ℕ → Argument

mutual
  -- a statement
  pub data Stmt : Type 0 where
    Declare : ℕ → Expr → Stmt
    DeclareArray : ℕ → Expr → Stmt
    Assign : ℕ → Expr → Stmt
    AssignElement : ℕ → Expr → Expr → Stmt
    Reduce : (how : Reduction) (reducer : ℕ) → Expr → Stmt
    Call : (kind : CallKind) (site : ℕ) (target : Option ℕ) (callee : ℕ) → List Argument → Stmt
    Start : (kind : CallKind) (callee : ℕ) → List Argument → Stmt
    Begin : (callee : ℕ) (from to : Expr) (captured over : List ℕ) → Stmt
    Sync : Stmt
    If : Expr → Block → Stmt
    IfElse : Expr → Block → Block → Stmt
    While : Expr → Block → Stmt
    Scope : Block → Stmt
    Cut : (array : ℕ) (at : Expr) (left right : ℕ) → Block → Stmt
    Region : (tag : ℕ) → Block → Stmt
    Print : Expr → Stmt
    Return : Option Expr → Stmt

  -- statements in order, each with the line of its first token
  pub data Block : Type 0 where
    End : Block
    Then : (line : ℕ) → Stmt → Block → Block

-- a function, with the kinds of its parameters
pub record Function : Type 0 where
  pub gives_int : Bool
  pub params : List NameKind
  pub body : Block

-- an expression with each name looked up
abbrev pub slotted_expr : Locals → model.Expr → Expr
slotted_expr locals (model.Number n) = Number n
slotted_expr locals (model.Variable x) = Variable (slot_of x locals.ints)
slotted_expr locals (model.Element a e) = Element (slot_of a locals.arrays) (slotted_expr locals e)
slotted_expr locals (model.Length a) = Length (slot_of a locals.arrays)
slotted_expr locals (model.Negative e) = Negative (slotted_expr locals e)
slotted_expr locals (model.Not e) = Not (slotted_expr locals e)
slotted_expr locals (model.Binary operator d e) = Binary operator (slotted_expr locals d) (slotted_expr locals e)

-- an array as the argument for the first of these parameters
abbrev pub slot_to : List Param → ℕ → Argument
slot_to ps slot = if is_reader ps then Shared slot else Array slot

-- a name as an argument: an array if an array with this name is known, otherwise an integer
abbrev pub slotted_name : Locals → List Param → Name → Argument
slotted_name locals ps x =
    if is_among x locals.arrays then slot_to ps (slot_of x locals.arrays) else Int (Variable (slot_of x locals.ints))

-- an argument for the first of these parameters, with each name looked up
abbrev pub slotted_argument : Locals → List Param → model.Expr → Argument
slotted_argument locals ps (model.Variable x) = slotted_name locals ps x
slotted_argument locals ps e = Int (slotted_expr locals e)

-- the arguments for these parameters, in order
abbrev pub slotted_arguments : Locals → List Param → List model.Expr → List Argument
slotted_arguments locals ps [] = []
slotted_arguments locals ps (e ∷ es) = slotted_argument locals ps e ∷ slotted_arguments locals (drop 1 ps) es

abbrev mutual
  -- a statement with each name looked up among these locals
  pub slotted_stmt : Lists → Locals → model.Stmt → Stmt
  slotted_stmt lists locals (model.Declare x e) = Declare (length locals.ints) (slotted_expr locals e)
  slotted_stmt lists locals (model.DeclareArray a e) = DeclareArray (length locals.arrays) (slotted_expr locals e)
  slotted_stmt lists locals (model.Assign x e) = Assign (slot_of x locals.ints) (slotted_expr locals e)
  slotted_stmt lists locals (model.AssignElement a i e) =
      AssignElement (slot_of a locals.arrays) (slotted_expr locals i) (slotted_expr locals e)
  slotted_stmt lists locals (model.Reduce how s e) = Reduce how (slot_of s lists.reducers) (slotted_expr locals e)
  slotted_stmt lists locals (model.Call kind site target f es) =
      Call kind site (option_map (λ x. slot_of x locals.ints) target) (slot_of f lists.functions)
      (slotted_arguments locals (params_of lists f) es)
  slotted_stmt lists locals (model.Start kind f es) =
      Start kind (slot_of f lists.functions) (slotted_arguments locals (params_of lists f) es)
  slotted_stmt lists locals (model.Begin f from to captured over) =
      Begin (slot_of f lists.functions) (slotted_expr locals from) (slotted_expr locals to)
      (map (λ x. slot_of x locals.ints) captured) (map (λ a. slot_of a locals.arrays) over)
  slotted_stmt lists locals model.Sync = Sync
  slotted_stmt lists locals (model.If e b) = If (slotted_expr locals e) (slotted_block lists locals b)
  slotted_stmt lists locals (model.IfElse e b c) =
      IfElse (slotted_expr locals e) (slotted_block lists locals b) (slotted_block lists locals c)
  slotted_stmt lists locals (model.While e b) = While (slotted_expr locals e) (slotted_block lists locals b)
  -- no lowered program contains this statement
  slotted_stmt lists locals (model.For x y z from to grain over b) = Sync
  slotted_stmt lists locals (model.Scope b) = Scope (slotted_block lists locals b)
  slotted_stmt lists locals (model.Cut a e l r b) =
      Cut (slot_of a locals.arrays) (slotted_expr locals e) (length locals.arrays) (suc (length locals.arrays))
      (slotted_block lists (with_array r (with_array l locals)) b)
  slotted_stmt lists locals (model.Region tag b) = Region (slot_of tag lists.tags) (slotted_block lists locals b)
  slotted_stmt lists locals (model.Print e) = Print (slotted_expr locals e)
  slotted_stmt lists locals (model.Return e) = Return (option_map (slotted_expr locals) e)

  -- a block with each name looked up; the scope of its names ends with it
  pub slotted_block : Lists → Locals → model.Block → Block
  slotted_block lists locals model.End = End
  slotted_block lists locals (model.Then line s b) =
      Then line (slotted_stmt lists locals s) (slotted_block lists (locals_after locals s) b)

-- a function with each name looked up
abbrev pub slotted_function : Lists → model.Function → Function
slotted_function lists f = record {
  gives_int = f.gives_int;
  params = map (λ p. p.kind) f.params;
  body = slotted_block lists (locals_of f.params) f.body;
}

-- the names that a program with lowered loops lists; the tags are in the order of the source
abbrev pub lowered_lists : Program → Lists
lowered_lists program = record {
  callees = (lowered program).functions;
  functions = function_names (lowered program).functions;
  reducers = reducer_names program.reducers;
  tags = tags_of program;
}

-- the functions of the lowered program, with each name looked up
abbrev pub slotted_functions : Program → List Function
slotted_functions program = map (slotted_function (lowered_lists program)) (lowered program).functions
