-- The abstract syntax tree of a source program.
use Rattle.std.specs.Prelude.{ℕ, ℤ, Bool, true, false, List, Option}
use Rattle.cw_model.specs.declared.syntax.Operator.{Operator}
use Rattle.cw_model.specs.declared.syntax.CallKind.{CallKind}
use Rattle.cw_model.specs.declared.syntax.Reduction.{Reduction}
use Rattle.cw_model.specs.declared.syntax.NameKind.{NameKind}
use Rattle.cw_model.specs.declared.syntax.NameKind.TheVariants.{Integer, Array, Const}

-- a name, as its bytes
abbrev pub Name : Type 0
Name = List ℕ

-- an expression
pub data Expr : Type 0 where
  Number : ℤ → Expr
  Variable : Name → Expr
  Element : Name → Expr → Expr
  Length : Name → Expr
  Negative : Expr → Expr
  Not : Expr → Expr
  Binary : Operator → Expr → Expr → Expr

mutual
  -- a statement
  pub data Stmt : Type 0 where
    Declare : Name → Expr → Stmt
    DeclareArray : Name → Expr → Stmt
    Assign : Name → Expr → Stmt
    AssignElement : Name → Expr → Expr → Stmt
    -- an update of a reducer with a value; typing requires that the reducer's declaration says the same reduction
    Reduce : (how : Reduction) (reducer : Name) → Expr → Stmt
    -- call statements are numbered from 1 in source order; each of them is a site
    Call : (kind : CallKind) (site : ℕ) (target : Option Name) (callee : Name) → List Expr → Stmt
    -- a recursive call of the function that a loop was lowered to: it is no site, and it is as deep as its caller
    Start : (kind : CallKind) (callee : Name) → List Expr → Stmt
    -- the first call of the function that a loop was lowered to, with the range and the slices of the loop's arrays
    Begin : (callee : Name) (from to : Expr) (captured over : List Name) → Stmt
    Sync : Stmt
    If : Expr → Block → Stmt
    IfElse : Expr → Block → Block → Stmt
    While : Expr → Block → Stmt
    -- `cilk_for`, with the three names in its head; typing requires that they are equal
    For : (variable tested stepped : Name) (from to : Expr) (grain : ℕ) (over : List Name) → Block → Stmt
    Scope : Block → Stmt
    Cut : (array : Name) (at : Expr) (left right : Name) → Block → Stmt
    Region : (tag : Name) → Block → Stmt
    Print : Expr → Stmt
    Return : Option Expr → Stmt

  -- the statements of a block in order, each with the line of its first token
  pub data Block : Type 0 where
    End : Block
    Then : (line : ℕ) → Stmt → Block → Block

-- the name is an array, writable or read-only
abbrev pub is_array_kind : NameKind → Bool
is_array_kind Integer = false
is_array_kind Array = true
is_array_kind Const = true

-- the name is a read-only array
abbrev pub is_const_kind : NameKind → Bool
is_const_kind Const = true
is_const_kind _ = false

-- the name is a writable array
abbrev pub is_written_kind : NameKind → Bool
is_written_kind Array = true
is_written_kind _ = false

-- a parameter
pub record Param : Type 0 where
  pub name : Name
  pub kind : NameKind

-- the argument for this parameter is an array
abbrev pub is_array_param : Param → Bool
is_array_param p = is_array_kind p.kind

-- the argument for this parameter is an array that the call takes from its caller until it returns
abbrev pub takes_array : Param → Bool
takes_array p = is_written_kind p.kind

-- the argument for this parameter is an array that the call only reads
abbrev pub reads_array : Param → Bool
reads_array p = is_const_kind p.kind

-- a function, with the line in which its name is declared
pub record Function : Type 0 where
  pub name : Name
  pub line : ℕ
  pub gives_int : Bool
  pub params : List Param
  pub body : Block

-- a reducer, with its reduction and the line of its first token
pub record Reducer : Type 0 where
  pub name : Name
  pub how : Reduction
  pub line : ℕ

-- a program: its reducers and its functions, each in source order
pub record Program : Type 0 where
  pub reducers : List Reducer
  pub functions : List Function
