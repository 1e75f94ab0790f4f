-- The names from outside that the body of a loop uses.
use Rattle.std.specs.Prelude.{List, [], ◌∷◌, ◌++◌, Some, None}
use Rattle.cw_model.specs.Syntax.{Name, Expr, Number, Variable, Element, Length, Negative, Not, Binary, Stmt, Declare}
use Rattle.cw_model.specs.Syntax.{DeclareArray, Assign, AssignElement, Reduce, Call, Start, Begin, Sync, If, IfElse}
use Rattle.cw_model.specs.Syntax.{While, For, Scope, Cut, Region, Print, Return, Block, End, Then}
use Rattle.cw_model.specs.Names.{new_names}

-- the names that occur as `Variable` in an expression
abbrev pub read_by : Expr → List Name
read_by (Number n) = []
read_by (Variable x) = x ∷ []
read_by (Element a e) = read_by e
read_by (Length a) = []
read_by (Negative e) = read_by e
read_by (Not e) = read_by e
read_by (Binary operator d e) = read_by d ++ read_by e

-- the names that occur as `Variable` in a list of expressions
abbrev pub read_by_all : List Expr → List Name
read_by_all [] = []
read_by_all (e ∷ es) = read_by e ++ read_by_all es

abbrev mutual
  -- the names that occur as `Variable` in the expressions of a statement
  pub read_in : Stmt → List Name
  read_in (Declare x e) = read_by e
  read_in (DeclareArray a e) = read_by e
  read_in (Assign x e) = read_by e
  read_in (AssignElement a i e) = read_by i ++ read_by e
  read_in (Reduce how s e) = read_by e
  read_in (Call kind site target callee es) = read_by_all es
  read_in (Start kind callee es) = read_by_all es
  read_in (Begin callee from to captured over) = read_by from ++ (read_by to ++ captured)
  read_in Sync = []
  read_in (If e b) = read_by e ++ read_in_block b
  read_in (IfElse e b c) = read_by e ++ (read_in_block b ++ read_in_block c)
  read_in (While e b) = read_by e ++ read_in_block b
  read_in (For x y z from to grain over b) = read_by from ++ (read_by to ++ read_in_block b)
  read_in (Scope b) = read_in_block b
  read_in (Cut a e l r b) = read_by e ++ read_in_block b
  read_in (Region tag b) = read_in_block b
  read_in (Print e) = read_by e
  read_in (Return None) = []
  read_in (Return (Some e)) = read_by e

  -- the names that occur as `Variable` in the expressions of a block
  pub read_in_block : Block → List Name
  read_in_block End = []
  read_in_block (Then line s b) = read_in s ++ read_in_block b

abbrev mutual
  -- the local names that a statement declares, including those in its blocks
  pub declared_in : Stmt → List Name
  declared_in (Declare x e) = x ∷ []
  declared_in (DeclareArray a e) = a ∷ []
  declared_in (If e b) = declared_in_block b
  declared_in (IfElse e b c) = declared_in_block b ++ declared_in_block c
  declared_in (While e b) = declared_in_block b
  declared_in (For x y z from to grain over b) = x ∷ declared_in_block b
  declared_in (Scope b) = declared_in_block b
  declared_in (Cut a e l r b) = l ∷ r ∷ declared_in_block b
  declared_in (Region tag b) = declared_in_block b
  declared_in _ = []

  -- the local names that a block declares, including those in inner blocks
  pub declared_in_block : Block → List Name
  declared_in_block End = []
  declared_in_block (Then line s b) = declared_in s ++ declared_in_block b

-- the distinct outer integers that the body of a loop uses, without the loop variable
abbrev pub captured : Name → Block → List Name
captured variable body = new_names (read_in_block body) (variable ∷ declared_in_block body)
