-- The names that must be integers or arrays where they are used.
use Rattle.std.specs.Prelude.{List, [], ◌∷◌, ◌++◌, Option, Some, None, map}
use Rattle.cw_model.specs.declared.syntax.NameKind.{NameKind}
use Rattle.cw_model.specs.declared.syntax.NameKind.TheVariants.{Integer, Array, Const}
use Rattle.cw_model.specs.Syntax.{Name, Expr, Number, Variable, Element, Length, Negative, Not, Binary, Stmt, Declare}
use Rattle.cw_model.specs.Syntax.{DeclareArray, Assign, AssignElement, Reduce, Call, If, IfElse, While, For, Cut, Print}
use Rattle.cw_model.specs.Syntax.{Return, Param, Function, Program}
use Rattle.cw_model.specs.Typing.{called}

-- a name and its required kind: an integer, an array that may be written, or an array that is read
abbrev pub Use : Type 0
Use = Name × NameKind

-- the uses in an expression of integers
abbrev pub uses_in : Expr → List Use
uses_in (Number n) = []
uses_in (Variable x) = (x, Integer) ∷ []
uses_in (Element a e) = (a, Const) ∷ uses_in e
uses_in (Length a) = (a, Const) ∷ []
uses_in (Negative e) = uses_in e
uses_in (Not e) = uses_in e
uses_in (Binary operator d e) = uses_in d ++ uses_in e

-- the uses in an argument for a parameter of this kind
abbrev pub uses_in_argument : NameKind → Expr → List Use
uses_in_argument Integer e = uses_in e
uses_in_argument Array (Variable a) = (a, Array) ∷ []
uses_in_argument Const (Variable a) = (a, Const) ∷ []
uses_in_argument _ _ = []

-- the uses in the arguments for these parameters
abbrev pub uses_in_arguments : List Param → List Expr → List Use
uses_in_arguments [] es = []
uses_in_arguments (p ∷ ps) [] = []
uses_in_arguments (p ∷ ps) (e ∷ es) = uses_in_argument p.kind e ++ uses_in_arguments ps es

-- the uses in the arguments of a call of this function, if there is one
abbrev pub uses_in_call : Option Function → List Expr → List Use
uses_in_call None es = []
uses_in_call (Some f) es = uses_in_arguments f.params es

-- the use of the name that receives a result
abbrev pub uses_as_target : Option Name → List Use
uses_as_target None = []
uses_as_target (Some x) = (x, Integer) ∷ []

-- uses of names as arrays that may be written
abbrev pub as_arrays : List Name → List Use
as_arrays names = map (λ a. (a, Array)) names

-- the uses in a statement, apart from its inner blocks
abbrev pub uses : Program → Stmt → List Use
uses program (Declare x e) = uses_in e
uses program (DeclareArray a e) = uses_in e
uses program (Assign x e) = (x, Integer) ∷ uses_in e
uses program (AssignElement a i e) = (a, Array) ∷ (uses_in i ++ uses_in e)
uses program (Reduce how s e) = uses_in e
uses program (Call kind site target f es) = uses_as_target target ++ uses_in_call (called f program.functions) es
uses program (If e b) = uses_in e
uses program (IfElse e b c) = uses_in e
uses program (While e b) = uses_in e
uses program (For x y z from to grain over b) = as_arrays over ++ (uses_in from ++ uses_in to)
uses program (Cut a e l r b) = (a, Array) ∷ uses_in e
uses program (Print e) = uses_in e
uses program (Return (Some e)) = uses_in e
uses program _ = []
