-- The meaning of a reason for a part of a statement that breaks a rule.
use Rattle.std.specs.Prelude.{ℕ, List, [], ◌∷◌, ◌++◌, Option}
use Rattle.cw_model.specs.declared.syntax.NameKind.TheVariants.{Array}
use Rattle.cw_model.specs.Syntax.{Name, Expr, Function, Program}
use Rattle.cw_model.specs.Typing.{called}
use Rattle.cw_types.specs.Scope.{Declared}
use Rattle.cw_types.specs.Uses.{as_arrays, uses_as_target, uses_in, uses_in_arguments, uses_in_call}
use Rattle.cw_types.specs.Reasons.{IsPart, IsWrongCall, IsWrongHead, IsWrongList, IsWrongParts}
use Rattle.cw_types.specs.declared.reason.IllTyped.{IllTyped}

-- the reason explains why a call breaks a rule
abbrev pub IsBrokenCall : Program → List Declared → Option Name → Name → List Expr → IllTyped → Type 0
IsBrokenCall program locals target callee es r =
    IsPart program locals (uses_as_target target ++ uses_in_call (called callee program.functions) es) []
    (IsWrongCall program target callee es r) r

-- the reason explains why the arguments of a function break a rule
abbrev pub IsBrokenList : Program → List Declared → Function → List Expr → IllTyped → Type 0
IsBrokenList program locals f es r = IsPart program locals (uses_in_arguments f.params es) [] (IsWrongList f es r) r

-- the reason explains why the head of a loop breaks a rule
abbrev pub IsBrokenHead : Program → List Declared → (variable tested stepped : Name) → (from to : Expr) →
    (grain : ℕ) → (over : List Name) →
    IllTyped → Type 0
IsBrokenHead program locals x y z from to grain over r =
    IsPart program locals (as_arrays over ++ (uses_in from ++ uses_in to)) (x ∷ []) (IsWrongHead x y z grain r) r

-- the reason explains why a cut breaks a rule
abbrev pub IsBrokenCut : Program → List Declared → Name → Expr → (left right : Name) → IllTyped → Type 0
IsBrokenCut program locals a e x y r =
    IsPart program locals ((a, Array) ∷ uses_in e) (x ∷ y ∷ []) (IsWrongParts x y r) r
