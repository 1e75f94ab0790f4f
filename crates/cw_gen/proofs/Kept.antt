-- The rules that a lowered program keeps, in two parts: names are known, and no name that is used is taken.
use Rattle.std.specs.Prelude.{◌≡◌, map, ℕ, ◌+◌, if◌then◌else◌, Bool, true, false, ◌++◌, List, [], ◌∷◌, Option, Some, None}
use Rattle.cw_model.specs.Syntax.{is_array_param, Name, Expr, Number, Variable, Element, Length, Negative, Not, Binary, Stmt, Declare, DeclareArray, Assign, AssignElement}
use Rattle.cw_model.specs.Syntax.{Reduce, Call, Start, Begin, Sync, If, IfElse, While, Scope, Cut, Region, Print, Return, Block, End, Then, Param, Function}
use Rattle.cw_model.specs.Names.{is_among, differ}
use Rattle.cw_model.specs.Meaning.{function_named}
use Rattle.cw_model.specs.Typing.{Returns, Nowhere, WithInt, Alone, block_returns}
use Rattle.cw_model.specs.Ownership.{Taken, CutOf, is_taken, is_held, given, lent, own_names, names_in, target_names, Joins, Leaves, are_free, are_loose}
use Rattle.cw_tree.specs.Resolved.{Locals, with_array, locals_after, locals_of}
use Rattle.cw_gen.proofs.HeldNames.{held_after, has_no_half_in}
use Rattle.cw_gen.proofs.Fine.{marks_for, NotBoth, NoArray, Begins, FreeAtEnd, EndsFree, is_function, TakesRange}

-- an expression uses known integers and arrays
abbrev pub ExprKnown : Locals → Expr → Type 0
ExprKnown locals (Number n) = Unit {0}
ExprKnown locals (Variable x) = is_among x locals.ints ≡ true
ExprKnown locals (Element a e) = (is_among a locals.arrays ≡ true) × ExprKnown locals e
ExprKnown locals (Length a) = is_among a locals.arrays ≡ true
ExprKnown locals (Negative e) = ExprKnown locals e
ExprKnown locals (Not e) = ExprKnown locals e
ExprKnown locals (Binary operator d e) = ExprKnown locals d × ExprKnown locals e

-- an argument is an integer or an array
abbrev pub ArgKnown : Bool → Locals → Expr → Type 0
ArgKnown false locals e = ExprKnown locals e × NoArray locals e
ArgKnown true locals (Variable a) = is_among a locals.arrays ≡ true
ArgKnown true locals _ = ⊥

-- one argument for each parameter
abbrev pub ArgsKnown : Locals → List Param → List Expr → Type 0
ArgsKnown locals [] [] = Unit {0}
ArgsKnown locals (p ∷ ps) (e ∷ es) = ArgKnown (is_array_param p) locals e × ArgsKnown locals ps es
ArgsKnown locals _ _ = ⊥

-- the target of a result fits a function that returns one
abbrev pub TargetKnown : Locals → Function → Option Name → Type 0
TargetKnown locals f None = Unit {0}
TargetKnown locals f (Some x) = (is_among x locals.ints ≡ true) × (f.gives_int ≡ true)

-- the expression of a return uses known names
abbrev pub ReturnKnown : Returns → Locals → Option Expr → Type 0
ReturnKnown WithInt locals (Some e) = ExprKnown locals e
ReturnKnown Alone locals None = Unit {0}
ReturnKnown _ locals _ = ⊥

-- each of these names is known
abbrev pub AllKnown : List Name → List Name → Type 0
AllKnown names [] = Unit {0}
AllKnown names (x ∷ xs) = (is_among x names ≡ true) × AllKnown names xs

abbrev mutual
  -- the names that a statement uses are known; `given_arrays` are the arrays of the function's parameters
  pub StmtKnown : List Function → (given_arrays : List Name) → Returns → Locals → Stmt → Type 0
  StmtKnown fs given_arrays returns locals (Declare x e) = ExprKnown locals e
  StmtKnown fs given_arrays returns locals (DeclareArray a e) = ExprKnown locals e × Begins given_arrays locals.arrays
  StmtKnown fs given_arrays returns locals (AssignElement a i e) = (is_among a locals.arrays ≡ true) × ExprKnown locals i × ExprKnown locals e
  StmtKnown fs given_arrays returns locals (Assign x e) = (is_among x locals.ints ≡ true) × ExprKnown locals e
  StmtKnown fs given_arrays returns locals (Reduce how s e) = ExprKnown locals e
  StmtKnown fs given_arrays returns locals (Call kind site target f es) =
      (is_function f fs ≡ true) × TargetKnown locals (function_named f fs) target × ArgsKnown locals (function_named f fs).params es
  StmtKnown fs given_arrays returns locals (Start kind f es) =
      (is_function f fs ≡ true) × ((function_named f fs).gives_int ≡ false) × ArgsKnown locals (function_named f fs).params es
      × (marks_for (function_named f fs).params ≡ [])
  StmtKnown fs given_arrays returns locals (Begin f from to captured over) =
      (is_function f fs ≡ true) × TakesRange (function_named f fs) captured over
      × ExprKnown locals from × ExprKnown locals to × AllKnown locals.ints captured × AllKnown locals.arrays over × (differ over ≡ true)
  StmtKnown fs given_arrays returns locals Sync = Unit {0}
  StmtKnown fs given_arrays returns locals (If e b) = ExprKnown locals e × BlockKnown fs given_arrays returns locals b
  StmtKnown fs given_arrays returns locals (IfElse e b c) =
      ExprKnown locals e × BlockKnown fs given_arrays returns locals b × BlockKnown fs given_arrays returns locals c
  StmtKnown fs given_arrays returns locals (While e b) =
      ExprKnown locals e × BlockKnown fs given_arrays returns locals b × (has_no_half_in b ≡ true)
  StmtKnown fs given_arrays returns locals (Scope b) = BlockKnown fs given_arrays Nowhere locals b
  StmtKnown fs given_arrays returns locals (Cut a e l r b) =
      (is_among a locals.arrays ≡ true) × ExprKnown locals e
      × (is_among l locals.arrays ≡ false) × (is_among r (locals.arrays ++ l ∷ []) ≡ false) × Begins given_arrays locals.arrays
      × BlockKnown fs given_arrays Nowhere (with_array r (with_array l locals)) b
  StmtKnown fs given_arrays returns locals (Region tag b) = BlockKnown fs given_arrays Nowhere locals b
  StmtKnown fs given_arrays returns locals (Print e) = ExprKnown locals e
  StmtKnown fs given_arrays returns locals (Return e) = ReturnKnown returns locals e × Begins given_arrays locals.arrays
  StmtKnown fs given_arrays returns locals _ = ⊥

  -- the names that a block uses are known
  pub BlockKnown : List Function → (given_arrays : List Name) → Returns → Locals → Block → Type 0
  BlockKnown fs given_arrays returns locals End = Unit {0}
  BlockKnown fs given_arrays returns locals (Then line s b) =
      StmtKnown fs given_arrays returns locals s × BlockKnown fs given_arrays returns (locals_after locals s) b

-- a function: its parameters are distinct, the names that it uses are known, and it returns if it returns an integer
pub record FunctionKnown (fs : List Function) (f : Function) : Type 0 where
  pub apart : differ (map (λ p. p.name) f.params) ≡ true
  pub body : BlockKnown fs (locals_of f.params).arrays (if f.gives_int then WithInt else Alone) (locals_of f.params) f.body
  pub returns : f.gives_int ≡ true → block_returns f.body ≡ true

abbrev pub AllFunctionsKnown : List Function → List Function → Type 0
AllFunctionsKnown all [] = Unit {0}
AllFunctionsKnown all (f ∷ fs) = FunctionKnown all f × AllFunctionsKnown all fs

-- no name of these expressions is taken
abbrev pub ExprsFree : Taken → List Expr → Type 0
ExprsFree taken [] = Unit {0}
ExprsFree taken (e ∷ es) = (are_free taken (names_in e) ≡ true) × ExprsFree taken es

-- no name of the expression of a return is taken
abbrev pub ReturnFree : Taken → Option Expr → Type 0
ReturnFree taken None = Unit {0}
ReturnFree taken (Some e) = are_free taken (names_in e) ≡ true

abbrev mutual
  -- no name that a statement uses is taken, at this depth of sync blocks, and no name of a block is held at its end
  pub StmtFree : List Function → (depth : ℕ) → Taken → Stmt → Type 0
  StmtFree fs depth taken (Declare x e) = are_free taken (names_in e) ≡ true
  StmtFree fs depth taken (DeclareArray a e) = are_free taken (names_in e) ≡ true
  StmtFree fs depth taken (AssignElement a i e) =
      (is_held taken a ≡ false) × (are_free taken (names_in i) ≡ true) × (are_free taken (names_in e) ≡ true)
  StmtFree fs depth taken (Assign x e) = (is_taken taken x ≡ false) × (are_free taken (names_in e) ≡ true)
  StmtFree fs depth taken (Reduce how s e) = are_free taken (names_in e) ≡ true
  StmtFree fs depth taken (Call kind site target f es) =
      (are_free taken (target_names target) ≡ true) × ExprsFree taken es × (differ (given fs f es) ≡ true)
      × (are_loose taken (given fs f es) ≡ true) × NotBoth (given fs f es) (lent fs f es)
  StmtFree fs depth taken (Start kind f es) = ExprsFree taken es × (differ (given fs f es) ≡ true) × (are_loose taken (given fs f es) ≡ true)
  StmtFree fs depth taken (Begin f from to captured over) =
      (are_free taken (names_in from) ≡ true) × (are_free taken (names_in to) ≡ true) × (are_free taken captured ≡ true) × (are_loose taken over ≡ true)
  StmtFree fs depth taken Sync = Unit {0}
  StmtFree fs depth taken (If e b) = (are_free taken (names_in e) ≡ true) × BlockFree fs depth taken b × EndsFree fs depth Leaves taken b
  StmtFree fs depth taken (IfElse e b c) =
      (are_free taken (names_in e) ≡ true)
      × (BlockFree fs depth taken b × EndsFree fs depth Leaves taken b)
      × (BlockFree fs depth taken c × EndsFree fs depth Leaves taken c)
  StmtFree fs depth taken (While e b) =
      let all = held_after fs depth (While e b) taken in
      (are_free all (names_in e) ≡ true) × BlockFree fs depth all b × EndsFree fs depth Leaves all b
  StmtFree fs depth taken (Scope b) = BlockFree fs (depth + 1) taken b × EndsFree fs (depth + 1) Joins taken b
  StmtFree fs depth taken (Cut a e l r b) =
      let inner = (a, CutOf) ∷ taken in
      (is_held taken a ≡ false) × (are_free taken (names_in e) ≡ true)
      × BlockFree fs (depth + 1) inner b × FreeAtEnd fs (depth + 1) Joins inner (l ∷ r ∷ own_names b) b
  StmtFree fs depth taken (Region tag b) = BlockFree fs (depth + 1) taken b × EndsFree fs (depth + 1) Joins taken b
  StmtFree fs depth taken (Print e) = are_free taken (names_in e) ≡ true
  StmtFree fs depth taken (Return e) = ReturnFree taken e
  StmtFree fs depth taken _ = ⊥

  -- no name that a block uses is taken
  pub BlockFree : List Function → (depth : ℕ) → Taken → Block → Type 0
  BlockFree fs depth taken End = Unit {0}
  BlockFree fs depth taken (Then line s b) = StmtFree fs depth taken s × BlockFree fs depth (held_after fs depth s taken) b

-- no name that functions use is taken
abbrev pub AllFree : List Function → List Function → Type 0
AllFree all [] = Unit {0}
AllFree all (f ∷ fs) = BlockFree all 1 [] f.body × AllFree all fs
