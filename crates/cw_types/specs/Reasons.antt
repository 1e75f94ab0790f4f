-- The meaning of a reason for a broken rule of names and types at a line.
use Rattle.std.specs.Prelude.{◌≡◌, ℕ, ◌+◌, Bool, true, false, ◌&&◌, nat_le, List, [], ◌∷◌, Option, Some, None}
use Rattle.std.specs.Prelude.{MatchOption, Contains, is_some, length, map, option_map}
use Rattle.std.specs.List.{slice_get}
use Rattle.cw_model.specs.declared.limits.TheConstants.{MOST_GRAIN}
use Rattle.cw_model.specs.declared.syntax.Reduction.{Reduction}
use Rattle.cw_model.specs.declared.syntax.NameKind.TheVariants.{Integer, Array, Const}
use Rattle.cw_model.specs.Answers.{main_name}
use Rattle.cw_model.specs.Names.{same_name}
use Rattle.cw_model.specs.Syntax.{Name, Expr, Variable, Stmt, Declare, DeclareArray, Reduce, Call, For, Cut, Return}
use Rattle.cw_model.specs.Syntax.{Param, Function, Program, is_array_kind, is_array_param}
use Rattle.cw_model.specs.Typing.{Returns, Nowhere, WithInt, Alone, called, is_array, is_int, is_reducer}
use Rattle.cw_model.specs.Typing.{reducer_called}
use Rattle.cw_types.specs.Names.{IsUnknown}
use Rattle.cw_types.specs.Scope.{Declared, kind_and_line, kinds, name_and_line, newest}
use Rattle.cw_types.specs.Uses.{Use, uses}
use Rattle.cw_types.specs.declared.reason.IllTyped.{IllTyped}
use Rattle.cw_types.specs.declared.reason.IllTyped.TheVariants as reason
use Rattle.cw_types.specs.declared.reason.Other.{Other}
use Rattle.cw_types.specs.declared.reason.Other.TheVariants as other

-- the name belongs to a function or a reducer of this line, or its newest local, declared in this line, is an integer,
-- an array or a const parameter
abbrev pub IsOther : Program → List Declared → Name → Other → ℕ → Type 0
IsOther program locals x other.Integer line = option_map kind_and_line (newest x locals) ≡ Some (Integer, line)
IsOther program locals x other.Array line = option_map kind_and_line (newest x locals) ≡ Some (Array, line)
IsOther program locals x other.Const line = option_map kind_and_line (newest x locals) ≡ Some (Const, line)
IsOther program locals x other.Function line = option_map (λ f. f.line) (called x program.functions) ≡ Some line
IsOther program locals x other.Reducer line = Contains (map name_and_line program.reducers) (x, line)

-- the reason explains why the name is not of the required kind: it is unknown; it is not an integer, or not an array,
-- but the kind that the reason gives; or it is a const parameter of that line and must not be written
abbrev pub IsMisuse : Program → List Declared → Use → IllTyped → Type 0
IsMisuse program locals (x, wanted) (reason.Unknown word) = (word.now ≡ x) × IsUnknown x (kinds locals)
IsMisuse program locals (x, wanted) (reason.NotInteger word kind line) =
    (word.now ≡ x) × (wanted ≡ Integer) × (is_int (kinds locals) x ≡ false) × IsOther program locals x kind line
IsMisuse program locals (x, wanted) (reason.NotArray word kind line) =
    (word.now ≡ x) × (is_array_kind wanted ≡ true) × (is_array (kinds locals) x ≡ false)
    × IsOther program locals x kind line
IsMisuse program locals (x, wanted) (reason.OnlyRead word line) =
    (word.now ≡ x) × (wanted ≡ Array) × IsOther program locals x other.Const line
IsMisuse program locals (x, wanted) _ = ⊥

-- the reason explains why one of these names is not of the required kind
pub record IsMisuseIn (program : Program) (locals : List Declared) (names : List Use) (r : IllTyped) : Type 0 where
  pub name : Use
  pub there : Contains names name
  pub misused : IsMisuse program locals name r

-- the reason explains why this name must not be declared here: a local, a function or a reducer of that line has it
abbrev pub IsNotNew : Program → List Declared → Name → IllTyped → Type 0
IsNotNew program locals x (reason.Known word line) =
    (word.now ≡ x) × (option_map (λ d. d.line) (newest x locals) ≡ Some line)
IsNotNew program locals x (reason.Global word other.Function line) =
    (word.now ≡ x) × IsOther program locals x other.Function line
IsNotNew program locals x (reason.Global word other.Reducer line) =
    (word.now ≡ x) × IsOther program locals x other.Reducer line
IsNotNew program locals x _ = ⊥

-- the reason explains why one of these names must not be declared here
pub record IsNotNewIn (program : Program) (locals : List Declared) (names : List Name) (r : IllTyped) : Type 0 where
  pub name : Name
  pub there : Contains names name
  pub not_new : IsNotNew program locals name r

-- the reason concerns a name that is used, a name that is declared, or something else
pub data IsPart (program : Program) (locals : List Declared) (used : List Use) (declared : List Name)
    (Else : Type 0) (r : IllTyped) : Type 0 where
  Misused : IsMisuseIn program locals used r → IsPart program locals used declared Else r
  Taken : IsNotNewIn program locals declared r → IsPart program locals used declared Else r
  Wrong : Else → IsPart program locals used declared Else r

-- the reason concerns a name that is used, or something else
abbrev pub IsUsing : Program → List Declared → (used : List Use) → (IllTyped → Type 0) → IllTyped → Type 0
IsUsing program locals used Else r = IsPart program locals used [] (Else r) r

-- the reason concerns a name that is used or a name that is declared
abbrev pub IsNaming : Program → List Declared → (used : List Use) → (declared : List Name) → IllTyped → Type 0
IsNaming program locals used declared r = IsPart program locals used declared ⊥ r

-- why this name is wrong: no reducer has it, or the first reducer with it, in this line, has another reduction
abbrev pub IsNoReducer : Program → Reduction → Name → IllTyped → Type 0
IsNoReducer program how s (reason.NotReducer word told) =
    (word.now ≡ s) × (told ≡ how) × (reducer_called s program.reducers ≡ None)
IsNoReducer program how s (reason.ReducesOtherwise word told line) =
    (word.now ≡ s) × (told ≡ how) × (is_reducer program how s ≡ false)
    × (option_map (λ r. r.line) (reducer_called s program.reducers) ≡ Some line)
IsNoReducer program how s _ = ⊥

-- the name of a parameter, and whether it is an array
abbrev pub named_array : Param → Name × Bool
named_array p = (p.name, is_array_param p)

-- the expression is only a name
abbrev pub is_name : Expr → Bool
is_name (Variable x) = true
is_name _ = false

-- the parameter at a position, from 1, is this array, and the argument at the position is not a name
pub record IsNoArray (params : List Param) (arguments : List Expr) (place : ℕ) (param : Name) : Type 0 where
  pub index : ℕ
  pub counted : place ≡ index + 1
  pub wanted : option_map named_array (slice_get params index) ≡ Some (param, true)
  pub given : option_map is_name (slice_get arguments index) ≡ Some false

-- the number of arguments differs from the number of parameters, or an argument for an array is not a name
abbrev pub IsWrongList : Function → List Expr → IllTyped → Type 0
IsWrongList f es (reason.Count word given wanted line) =
    (word.now ≡ f.name) × (given ≡ length es) × (wanted ≡ length f.params) × (f.line ≡ line) × (given ≡ wanted → ⊥)
IsWrongList f es (reason.ArgumentNotArray place word param line) =
    (word.now ≡ f.name) × (f.line ≡ line) × IsNoArray f.params es place param.now
IsWrongList f es _ = ⊥

-- the callee is not a function, or is main, or returns nothing although a name receives its result
abbrev pub IsNoCall : Program → Option Name → Name → IllTyped → Type 0
IsNoCall program target callee (reason.NoFunction word) =
    (word.now ≡ callee) × (called callee program.functions ≡ None)
IsNoCall program target callee reason.CallsMain =
    MatchOption (called callee program.functions) ⊥ (λ f. same_name f.name main_name ≡ true)
IsNoCall program target callee (reason.GivesNothing word line) =
    (word.now ≡ callee) × (is_some target ≡ true)
    × MatchOption (called callee program.functions) ⊥ (λ f. (f.gives_int ≡ false) × (f.line ≡ line))
IsNoCall program target callee r = ⊥

-- the callee cannot be called in this way, or its arguments do not fit
pub data IsWrongCall (program : Program) (target : Option Name) (callee : Name) (es : List Expr)
    (r : IllTyped) : Type 0 where
  Uncallable : IsNoCall program target callee r → IsWrongCall program target callee es r
  Unfitting : (f : Function) → called callee program.functions ≡ Some f → IsWrongList f es r →
      IsWrongCall program target callee es r

-- the head of a loop has this name instead of its variable, or this grain, which is out of range
abbrev pub IsWrongHead : (variable tested stepped : Name) → (grain : ℕ) → IllTyped → Type 0
IsWrongHead x y z grain (reason.HeadNames word other) =
    (word.now ≡ x) × Contains (y ∷ z ∷ []) other.now × (same_name x other.now ≡ false)
IsWrongHead x y z grain (reason.Grain g) = (g ≡ grain) × ((nat_le 1 grain && nat_le grain MOST_GRAIN) ≡ false)
IsWrongHead x y z grain _ = ⊥

-- both parts of a cut have this name
abbrev pub IsWrongParts : (left right : Name) → IllTyped → Type 0
IsWrongParts l r (reason.PartsAlike word) = (word.now ≡ l) × (same_name l r ≡ true)
IsWrongParts l r _ = ⊥

-- this return is not allowed here: no return is allowed, or only those with a value, or only those without
abbrev pub IsWrongReturn : Returns → Option Expr → IllTyped → Type 0
IsWrongReturn returns value reason.ReturnInside = returns ≡ Nowhere
IsWrongReturn returns value reason.ReturnsNothing = (returns ≡ WithInt) × (value ≡ None)
IsWrongReturn returns value reason.ReturnsValue = (returns ≡ Alone) × (is_some value ≡ true)
IsWrongReturn returns value _ = ⊥

-- the names that a statement declares, apart from its inner blocks
abbrev pub names_declared : Stmt → List Name
names_declared (Declare x e) = x ∷ []
names_declared (DeclareArray a e) = a ∷ []
names_declared (For x y z from to grain over b) = x ∷ []
names_declared (Cut a e l r b) = l ∷ r ∷ []
names_declared _ = []

-- the reason concerns a rule for this kind of statement
abbrev pub IsWrongStmt : Program → Returns → Stmt → IllTyped → Type 0
IsWrongStmt program returns (Reduce how s e) r = IsNoReducer program how s r
IsWrongStmt program returns (Call kind site target f es) r = IsWrongCall program target f es r
IsWrongStmt program returns (For x y z from to grain over b) r = IsWrongHead x y z grain r
IsWrongStmt program returns (Cut a e x y b) r = IsWrongParts x y r
IsWrongStmt program returns (Return value) r = IsWrongReturn returns value r
IsWrongStmt program returns _ r = ⊥

-- the reason concerns a name that the statement uses, a name that it declares, or a rule for its kind
abbrev pub IsBroken : Program → Returns → List Declared → Stmt → IllTyped → Type 0
IsBroken program returns locals s r =
    IsPart program locals (uses program s) (names_declared s) (IsWrongStmt program returns s r) r
