-- The meaning of a reason of names and types that is recorded for a line of a program.
use Rattle.std.specs.Prelude.{◌≡◌, ◌≢◌, ℕ, Bool, true, false, List, [], ◌++◌, Some, Contains, map}
use Rattle.std.specs.Borrow.{Bor}
use Rattle.std.specs.List.{slice_get}
use Rattle.cw_model.specs.Answers.{main_name}
use Rattle.cw_model.specs.Names.{is_among, same_name}
use Rattle.cw_model.specs.Syntax.{Name, Block, End, Then, Param, Function, Program}
use Rattle.cw_model.specs.Typing.{block_returns, surely_returns}
use Rattle.cw_types.specs.Named.{functions_named, reducers_named}
use Rattle.cw_types.specs.Names.{function_names, param_names}
use Rattle.cw_types.specs.Reasons.{IsBroken, IsNotNewIn, named_array}
use Rattle.cw_types.specs.Scope.{Declared}
use Rattle.cw_types.specs.StmtContext.{StmtContext, statements_of}
use Rattle.cw_types.specs.declared.reason.IllTyped.{IllTyped}
use Rattle.cw_types.specs.declared.reason.IllTyped.TheVariants as reason

-- both elements are in the list, at different positions
pub record AreBothIn {X : Type 0} (xs : List X) (x y : X) : Type 0 where
  pub place : ℕ
  pub other : ℕ
  pub apart : place ≢ other
  pub one : slice_get xs place ≡ Some x
  pub more : slice_get xs other ≡ Some y

-- no function has the name main
abbrev pub IsNoMain : Program → IllTyped → Type 0
IsNoMain program reason.NoMain = is_among main_name (function_names program.functions) ≡ false
IsNoMain program _ = ⊥

-- one of these names occurs in this line and in another line, or twice in this line
pub record IsRepeatedIn (names : List (Name × ℕ)) (line : ℕ) (r : IllTyped) : Type 0 where
  pub word : Bor Name
  pub other : ℕ
  pub is : r ≡ reason.Repeated word other
  pub both : AreBothIn names (word.now, other) (word.now, line)

-- the reason is correct wherever this name repeats one of these earlier names
abbrev pub IsRepeatedOf : List Declared → Name → IllTyped → Type 0
IsRepeatedOf earlier x r =
    (names : List (Name × ℕ)) → (line : ℕ) →
    ((other : ℕ) → Contains {X = Name × ℕ} (map (λ d. (d.name, d.line)) earlier) (x, other) → AreBothIn names (x, other) (x, line)) →
    IsRepeatedIn names line r

-- the reason is correct for each line in which this name occurs, if it also occurs in this other line
abbrev pub IsRepeating : Name → (other : ℕ) → IllTyped → Type 0
IsRepeating x other r =
    (names : List (Name × ℕ)) → (line : ℕ) → AreBothIn names (x, other) (x, line) → IsRepeatedIn names line r

-- a function or a reducer in this line has the name of another one
abbrev pub IsRepeated : Program → (line : ℕ) → IllTyped → Type 0
IsRepeated program = IsRepeatedIn (functions_named program.functions ++ reducers_named program.reducers)

-- two parameters have the same name
abbrev pub IsTwice : List Param → IllTyped → Type 0
IsTwice params (reason.ParameterTwice word) = AreBothIn (param_names params) word.now word.now
IsTwice params _ = ⊥

-- two parameters have the same name, or a parameter has the name of a function or a reducer
pub data IsWrongParams (program : Program) (params : List Param) (r : IllTyped) : Type 0 where
  AreAlike : IsTwice params r → IsWrongParams program params r
  IsGlobal : IsNotNewIn program [] (param_names params) r → IsWrongParams program params r

-- the name of each parameter, and whether it is an array
abbrev pub are_arrays : List Param → List (Name × Bool)
are_arrays params = map named_array params

-- the function is main, and it returns nothing or takes an array
abbrev pub IsWrongMain : Function → IllTyped → Type 0
IsWrongMain f reason.MainGivesNothing = (same_name f.name main_name ≡ true) × (f.gives_int ≡ false)
IsWrongMain f (reason.MainTakesArray word) =
    (same_name f.name main_name ≡ true) × Contains (are_arrays f.params) (word.now, true)
IsWrongMain f _ = ⊥

-- the function returns an integer, and it may end without a return
abbrev pub MayEnd : Function → IllTyped → Type 0
MayEnd f (reason.MayNotReturn word) = (word.now ≡ f.name) × (f.gives_int ≡ true) × (block_returns f.body ≡ false)
MayEnd f _ = ⊥

-- the head of a function breaks a rule
pub data IsWrongFunction (program : Program) (f : Function) (r : IllTyped) : Type 0 where
  OfParams : IsWrongParams program f.params r → IsWrongFunction program f r
  OfReturns : MayEnd f r → IsWrongFunction program f r
  OfMain : IsWrongMain f r → IsWrongFunction program f r

-- the first statement of the block is in this line
abbrev pub BeginsAt : ℕ → Block → Type 0
BeginsAt line End = ⊥
BeginsAt line (Then first s b) = first ≡ line

-- a statement follows, in this line, a statement that surely returns
abbrev pub IsNeverReached : StmtContext → IllTyped → Type 0
IsNeverReached s (reason.NeverReached line) = (surely_returns s.stmt ≡ true) × BeginsAt line s.behind
IsNeverReached s _ = ⊥

-- a statement breaks a rule in its context, or the statements after it are never reached
pub data IsWrongAt (program : Program) (s : StmtContext) (r : IllTyped) : Type 0 where
  Breaks : IsBroken program s.returns s.locals s.stmt r → IsWrongAt program s r
  Ends : IsNeverReached s r → IsWrongAt program s r

-- one of these statements, in this line, breaks a rule
pub record BreaksRuleAmong (program : Program) (line : ℕ) (statements : List StmtContext) (r : IllTyped) : Type 0 where
  pub statement : StmtContext
  pub there : Contains statements statement
  pub at_line : statement.line ≡ line
  pub wrong : IsWrongAt program statement r

-- the head of a function or one of its statements, in this line, breaks a rule
pub data BreaksRuleIn (program : Program) (line : ℕ) (f : Function) (r : IllTyped) : Type 0 where
  OfHead : f.line ≡ line → IsWrongFunction program f r → BreaksRuleIn program line f r
  OfStatement : BreaksRuleAmong program line (statements_of f) r → BreaksRuleIn program line f r

-- the line breaks a rule of names and types for this reason
pub data BreaksRule (program : Program) (line : ℕ) (r : IllTyped) : Type 0 where
  OfProgram : line ≡ 1 → IsNoMain program r → BreaksRule program line r
  OfNames : IsRepeated program line r → BreaksRule program line r
  OfFunction : (f : Function) → Contains program.functions f → BreaksRuleIn program line f r → BreaksRule program line r
