-- Names, kinds and returns: the lines of a program that break a rule.
use Rattle.std.specs.Prelude.{◌≡◌, ℕ, Bool, true, false, not, ◌&&◌, ◌||◌, nat_le, if◌then◌else◌, List, [], ◌∷◌, ◌++◌}
use Rattle.std.specs.Prelude.{Option, Some, None, flat_map, map}
use Rattle.std.specs.List.{list_any, list_all}
use Rattle.cw_model.specs.declared.limits.TheConstants.{MOST_GRAIN}
use Rattle.cw_model.specs.Lines.{unless}
use Rattle.cw_model.specs.declared.syntax.Reduction.{Reduction}
use Rattle.cw_model.specs.declared.syntax.Reduction.TheVariants.{Sum, Max}
use Rattle.cw_model.specs.declared.syntax.NameKind.{NameKind}
use Rattle.cw_model.specs.declared.syntax.NameKind.TheVariants.{Integer, Array, Const}
use Rattle.cw_model.specs.Syntax.{Name, Expr, Number, Variable, Element, Length, Negative, Not, Binary, Stmt, Declare}
use Rattle.cw_model.specs.Syntax.{DeclareArray, Assign, AssignElement, Reduce, Call, Start, Begin, Sync, If, IfElse}
use Rattle.cw_model.specs.Syntax.{While, For, Scope, Cut, Region, Print, Return, Block, End, Then, Param, Function}
use Rattle.cw_model.specs.Syntax.{Reducer, Program, is_array_kind, is_written_kind, is_array_param}
use Rattle.cw_model.specs.Names.{same_name, is_among, differ}
use Rattle.cw_model.specs.Answers.{main_name}

-- the local names in scope with their kinds, the newest first
abbrev pub Known : Type 0
Known = List (Name × NameKind)

-- the newest declaration of a name has a kind that satisfies `such`
abbrev pub is_known : Name → (NameKind → Bool) → Known → Bool
is_known x such [] = false
is_known x such (k ∷ ks) = if same_name x k.0 then such k.1 else is_known x such ks

-- the name is an integer in scope
abbrev pub is_int : Known → Name → Bool
is_int known x = is_known x (λ kind. not (is_array_kind kind)) known

-- the name is an array in scope
abbrev pub is_array : Known → Name → Bool
is_array known a = is_known a is_array_kind known

-- the name is a writable array in scope
abbrev pub is_writable : Known → Name → Bool
is_writable known a = is_known a is_written_kind known

-- the names of functions and reducers
abbrev pub globals : Program → List Name
globals program = map (λ f. f.name) program.functions ++ map (λ r. r.name) program.reducers

-- the name may be declared: it is not in scope, and no function or reducer has it
abbrev pub is_new : Program → Known → Name → Bool
is_new program known x = not (is_among x (map (λ k. k.0) known) || is_among x (globals program))

-- the expression is well typed, with an integer value
abbrev pub is_fine : Known → Expr → Bool
is_fine known (Number n) = true
is_fine known (Variable x) = is_int known x
is_fine known (Element a e) = is_array known a && is_fine known e
is_fine known (Length a) = is_array known a
is_fine known (Negative e) = is_fine known e
is_fine known (Not e) = is_fine known e
is_fine known (Binary operator d e) = is_fine known d && is_fine known e

-- the argument fits the parameter: an integer expression, a writable array, or any array for a read-only parameter
abbrev pub is_argument : Known → NameKind → Expr → Bool
is_argument known Integer e = is_fine known e
is_argument known Array (Variable a) = is_writable known a
is_argument known Const (Variable a) = is_array known a
is_argument known _ _ = false

-- there is one fitting argument for each parameter
abbrev pub are_arguments : Known → List Param → List Expr → Bool
are_arguments known [] [] = true
are_arguments known (p ∷ ps) (e ∷ es) = is_argument known p.kind e && are_arguments known ps es
are_arguments known _ _ = false

-- the first function with a name, if there is one
abbrev pub called : Name → List Function → Option Function
called f [] = None
called f (g ∷ gs) = if same_name f g.name then Some g else called f gs

-- the target of a call, if it has one, is an integer, and the function returns one
abbrev pub is_target : Known → Function → Option Name → Bool
is_target known f None = true
is_target known f (Some x) = is_int known x && f.gives_int

-- the call is of a declared function other than `main`, with a fitting target and fitting arguments
abbrev pub is_call : Known → Option Name → Option Function → List Expr → Bool
is_call known target None es = false
is_call known target (Some f) es =
    is_target known f target && are_arguments known f.params es && not (same_name f.name main_name)

-- the first reducer with a name, if there is one
abbrev pub reducer_called : Name → List Reducer → Option Reducer
reducer_called s [] = None
reducer_called s (r ∷ rs) = if same_name s r.name then Some r else reducer_called s rs

-- two reductions are equal
abbrev pub same_reduction : Reduction → Reduction → Bool
same_reduction Sum Sum = true
same_reduction Max Max = true
same_reduction _ _ = false

-- there is a reducer, and it has this reduction
abbrev pub reduces_so : Reduction → Option Reducer → Bool
reduces_so how None = false
reduces_so how (Some r) = same_reduction how r.how

-- a reducer of the program has this name and this reduction
abbrev pub is_reducer : Program → Reduction → Name → Bool
is_reducer program how s = reduces_so how (reducer_called s program.reducers)

abbrev mutual
  -- the statement surely returns: it is a return, or an if whose two branches surely return
  pub surely_returns : Stmt → Bool
  surely_returns (Return e) = true
  surely_returns (IfElse e b c) = block_returns b && block_returns c
  surely_returns _ = false

  -- the last statement of the block surely returns
  pub block_returns : Block → Bool
  block_returns End = false
  block_returns (Then line s End) = surely_returns s
  block_returns (Then line s b) = block_returns b

-- which returns are allowed here: none, returns with an integer, or returns without a value
pub data Returns : Type 0 where
  Nowhere : Returns
  WithInt : Returns
  Alone : Returns

-- the return is allowed here
abbrev pub may_return : Returns → Known → Option Expr → Bool
may_return WithInt known (Some e) = is_fine known e
may_return Alone known None = true
may_return _ known _ = false

-- the names in scope after a statement
abbrev pub declares : Stmt → Known → Known
declares (Declare x e) known = (x, Integer) ∷ known
declares (DeclareArray a e) known = (a, Array) ∷ known
declares _ known = known

-- a well-formed head of a loop: its three names are one new name, its bounds are integers, its grain is in range, and
-- its arrays are writable
abbrev pub is_head_of_loop : Program → Known → (variable tested stepped : Name) → (from to : Expr) → (grain : ℕ)
    → (over : List Name) → Bool
is_head_of_loop program known x y z from to grain over =
    is_new program known x && same_name y x && same_name z x && is_fine known from && is_fine known to
    && nat_le 1 grain && nat_le grain MOST_GRAIN && list_all (λ a. is_writable known a) over

-- a well-formed cut: of a writable array, at an integer, into two new and distinct names
abbrev pub is_cut : Program → Known → (a : Name) → Expr → (l r : Name) → Bool
is_cut program known a e l r =
    is_writable known a && is_fine known e && is_new program known l && is_new program known r && not (same_name l r)

-- the block has no statement
abbrev pub ends_block : Block → Bool
ends_block End = true
ends_block (Then line s b) = false

abbrev mutual
  -- the lines of the statements that break a rule, in a statement of this line
  pub faults_in : Program → Returns → Known → ℕ → Stmt → List ℕ
  faults_in program returns known line (Declare x e) = unless (is_fine known e && is_new program known x) line
  faults_in program returns known line (DeclareArray a e) = unless (is_fine known e && is_new program known a) line
  faults_in program returns known line (Assign x e) = unless (is_int known x && is_fine known e) line
  faults_in program returns known line (AssignElement a i e) =
      unless (is_writable known a && is_fine known i && is_fine known e) line
  faults_in program returns known line (Reduce how s e) = unless (is_reducer program how s && is_fine known e) line
  faults_in program returns known line (Call kind site target f es) =
      unless (is_call known target (called f program.functions) es) line
  -- a source has no `Start` and no `Begin`
  faults_in program returns known line (Start kind callee es) = line ∷ []
  faults_in program returns known line (Begin callee from to captured over) = line ∷ []
  faults_in program returns known line Sync = []
  faults_in program returns known line (If e b) =
      unless (is_fine known e) line ++ faults_in_block program returns known b
  faults_in program returns known line (IfElse e b c) =
      unless (is_fine known e) line
      ++ (faults_in_block program returns known b ++ faults_in_block program returns known c)
  faults_in program returns known line (While e b) =
      unless (is_fine known e) line ++ faults_in_block program returns known b
  faults_in program returns known line (For x y z from to grain over b) =
      unless (is_head_of_loop program known x y z from to grain over) line
      ++ faults_in_block program Nowhere ((x, Integer) ∷ known) b
  faults_in program returns known line (Scope b) = faults_in_block program Nowhere known b
  faults_in program returns known line (Cut a e l r b) =
      unless (is_cut program known a e l r) line ++ faults_in_block program Nowhere ((r, Array) ∷ (l, Array) ∷ known) b
  faults_in program returns known line (Region tag b) = faults_in_block program Nowhere known b
  faults_in program returns known line (Print e) = unless (is_fine known e) line
  faults_in program returns known line (Return e) = unless (may_return returns known e) line

  -- the lines of the statements that break a rule in a block; no statement may follow one that surely returns
  pub faults_in_block : Program → Returns → Known → Block → List ℕ
  faults_in_block program returns known End = []
  faults_in_block program returns known (Then line s b) =
      faults_in program returns known line s
      ++ (unless (not (surely_returns s) || ends_block b) line ++ faults_in_block program returns (declares s known) b)

-- the names in scope at the start of a body: its parameters, the last one first
abbrev pub known_of : List Param → Known
known_of [] = []
known_of (p ∷ ps) = known_of ps ++ (p.name, p.kind) ∷ []

-- the head is well formed: distinct new parameter names, an int function surely returns, and `main` is int without
-- arrays
abbrev pub is_head : Program → Function → Bool
is_head program f =
    differ (map (λ p. p.name) f.params) && not (list_any (λ p. is_among p.name (globals program)) f.params)
    && (not f.gives_int || block_returns f.body)
    && (not (same_name f.name main_name) || (f.gives_int && not (list_any (λ p. is_array_param p) f.params)))

-- the lines that break a rule in a function
abbrev pub faults_of : Program → Function → List ℕ
faults_of program f =
    unless (is_head program f) f.line
    ++ faults_in_block program (if f.gives_int then WithInt else Alone) (known_of f.params) f.body

-- the lines of names that occurred earlier in the list
abbrev pub repeated : List (Name × ℕ) → List Name → List ℕ
repeated [] earlier = []
repeated (d ∷ ds) earlier = unless (not (is_among d.0 earlier)) d.1 ++ repeated ds (d.0 ∷ earlier)

-- for a reducer and each function with its name, the later of the two lines
abbrev pub of_both_kinds : List (Name × ℕ) → (Name × ℕ) → List ℕ
of_both_kinds [] d = []
of_both_kinds (e ∷ es) d = unless (not (same_name d.0 e.0)) (if nat_le d.1 e.1 then e.1 else d.1) ++ of_both_kinds es d

-- the lines of functions and reducers whose name was declared earlier
abbrev pub repeated_names : Program → List ℕ
repeated_names program =
    let functions = map (λ f. (f.name, f.line)) program.functions in
    let reducers = map (λ r. (r.name, r.line)) program.reducers in
    repeated functions [] ++ (repeated reducers [] ++ flat_map (of_both_kinds functions) reducers)

-- all lines that break a rule; a missing `main` is a fault in line 1
abbrev pub type_faults : Program → List ℕ
type_faults program =
    unless (is_among main_name (map (λ f. f.name) program.functions)) 1
    ++ (repeated_names program ++ flat_map (faults_of program) program.functions)

-- no line breaks a rule of typing
abbrev pub IsWellTyped : Program → Type 0
IsWellTyped program = type_faults program ≡ []
