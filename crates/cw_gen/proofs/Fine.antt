-- The conditions under which the code of a lowered program is correct.
use Rattle.std.specs.Prelude.{◌≡◌, ◌++◌, suc, map, not, ℕ, ◌+◌, if◌then◌else◌, ◌-◌, ◌<◌, ◌≤◌, Bool, true, false, List, [], ◌∷◌, length, Option, Some, None, slice_get}
use Rattle.cw_model.specs.declared.syntax.NameKind.{NameKind}
use Rattle.cw_model.specs.declared.syntax.NameKind.TheVariants.{Integer, Array, Const}
use Rattle.cw_model.specs.Syntax.{is_array_param, is_array_kind, Name, Expr, Number, Variable, Element, Length, Negative, Not, Binary, Stmt, Declare, DeclareArray, Assign, AssignElement}
use Rattle.cw_model.specs.Syntax.{Reduce, Call, Start, Begin, Sync, If, IfElse, While, Scope, Cut, Region, Print, Return, Block, End, Then, Param, Function, Program}
use Rattle.cw_model.specs.Names.{same_name, is_among, differ}
use Rattle.cw_model.specs.Meaning.{function_named}
use Rattle.cw_model.specs.Typing.{Returns, Nowhere, WithInt, Alone, block_returns}
use Rattle.cw_model.specs.Ownership.{Taken, CutOf, is_taken, is_held, given, lent, own_names, Closing, Joins, Leaves, at_end}
use Rattle.cw_tree.specs.Resolved.{Lists, params_of, Locals, slot_of, with_array, locals_after, locals_of}
use Rattle.cw_loops.specs.Slotted.{slotted_arguments, slotted_block}
use Rattle.cw_model.specs.declared.syntax.CallKind.{CallKind}
use Rattle.cw_model.specs.Sites.{Of}
use Rattle.cw_code.specs.Code.{CodeSite}
use Rattle.cw_gen.specs.Emit.{Tables, first_list, whole_list, half_list, passed_in, lent_in, ints_in_block, arrays_in_block}
use Rattle.cw_gen.specs.Marks.{Marks, array_at, marks_of}
use Rattle.cw_gen.proofs.Marked.{IsOwn}
use Rattle.cw_gen.proofs.HeldNames.{held_after, held_after_all, has_no_half_in}
use Rattle.cw_model.specs.Answers.{main_name}
use Rattle.std.specs.List.{list_all, list_any}
use Rattle.cw_code.specs.Fits.{are_apart}

-- a known name that is not taken
pub record IsUsable (names : List Name) (taken : Taken) (x : Name) : Type 0 where
  pub declared : is_among x names ≡ true
  pub free : is_taken taken x ≡ false

-- an array that may also be written: no spawn reads it, and it is not a read-only parameter
pub record IsWritable (marks : Marks) (names : List Name) (taken : Taken) (x : Name) : Type 0 where
  pub usable : IsUsable names taken x
  pub loose : is_held taken x ≡ false
  pub own : IsOwn marks (slot_of x names)

-- an expression uses only known integers and arrays that are not taken
abbrev pub ExprFine : Locals → Taken → Expr → Type 0
ExprFine locals taken (Number n) = Unit {0}
ExprFine locals taken (Variable x) = IsUsable locals.ints taken x
ExprFine locals taken (Element a e) = IsUsable locals.arrays taken a × ExprFine locals taken e
ExprFine locals taken (Length a) = IsUsable locals.arrays taken a
ExprFine locals taken (Negative e) = ExprFine locals taken e
ExprFine locals taken (Not e) = ExprFine locals taken e
ExprFine locals taken (Binary operator d e) = ExprFine locals taken d × ExprFine locals taken e

-- the expression is not the name of an array
abbrev pub NoArray : Locals → Expr → Type 0
NoArray locals (Variable x) = is_among x locals.arrays ≡ false
NoArray locals _ = Unit {0}

-- an argument for a parameter of this kind: an integer, an array that may be written, or an array that is only read
abbrev pub ArgFine : NameKind → Marks → Locals → Taken → Expr → Type 0
ArgFine Integer marks locals taken e = ExprFine locals taken e × NoArray locals e
ArgFine Array marks locals taken (Variable a) = IsWritable marks locals.arrays taken a
ArgFine Array marks locals taken _ = ⊥
ArgFine Const marks locals taken (Variable a) = IsUsable locals.arrays taken a
ArgFine Const marks locals taken _ = ⊥

-- the expression is the name of an array
abbrev pub ArrayAlone : Locals → Expr → Type 0
ArrayAlone locals (Variable a) = is_among a locals.arrays ≡ true
ArrayAlone locals _ = ⊥

-- an integer or an array as an argument, whether or not it may be written
abbrev pub ArgKept : Bool → Locals → Taken → Expr → Type 0
ArgKept false locals taken e = ExprFine locals taken e × NoArray locals e
ArgKept true locals taken e = ArrayAlone locals e

pub given_alone : (marks : Marks) (locals : Locals) (taken : Taken) (e : Expr) → ArgFine Array marks locals taken e → ArrayAlone locals e
given_alone marks locals taken (Variable a) h = h.usable.declared
given_alone marks locals taken _ h = absurd h

pub read_alone : (marks : Marks) (locals : Locals) (taken : Taken) (e : Expr) → ArgFine Const marks locals taken e → ArrayAlone locals e
read_alone marks locals taken (Variable a) h = h.declared
read_alone marks locals taken _ h = absurd h

pub arg_kept : (k : NameKind) (marks : Marks) (locals : Locals) (taken : Taken) (e : Expr) → ArgFine k marks locals taken e → ArgKept (is_array_kind k) locals taken e
arg_kept Integer marks locals taken e h = h
arg_kept Array marks locals taken e h = given_alone marks locals taken e h
arg_kept Const marks locals taken e h = read_alone marks locals taken e h

-- one argument for each parameter
abbrev pub ArgsFine : Marks → Locals → Taken → List Param → List Expr → Type 0
ArgsFine marks locals taken [] [] = Unit {0}
ArgsFine marks locals taken (p ∷ ps) (e ∷ es) = ArgFine p.kind marks locals taken e × ArgsFine marks locals taken ps es
ArgsFine marks locals taken _ _ = ⊥

-- the target of a result fits a function that returns one
abbrev pub TargetFine : Locals → Taken → Function → Option Name → Type 0
TargetFine locals taken f None = Unit {0}
TargetFine locals taken f (Some x) = IsUsable locals.ints taken x × (f.gives_int ≡ true)

-- there is a function with this name
abbrev pub is_function : Name → List Function → Bool
is_function name [] = false
is_function name (f ∷ fs) = if same_name name f.name then true else is_function name fs

-- the expression of a return fits
abbrev pub ReturnFine : Returns → Locals → Taken → Option Expr → Type 0
ReturnFine WithInt locals taken (Some e) = ExprFine locals taken e
ReturnFine Alone locals taken None = Unit {0}
ReturnFine _ locals taken _ = ⊥

-- a name is found at its index
abbrev pub IsListed : List Name → Name → Type 0
IsListed names x = slice_get names (slot_of x names) ≡ Some x

-- none of these names is held at the end of the block
abbrev pub FreeAtEnd : List Function → (depth : ℕ) → Closing → Taken → List Name → Block → Type 0
FreeAtEnd fs depth closing taken own b = (x : Name) → is_among x own ≡ true → is_held (at_end closing depth (held_after_all fs depth b taken)) x ≡ false

-- no name of the block is held at its end
abbrev pub EndsFree : List Function → (depth : ℕ) → Closing → Taken → Block → Type 0
EndsFree fs depth closing taken b = FreeAtEnd fs depth closing taken (own_names b) b

-- the numbers of slots of a call, the arrays among its parameters, and the marks of those that are only read
pub record Room : Type 0 where
  pub ints : ℕ
  pub arrays : ℕ
  pub given : List Name
  pub marks : Marks

-- the second list begins with the first
pub record Begins (given names : List Name) : Type 0 where
  pub more : List Name
  pub is : names ≡ given ++ more

-- the list of a call site is this one
abbrev pub IsPassed : {A : Type 0} → List (List A) → (site : ℕ) → List A → Type 0
IsPassed passed site slots = slice_get passed site ≡ Some slots

-- there is a call site with this number, this kind and this function
pub record HasSite (sites : List CodeSite) (kind : CallKind) (number function : ℕ) : Type 0 where
  pub site : CodeSite
  pub positive : 0 < number
  pub there : slice_get sites (number - 1) ≡ Some site
  pub numbered : site.told.number ≡ number
  pub of_kind : site.told.kind ≡ Of kind
  pub calls : site.function ≡ function

-- each of these names is known and not taken
abbrev pub AllUsable : List Name → Taken → List Name → Type 0
AllUsable names taken [] = Unit {0}
AllUsable names taken (x ∷ xs) = IsUsable names taken x × AllUsable names taken xs

-- each of these names is an array that may be written
abbrev pub AllWritable : Marks → List Name → Taken → List Name → Type 0
AllWritable marks names taken [] = Unit {0}
AllWritable marks names taken (x ∷ xs) = IsWritable marks names taken x × AllWritable marks names taken xs

-- no array is both given away and read by a call
abbrev pub NotBoth : (given read : List Name) → Type 0
NotBoth given read = list_any (λ a. is_among a given) read ≡ false

-- the listed parameters of a name are the parameters of its function
abbrev pub IsCallee : Lists → List Function → Name → Type 0
IsCallee lists fs f = params_of lists f ≡ (function_named f fs).params

-- integers precede arrays among the parameters
abbrev pub ints_first : List Param → Bool
ints_first [] = true
ints_first (p ∷ ps) = if is_array_param p then list_all (λ q. is_array_param q) ps else ints_first ps

-- the marks of a function with these parameters
abbrev pub marks_for : List Param → Marks
marks_for ps = marks_of (map (λ p. p.kind) ps)

-- the function of a loop takes the two ends of a range, then the captured integers, and these arrays, by name
pub record TakesRange (f : Function) (captured over : List Name) : Type 0 where
  pub ints : length (locals_of f.params).ints ≡ suc (suc (length captured))
  pub arrays : (locals_of f.params).arrays ≡ over
  pub gives : f.gives_int ≡ false
  pub order : ints_first f.params ≡ true
  pub unread : marks_for f.params ≡ []

-- the parts of a cut are new names, and there is a slot for each
pub record PartsFine (marks : Marks) (room : Room) (locals : Locals) (l r : Name) : Type 0 where
  pub left : is_among l locals.arrays ≡ false
  pub right : is_among r (locals.arrays ++ l ∷ []) ≡ false
  pub there : suc (suc (length locals.arrays)) ≤ room.arrays
  pub behind : length marks ≤ length locals.arrays
  pub begins : Begins room.given locals.arrays

abbrev mutual
  -- the conditions on a statement at this depth of sync blocks, with these known and held names, in a call with this
  -- room
  pub StmtFine : List Function → Lists → (tables : Tables) → Marks → Room → Returns → (depth : ℕ) → Locals → Taken → Stmt → Type 0
  StmtFine fs lists tables marks room returns depth locals taken (Declare x e) = (length locals.ints < room.ints) × ExprFine locals taken e
  StmtFine fs lists tables marks room returns depth locals taken (DeclareArray a e) =
      (length locals.arrays < room.arrays) × ExprFine locals taken e × Begins room.given locals.arrays
      × (length marks ≤ length locals.arrays)
  StmtFine fs lists tables marks room returns depth locals taken (AssignElement a i e) =
      IsWritable marks locals.arrays taken a × ExprFine locals taken i × ExprFine locals taken e
  StmtFine fs lists tables marks room returns depth locals taken (Assign x e) = IsUsable locals.ints taken x × ExprFine locals taken e
  StmtFine fs lists tables marks room returns depth locals taken (Reduce how s e) = IsListed lists.reducers s × ExprFine locals taken e
  StmtFine fs lists tables marks room returns depth locals taken (Call kind site target f es) =
      (is_function f fs ≡ true)
      × TargetFine locals taken (function_named f fs) target
      × ArgsFine marks locals taken (function_named f fs).params es
      × (differ (given fs f es) ≡ true)
      × IsPassed tables.passed site (passed_in marks (slotted_arguments locals (function_named f fs).params es))
      × HasSite tables.sites kind site (slot_of f lists.functions)
      × IsPassed tables.lent site (lent_in marks (slotted_arguments locals (function_named f fs).params es))
      × NotBoth (given fs f es) (lent fs f es)
      × IsCallee lists fs f
  StmtFine fs lists tables marks room returns depth locals taken (Start kind f es) =
      (is_function f fs ≡ true)
      × ((function_named f fs).gives_int ≡ false)
      × ArgsFine marks locals taken (function_named f fs).params es
      × (differ (given fs f es) ≡ true)
      × IsPassed tables.passed (half_list (first_list tables.sites) kind (slot_of f lists.functions)) (passed_in marks (slotted_arguments locals (function_named f fs).params es))
      × (marks_for (function_named f fs).params ≡ [])
      × IsCallee lists fs f
  StmtFine fs lists tables marks room returns depth locals taken (Begin f from to captured over) =
      (is_function f fs ≡ true)
      × TakesRange (function_named f fs) captured over
      × ExprFine locals taken from
      × ExprFine locals taken to
      × AllUsable locals.ints taken captured
      × AllWritable marks locals.arrays taken over
      × (differ over ≡ true)
      × IsPassed tables.passed (whole_list (first_list tables.sites) (slot_of f lists.functions)) (map (array_at marks) (map (λ a. slot_of a locals.arrays) over))
  StmtFine fs lists tables marks room returns depth locals taken Sync = Unit {0}
  StmtFine fs lists tables marks room returns depth locals taken (If e b) =
      ExprFine locals taken e × BlockFine fs lists tables marks room returns depth locals taken b × EndsFree fs depth Leaves taken b
  StmtFine fs lists tables marks room returns depth locals taken (IfElse e b c) =
      ExprFine locals taken e
      × (BlockFine fs lists tables marks room returns depth locals taken b × EndsFree fs depth Leaves taken b)
      × (BlockFine fs lists tables marks room returns depth locals taken c × EndsFree fs depth Leaves taken c)
  StmtFine fs lists tables marks room returns depth locals taken (While e b) =
      let all = held_after fs depth (While e b) taken in
      ExprFine locals all e × BlockFine fs lists tables marks room returns depth locals all b × EndsFree fs depth Leaves all b × (has_no_half_in b ≡ true)
  StmtFine fs lists tables marks room returns depth locals taken (Scope b) =
      BlockFine fs lists tables marks room Nowhere (depth + 1) locals taken b × EndsFree fs (depth + 1) Joins taken b
  StmtFine fs lists tables marks room returns depth locals taken (Cut a e l r b) =
      let inner = (a, CutOf) ∷ taken in
      IsWritable marks locals.arrays taken a
      × ExprFine locals taken e
      × PartsFine marks room locals l r
      × BlockFine fs lists tables marks room Nowhere (depth + 1) (with_array r (with_array l locals)) inner b
      × FreeAtEnd fs (depth + 1) Joins inner (l ∷ r ∷ own_names b) b
  StmtFine fs lists tables marks room returns depth locals taken (Region tag b) =
      IsListed lists.tags tag × BlockFine fs lists tables marks room Nowhere (depth + 1) locals taken b × EndsFree fs (depth + 1) Joins taken b
  StmtFine fs lists tables marks room returns depth locals taken (Print e) = ExprFine locals taken e
  StmtFine fs lists tables marks room returns depth locals taken (Return e) = ReturnFine returns locals taken e × Begins room.given locals.arrays
  StmtFine fs lists tables marks room returns depth locals taken _ = ⊥

  -- the conditions on the statements of a block
  pub BlockFine : List Function → Lists → (tables : Tables) → Marks → Room → Returns → (depth : ℕ) → Locals → Taken → Block → Type 0
  BlockFine fs lists tables marks room returns depth locals taken End = Unit {0}
  BlockFine fs lists tables marks room returns depth locals taken (Then line s b) =
      StmtFine fs lists tables marks room returns depth locals taken s
      × BlockFine fs lists tables marks room returns depth (locals_after locals s) (held_after fs depth s taken) b

-- the slots of a call of a function: one for each parameter and for each name that its text declares
abbrev pub room_of : Lists → Function → Room
room_of lists f =
    let locals = locals_of f.params in
    let body = slotted_block lists locals f.body in
    record {
      ints = ints_in_block (length locals.ints) body;
      arrays = arrays_in_block (length locals.arrays) body;
      given = locals.arrays;
      marks = marks_of (map (λ p. p.kind) f.params);
    }

-- the conditions on a function
pub record FunctionFine (fs : List Function) (lists : Lists) (tables : Tables) (f : Function) : Type 0 where
  pub apart : differ (map (λ p. p.name) f.params) ≡ true
  pub room : length (locals_of f.params).ints ≤ (room_of lists f).ints
  pub array_room : length (locals_of f.params).arrays ≤ (room_of lists f).arrays
  pub body : BlockFine fs lists tables (marks_for f.params) (room_of lists f) (if f.gives_int then WithInt else Alone) 1 (locals_of f.params) [] f.body
  pub returns : f.gives_int ≡ true → block_returns f.body ≡ true

-- each of these functions satisfies the conditions
abbrev pub FunctionsFine : List Function → Lists → Tables → List Function → Type 0
FunctionsFine all lists tables [] = Unit {0}
FunctionsFine all lists tables (f ∷ fs) = FunctionFine all lists tables f × FunctionsFine all lists tables fs

-- the conditions on a lowered program with these lists and tables
pub record ProgramFine (program : Program) (lists : Lists) (tables : Tables) : Type 0 where
  pub functions : FunctionsFine program.functions lists tables program.functions
  pub names : lists.functions ≡ map (λ f. f.name) program.functions
  pub main : is_function main_name program.functions ≡ true
  pub gives : (function_named main_name program.functions).gives_int ≡ true
  pub ints : list_all (λ p. not (is_array_param p)) (function_named main_name program.functions).params ≡ true
  pub reducers : are_apart lists.reducers ≡ true
