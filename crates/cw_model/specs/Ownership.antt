-- Ownership: the names taken by spawns and cuts, the names that spawns only read, and the lines that break a rule.
use Rattle.std.specs.Prelude.{◌≡◌, ℕ, ◌+◌, ◌==◌, Bool, true, false, not, ◌&&◌, ◌||◌, if◌then◌else◌, List, [], ◌∷◌}
use Rattle.std.specs.Prelude.{◌++◌, Option, Some, None, map, filter, flat_map, Contains}
use Rattle.std.specs.List.{list_any, list_all}
use Rattle.cw_model.specs.declared.syntax.CallKind.TheVariants.{Spawned}
use Rattle.cw_model.specs.Syntax.{Name, Expr, Number, Variable, Element, Length, Negative, Not, Binary, Stmt, Declare}
use Rattle.cw_model.specs.Syntax.{DeclareArray, Assign, AssignElement, Reduce, Call, Start, Begin, Sync, If, IfElse}
use Rattle.cw_model.specs.Syntax.{While, For, Scope, Cut, Region, Print, Return, Block, End, Then, Param, Function}
use Rattle.cw_model.specs.Syntax.{Program, takes_array, reads_array}
use Rattle.cw_model.specs.Names.{same_name, is_among, differ}
use Rattle.cw_model.specs.Meaning.{function_named}
use Rattle.cw_model.specs.Lines.{unless}
use Rattle.cw_model.specs.Typing.{block_returns}

-- what holds a name: a spawn that takes it, a spawn that only reads it (both with the nesting depth of their sync
-- block), or a cut
pub data Holder : Type 0 where
  SpawnIn : (depth : ℕ) → Holder
  ReaderIn : (depth : ℕ) → Holder
  CutOf : Holder

-- the names that are held, each with its holder
abbrev pub Taken : Type 0
Taken = List (Name × Holder)

-- the holder only reads the name
abbrev pub is_reader : Holder → Bool
is_reader (SpawnIn d) = false
is_reader (ReaderIn d) = true
is_reader CutOf = false

-- the name is taken: it has a holder that does not only read it
abbrev pub is_taken : Taken → Name → Bool
is_taken taken x = is_among x (map (λ t. t.0) (filter (λ t. not (is_reader t.1)) taken))

-- the name is held: it is taken, or frozen by a spawn that reads it
abbrev pub is_held : Taken → Name → Bool
is_held taken x = is_among x (map (λ t. t.0) taken)

-- the holder is a spawn of the sync block at this depth
abbrev pub is_spawn_in : ℕ → Holder → Bool
is_spawn_in depth (SpawnIn d) = d == depth
is_spawn_in depth (ReaderIn d) = d == depth
is_spawn_in depth CutOf = false

-- a join releases the names that the spawns of its sync block hold
abbrev pub freed : ℕ → Taken → Taken
freed depth taken = filter (λ t. not (is_spawn_in depth t.1)) taken

-- the entry is a cut of this array
abbrev pub is_cut_of : Name → (Name × Holder) → Bool
is_cut_of a (x, SpawnIn d) = false
is_cut_of a (x, ReaderIn d) = false
is_cut_of a (x, CutOf) = same_name a x

-- the end of a cut releases its array
abbrev pub cut_ended : Name → Taken → Taken
cut_ended a taken = filter (λ t. not (is_cut_of a t)) taken

-- the end of a block removes the names that it declared
abbrev pub without : List Name → Taken → Taken
without names taken = filter (λ t. not (is_among t.0 names)) taken

-- all names in an expression
abbrev pub names_in : Expr → List Name
names_in (Number n) = []
names_in (Variable x) = x ∷ []
names_in (Element a e) = a ∷ names_in e
names_in (Length a) = a ∷ []
names_in (Negative e) = names_in e
names_in (Not e) = names_in e
names_in (Binary operator d e) = names_in d ++ names_in e

-- the arrays that a call takes as writable arguments
abbrev pub arrays_given : List Param → List Expr → List Name
arrays_given [] es = []
arrays_given (p ∷ ps) [] = []
arrays_given (p ∷ ps) (e ∷ es) = (if takes_array p then names_in e else []) ++ arrays_given ps es

-- the arrays that a call of the function `f` takes
abbrev pub given : List Function → Name → List Expr → List Name
given fs f es = arrays_given (function_named f fs).params es

-- the arrays that a call takes as read-only arguments
abbrev pub arrays_lent : List Param → List Expr → List Name
arrays_lent [] es = []
arrays_lent (p ∷ ps) [] = []
arrays_lent (p ∷ ps) (e ∷ es) = (if reads_array p then names_in e else []) ++ arrays_lent ps es

-- the arrays that a call of the function `f` only reads
abbrev pub lent : List Function → Name → List Expr → List Name
lent fs f es = arrays_lent (function_named f fs).params es

-- the target of a call, if there is one, as a list
abbrev pub target_names : Option Name → List Name
target_names None = []
target_names (Some x) = x ∷ []

-- a spawn takes its target and its writable arrays
abbrev pub taken_by : ℕ → List Name → Taken → Taken
taken_by depth xs taken = map (λ x. (x, SpawnIn depth)) xs ++ taken

-- a spawn freezes the arrays that it only reads
abbrev pub frozen_by : ℕ → List Name → Taken → Taken
frozen_by depth xs taken = map (λ x. (x, ReaderIn depth)) xs ++ taken

-- a branch that surely returns holds nothing after it
abbrev pub where_it_goes_on : Bool → Taken → Taken
where_it_goes_on returns taken = if returns then [] else taken

-- the names that the statements of a block declare, without the names of its inner blocks
abbrev pub own_names : Block → List Name
own_names End = []
own_names (Then line (Declare x e) b) = x ∷ own_names b
own_names (Then line (DeclareArray a e) b) = a ∷ own_names b
own_names (Then line s b) = own_names b

abbrev mutual
  -- the names that are held after a statement at this nesting depth of sync blocks
  pub taken_after : List Function → ℕ → Stmt → Taken → Taken
  taken_after fs depth (Call Spawned site target f es) taken =
      frozen_by depth (lent fs f es) (taken_by depth (target_names target ++ given fs f es) taken)
  taken_after fs depth Sync taken = freed depth taken
  taken_after fs depth (Return e) taken = freed depth taken
  taken_after fs depth (If e b) taken =
      where_it_goes_on (block_returns b) (without (own_names b) (taken_after_all fs depth b taken)) ++ taken
  taken_after fs depth (IfElse e b c) taken =
      where_it_goes_on (block_returns b) (without (own_names b) (taken_after_all fs depth b taken))
      ++ where_it_goes_on (block_returns c) (without (own_names c) (taken_after_all fs depth c taken))
  -- the names held before, and those that one iteration leaves held; further iterations add no name
  taken_after fs depth (While e b) taken =
      taken ++ where_it_goes_on (block_returns b) (without (own_names b) (taken_after_all fs depth b taken))
  taken_after fs depth (Scope b) taken =
      freed (depth + 1) (without (own_names b) (taken_after_all fs (depth + 1) b taken))
  taken_after fs depth (Region tag b) taken =
      freed (depth + 1) (without (own_names b) (taken_after_all fs (depth + 1) b taken))
  taken_after fs depth (Cut a e l r b) taken =
      cut_ended a
      (freed (depth + 1) (without (l ∷ r ∷ own_names b) (taken_after_all fs (depth + 1) b ((a, CutOf) ∷ taken))))
  taken_after fs depth (For x y z from to grain over b) taken =
      freed (depth + 1) (without (x ∷ own_names b) (taken_after_all fs (depth + 1) b taken))
  taken_after fs depth _ taken = taken

  -- the names that are held after the statements of a block
  pub taken_after_all : List Function → ℕ → Block → Taken → Taken
  taken_after_all fs depth End taken = taken
  taken_after_all fs depth (Then line s b) taken = taken_after_all fs depth b (taken_after fs depth s taken)

-- the innermost enclosing loop: the names in scope at its body's start (with its variable), its variable and its
-- arrays
pub data Around : Type 0 where
  NoLoop : Around
  InLoop : (outer : List Name) (variable : Name) (over : List Name) → Around

-- the loop around, for the bounds of an inner loop, which may not use its arrays
abbrev pub for_head : Around → Around
for_head NoLoop = NoLoop
for_head (InLoop outer i over) = InLoop outer i []

-- the name was declared outside the loop's body
abbrev pub is_outer : Around → Name → Bool
is_outer NoLoop x = false
is_outer (InLoop outer i over) x = is_among x outer

-- the body of a loop may use an outer array `x` only as `x[i]`, if the loop is over `x` and `i` is its variable
abbrev pub may_index : Around → Name → Expr → Bool
may_index NoLoop a e = true
may_index (InLoop outer i over) a (Variable j) = not (is_among a outer) || (is_among a over && same_name i j)
may_index (InLoop outer i over) a _ = not (is_among a outer)

-- an expression uses outer arrays only as elements that `may_index` allows
abbrev pub keeps_loop : Around → Expr → Bool
keeps_loop around (Number n) = true
keeps_loop around (Variable x) = true
keeps_loop around (Element a e) = may_index around a e && keeps_loop around e
keeps_loop around (Length a) = not (is_outer around a)
keeps_loop around (Negative e) = keeps_loop around e
keeps_loop around (Not e) = keeps_loop around e
keeps_loop around (Binary operator d e) = keeps_loop around d && keeps_loop around e

-- none of the names is taken
abbrev pub are_free : Taken → List Name → Bool
are_free taken xs = not (list_any (λ x. is_taken taken x) xs)

-- none of the names is held
abbrev pub are_loose : Taken → List Name → Bool
are_loose taken xs = not (list_any (λ x. is_held taken x) xs)

-- none of the names was declared outside the loop's body
abbrev pub are_inner : Around → List Name → Bool
are_inner around xs = not (list_any (λ x. is_outer around x) xs)

-- the expression may be evaluated: it uses no taken name, and outer arrays only as the loop around allows
abbrev pub may_read : Around → Taken → Expr → Bool
may_read around taken e = are_free taken (names_in e) && keeps_loop around e

-- the names may be written, passed as writable or cut: they are not held, and were not declared outside the loop's
-- body
abbrev pub may_write : Around → Taken → List Name → Bool
may_write around taken xs = are_loose taken xs && are_inner around xs

-- the arrays may be passed as read-only: they were not declared outside the loop's body, and the call takes none of
-- them
abbrev pub may_lend : Around → (given lent : List Name) → Bool
may_lend around given lent = are_inner around lent && not (list_any (λ a. is_among a given) lent)

-- the names that a block has declared so far, each with its line
abbrev pub Declared : Type 0
Declared = List (Name × ℕ)

-- the lines of declarations whose names are still held
abbrev pub left_taken : Declared → Taken → List ℕ
left_taken declared taken = flat_map (λ d. unless (not (is_held taken d.0)) d.1) declared

-- the names that a block has declared after a statement in this line
abbrev pub declared_by : ℕ → Stmt → Declared → Declared
declared_by line (Declare x e) declared = (x, line) ∷ declared
declared_by line (DeclareArray a e) declared = (a, line) ∷ declared
declared_by line _ declared = declared

-- the names in scope after a statement
abbrev pub known_after : List Name → Stmt → List Name
known_after known (Declare x e) = x ∷ known
known_after known (DeclareArray a e) = a ∷ known
known_after known _ = known

-- whether the end of a block joins: a sync block joins its own spawns, another block joins nothing
pub data Closing : Type 0 where
  Joins : Closing
  Leaves : Closing

-- the names that are still held at the end of a block
abbrev pub at_end : Closing → ℕ → Taken → Taken
at_end Joins depth taken = freed depth taken
at_end Leaves depth taken = taken

abbrev mutual
  -- the lines that break a rule, in a statement of this line, for these names in scope and these held names
  pub owner_faults : List Function → Around → (known : List Name) → (depth : ℕ) → Taken → (line : ℕ) → Stmt → List ℕ
  owner_faults fs around known depth taken line (Declare x e) = unless (may_read around taken e) line
  owner_faults fs around known depth taken line (DeclareArray a e) = unless (may_read around taken e) line
  owner_faults fs around known depth taken line (Assign x e) =
      unless (may_read around taken e && may_write around taken (x ∷ [])) line
  owner_faults fs around known depth taken line (AssignElement a i e) =
      unless (may_read around taken i && may_read around taken e && are_loose taken (a ∷ []) && may_index around a i)
      line
  owner_faults fs around known depth taken line (Reduce how s e) = unless (may_read around taken e) line
  -- an array that the call takes is passed only once
  owner_faults fs around known depth taken line (Call kind site target f es) =
      unless (list_all (λ e. may_read around taken e) es
      && may_write around taken (target_names target ++ given fs f es) && differ (given fs f es)
      && may_lend around (given fs f es) (lent fs f es)) line
  -- a source has no `Start` and no `Begin`
  owner_faults fs around known depth taken line (Start kind callee es) = line ∷ []
  owner_faults fs around known depth taken line (Begin callee from to captured over) = line ∷ []
  owner_faults fs around known depth taken line Sync = []
  owner_faults fs around known depth taken line (If e b) =
      unless (may_read around taken e) line ++ owner_faults_in fs around known depth Leaves taken [] b
  owner_faults fs around known depth taken line (IfElse e b c) =
      unless (may_read around taken e) line
      ++ (owner_faults_in fs around known depth Leaves taken [] b
      ++ owner_faults_in fs around known depth Leaves taken [] c)
  -- the condition and the body are checked with the names that any number of iterations may leave held
  owner_faults fs around known depth taken line (While e b) =
      let all = taken_after fs depth (While e b) taken in
      unless (may_read around all e) line ++ owner_faults_in fs around known depth Leaves all [] b
  owner_faults fs around known depth taken line (For x y z from to grain over b) =
      unless (may_read (for_head around) taken from && may_read (for_head around) taken to
      && may_write around taken over && differ over) line
      ++ owner_faults_in fs (InLoop (x ∷ known) x over) (x ∷ known) (depth + 1) Joins taken [] b
  owner_faults fs around known depth taken line (Scope b) = owner_faults_in fs around known (depth + 1) Joins taken [] b
  owner_faults fs around known depth taken line (Cut a e l r b) =
      unless (may_read around taken e && may_write around taken (a ∷ [])) line
      ++ owner_faults_in fs around (r ∷ l ∷ known) (depth + 1) Joins ((a, CutOf) ∷ taken) [] b
  owner_faults fs around known depth taken line (Region tag b) =
      owner_faults_in fs around known (depth + 1) Joins taken [] b
  owner_faults fs around known depth taken line (Print e) = unless (may_read around taken e) line
  owner_faults fs around known depth taken line (Return None) = []
  owner_faults fs around known depth taken line (Return (Some e)) = unless (may_read around taken e) line

  -- the lines that break a rule in a block; a name that is still held at the block's end is a fault in its
  -- declaration
  pub owner_faults_in : List Function → Around → (known : List Name) → (depth : ℕ) → Closing → Taken → Declared → Block
      → List ℕ
  owner_faults_in fs around known depth closing taken declared End = left_taken declared (at_end closing depth taken)
  owner_faults_in fs around known depth closing taken declared (Then line s b) =
      owner_faults fs around known depth taken line s
      ++ owner_faults_in fs around (known_after known s) depth closing (taken_after fs depth s taken)
      (declared_by line s declared) b

-- the body of a function is a sync block, at whose start no name is held
abbrev pub owner_faults_of : List Function → Function → List ℕ
owner_faults_of fs f = owner_faults_in fs NoLoop (map (λ p. p.name) f.params) 1 Joins [] [] f.body

-- all lines that break a rule
abbrev pub ownership_faults : Program → List ℕ
ownership_faults program = flat_map (owner_faults_of program.functions) program.functions

-- no line breaks a rule of ownership
abbrev pub KeepsOwnership : Program → Type 0
KeepsOwnership program = ownership_faults program ≡ []

-- the names that any number of iterations may leave held: the least set that contains `before` and is closed under
-- one iteration, `turn`
pub record IsLeastClosed (turn : Taken → Taken) (before after : Taken) : Type 0 where
  pub holds_before : (t : Name × Holder) → Contains before t → Contains after t
  pub closed : (t : Name × Holder) → Contains (turn after) t → Contains after t
  pub least : (set : Taken) → ((t : Name × Holder) → Contains before t → Contains set t) →
      ((t : Name × Holder) → Contains (turn set) t → Contains set t) → (t : Name × Holder) → Contains after t
      → Contains set t
