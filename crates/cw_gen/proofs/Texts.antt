-- The code of each part of a lowered program with its names looked up, and functions whose code is where their entries
-- say.
use Rattle.std.specs.Prelude.{◌≡◌, ℕ, ◌+◌, ◌≤◌, true, if◌then◌else◌, List, [], ◌++◌, length, map, filter, Some, slice_get}
use Rattle.cw_model.specs.Syntax.{Name, Expr, While, Stmt, Block, Param, Function, Program, takes_array}
use Rattle.cw_model.specs.Names.{differ}
use Rattle.cw_model.specs.Meaning.{function_named}
use Rattle.cw_model.specs.Typing.{Returns, WithInt, Alone, block_returns}
use Rattle.cw_model.specs.Ownership.{Taken, IsLeastClosed}
use Rattle.cw_tree.specs.Resolved.{Lists, Locals, slot_of, locals_of, resolved}
use Rattle.cw_loops.specs.Slotted.{slotted_expr, slotted_arguments, slotted_stmt, slotted_block, slotted_functions}
use Rattle.cw_code.specs.declared.code.Func.{Func}
use Rattle.cw_code.specs.declared.code.Instr.{Instr}
use Rattle.cw_code.specs.Code.{Code}
use Rattle.cw_gen.specs.Emit.{Tables, first_list, emitted_expr, emitted_args, emitted_stmt, emitted_block, emitted_end, emitted}
use Rattle.cw_gen.proofs.HeldNames.{held_after, held_turn, has_no_half_in}
use Rattle.cw_gen.specs.Marks.{Marks, readers_in}
use Rattle.cw_gen.proofs.Fine.{Room, BlockFine, is_function, marks_for}
use Rattle.cw_gen.proofs.Places.{HasAt}

-- the code of an expression with these locals
abbrev pub expr_code : Marks → Locals → (line : ℕ) → Expr → List Instr
expr_code marks locals line e = emitted_expr marks line (slotted_expr locals e)

abbrev pub args_code : Marks → Locals → (line : ℕ) → List Param → List Expr → List Instr
args_code marks locals line ps es = emitted_args marks line (slotted_arguments locals ps es)

abbrev pub stmt_code : (first : ℕ) → Marks → Lists → Locals → (line : ℕ) → Stmt → List Instr
stmt_code first marks lists locals line s = emitted_stmt first marks line (slotted_stmt lists locals s)

abbrev pub block_code : (first : ℕ) → Marks → Lists → Locals → Block → List Instr
block_code first marks lists locals b = emitted_block first marks (slotted_block lists locals b)

abbrev pub function_code : (first : ℕ) → Lists → Function → List Instr
function_code first lists f =
    block_code first (marks_for f.params) lists (locals_of f.params) f.body ++ emitted_end f.gives_int

-- the arrays among parameters that a call takes
abbrev pub taken_params : List Param → List Name
taken_params ps = map (λ p. p.name) (filter (λ p. takes_array p) ps)

-- the kind of return that a function requires
abbrev pub returns_of : Function → Returns
returns_of f = if f.gives_int then WithInt else Alone

-- the tables that the calls of code refer to
abbrev pub tables_in : Code → Tables
tables_in code = record { passed = code.passed; lent = code.lent; sites = code.sites }

-- the room of calls of an entry
abbrev pub room_of_func : Function → Func → Room
room_of_func f fn = record { ints = fn.slots; arrays = fn.arrays + fn.readers; given = (locals_of f.params).arrays; marks = marks_for f.params }

module _ (code : Code) (fs : List Function) (lists : Lists) where
  -- the code of a function is where its entry says
  pub record Compiled (f : Function) (fn : Func) : Type 0 where
    pub params : fn.params ≡ length (locals_of f.params).ints
    pub array_params : fn.array_params ≡ length (taken_params f.params)
    pub readers : fn.array_params + fn.readers ≡ length (locals_of f.params).arrays
    pub marked : readers_in (marks_for f.params) ≡ fn.readers
    pub room : fn.params ≤ fn.slots
    pub array_room : fn.array_params ≤ fn.arrays
    pub apart : differ (map (λ p. p.name) f.params) ≡ true
    pub gives : fn.gives_int ≡ f.gives_int
    pub stands : HasAt code.instrs fn.start (function_code (first_list code.sites) lists f)
    pub fine : BlockFine fs lists (tables_in code) (marks_for f.params) (room_of_func f fn) (returns_of f) 1 (locals_of f.params) [] f.body
    pub returns : f.gives_int ≡ true → block_returns f.body ≡ true

  -- each called function has its code
  pub record Table : Type 0 where
    pub entry : (name : Name) → is_function name fs ≡ true →
        (fn : Func) × (slice_get code.funcs (slot_of name lists.functions) ≡ Some fn) × Compiled (function_named name fs) fn

-- the code of a program: the code of its lowered functions with each name looked up
abbrev pub code_of : Program → Code
code_of program = emitted (resolved program) (slotted_functions program)

-- after a `while`, the least set is held that contains what was held before it and what an iteration leaves of the set
abbrev pub TurnsClose : List Function → Type 0
TurnsClose fs =
    (level : ℕ) (e : Expr) (b : Block) (before : Taken) → has_no_half_in b ≡ true →
    IsLeastClosed (held_turn fs level b) before (held_after fs level (While e b) before)
