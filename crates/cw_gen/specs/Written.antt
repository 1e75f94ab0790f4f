-- The parts of the code of functions, in the order in which the generator writes them.
use Rattle.std.specs.Prelude.{◌≡◌, ℕ, ◌+◌, ◌-◌, ◌*◌, pos, max, Bool, false, List, [], ◌∷◌, ◌++◌, length, map, Option}
use Rattle.std.specs.Prelude.{option_map, slice_set, Result, OnOk}
use Rattle.std.specs.Global.{Vec}
use Rattle.cw_model.specs.declared.syntax.CallKind.{CallKind}
use Rattle.cw_model.specs.declared.syntax.NameKind.{NameKind}
use Rattle.cw_model.specs.declared.syntax.Operator.TheVariants.{AtMost, Plus, Minus, Divide}
use Rattle.cw_tree.specs.declared.resolved.Call as code_call
use Rattle.cw_tree.specs.declared.resolved.Function as code
use Rattle.cw_tree.specs.declared.resolved.Param.{Param}
use Rattle.cw_tree.specs.declared.resolved.Reducer.{Reducer}
use Rattle.cw_tree.specs.declared.resolved.Tree as source
use Rattle.cw_tree.specs.ResolvedView.{function_of, listed_of, param_of, reducer_of, resolved_of}
use Rattle.cw_loops.specs.declared.program.Core.{Core}
use Rattle.cw_loops.specs.declared.tree.Argument.{Argument}
use Rattle.cw_loops.specs.declared.tree.Begin.{Begin}
use Rattle.cw_loops.specs.declared.tree.Call.{Call}
use Rattle.cw_loops.specs.declared.tree.Cut.{Cut}
use Rattle.cw_loops.specs.declared.tree.Expr.{Expr}
use Rattle.cw_loops.specs.declared.tree.Line.{Line}
use Rattle.cw_loops.specs.declared.tree.Loop as lowered
use Rattle.cw_loops.specs.declared.tree.Stmt.{Stmt}
use Rattle.cw_loops.specs.declared.tree.Tree.{Tree}
use Rattle.cw_loops.specs.Seen.{functions_of}
use Rattle.cw_loops.specs.View.{argument_of, block_of, expr_of, loop_of, stmt_of}
use Rattle.cw_loops.specs.Slotted.{Number, Binary, Assign, Scope, Block, Then, Function, Variable}
use Rattle.cw_loops.specs.Expanded.{leaf, loop_text, loop_texts, low, high, node, turn_slot, left_slot, right_slot}
use Rattle.cw_loops.specs.Expanded.{numbers, range, on_line, with_bodies}
use Rattle.cw_loops.specs.Moved.{Loop}
use Rattle.cw_code.specs.declared.code.Func.{Func}
use Rattle.cw_code.specs.declared.code.Loan.{Loan}
use Rattle.cw_code.specs.declared.code.Inner.{Inner}
use Rattle.cw_code.specs.declared.code.Instr.{Instr}
use Rattle.cw_code.specs.declared.code.Instr.TheVariants as instr
use Rattle.cw_code.specs.declared.code.BlockKind.{BlockKind}
use Rattle.cw_code.specs.declared.code.Reducer as code_reducer
use Rattle.cw_code.specs.declared.code.Site.{Site}
use Rattle.cw_code.specs.Code.{Code, CodeSite, site_view}
use Rattle.cw_gen.specs.Marks.{Marks}
use Rattle.cw_gen.specs.Emit.{callee_of, coded_reducers, distance, past, halves_of, passed_in, put_lists_in}
use Rattle.cw_gen.specs.Emit.{ints_in_block, arrays_in_block, site_of, halves_at, lent_in, put_lists_of, put_loans_of}
use Rattle.cw_gen.specs.Emit.{emitted, emitted_args, emitted_begin, emitted_block, emitted_cut, emitted_expr}
use Rattle.cw_gen.specs.Emit.{emitted_func, emitted_funcs, emitted_function}
use Rattle.cw_gen.specs.Emit.{emitted_alone, emitted_arg, emitted_inside, emitted_instrs, emitted_lists, emitted_loads}
use Rattle.cw_gen.specs.Emit.{emitted_loans, emitted_over, emitted_return, emitted_sites_of, emitted_stmt, emitted_turn}
use Rattle.cw_gen.specs.Emit.{put_lists, put_loans, put_loans_in}

-- the elements are appended if the result is `Ok`
abbrev pub Adds : {A R E : Type 0} → (old new : Vec A) → List A → Result R E → Type 0
Adds old new more r = OnOk r (new.items ≡ old.items ++ more)

-- the abstraction of lists, and of bodies as blocks
abbrev pub lists_of : {A : Type 0} → List (Vec A) → List (List A)
lists_of lists = map (λ slots. slots.items) lists

abbrev pub blocks_of : List (Vec Line) → List Block
blocks_of bodies = map (λ b. block_of b.items) bodies

-- the lists are changed in this way if the result is `Ok`
abbrev pub Puts : {A R E : Type 0} → (old new : Vec (Vec A)) → (List (List A) → List (List A)) → Result R E → Type 0
Puts old new change r = OnOk r (lists_of new.items ≡ change (lists_of old.items))

-- the abstraction of call sites
abbrev pub seen_sites : List Site → List CodeSite
seen_sites sites = map site_view sites

-- the call sites are appended if the result is `Ok`
abbrev pub AddsSites : {R E : Type 0} → (old new : Vec Site) → List CodeSite → Result R E → Type 0
AddsSites old new more r = OnOk r (seen_sites new.items ≡ seen_sites old.items ++ more)

-- the call sites of source functions, and the site of one call in a line
abbrev pub sites_of : List code.Function → List CodeSite
sites_of functions = emitted_sites_of (map function_of functions)

abbrev pub call_site : (line : ℕ) → code_call.Call → CodeSite
call_site line c = site_of line c.kind c.site (listed_of c.callee)

-- the abstraction of the reducers of the code
abbrev pub kept_reducers : List Reducer → List code_reducer.Reducer
kept_reducers reducers = coded_reducers (map reducer_of reducers)

-- the kinds of parameters
abbrev pub kinds_of : List Param → List NameKind
kinds_of params = map (λ p. p.kind) (map param_of params)

-- the array slots among arguments that are given away, in order, and the loans of those that are only read
abbrev pub slots_passed : Marks → List Argument → List ℕ
slots_passed marks arguments = passed_in marks (map argument_of arguments)

abbrev pub loans_passed : Marks → List Argument → List Loan
loans_passed marks arguments = lent_in marks (map argument_of arguments)

-- fills a reserved instruction with a test, or with a jump, to the end of the code
abbrev pub landed : (place : ℕ) → List Instr → List Instr
landed place instrs = slice_set instrs place (instr.SkipIfZero (distance (length instrs - place - 1)))

abbrev pub landed_past : (returns : Bool) → (place : ℕ) → List Instr → List Instr
landed_past returns place instrs = slice_set instrs place (instr.Skip (past returns (length instrs - place - 1)))

-- source functions with their bodies
abbrev pub functions_with : List code.Function → List (Vec Line) → List Function
functions_with functions bodies = with_bodies (map function_of functions) (blocks_of bodies)

-- a source function with its body
abbrev pub function_with : code.Function → List Line → Function
function_with f body =
    record {
      gives_int = (function_of f).gives_int;
      params = map (λ p. p.kind) (function_of f).params;
      body = block_of body;
    }

-- the instructions of source functions with their bodies, and of one function
abbrev pub code_with : (first : ℕ) → List code.Function → List (Vec Line) → List Instr
code_with first functions bodies = emitted_instrs first (functions_with functions bodies)

abbrev pub code_of : (first : ℕ) → code.Function → List Line → List Instr
code_of first f body = emitted_function first (function_with f body)

-- the table entries of functions whose instructions follow `instrs` are appended if the result is `Ok`
abbrev pub AddsFuncs : {R E : Type 0} → (first : ℕ) → Vec Instr → (old new : Vec Func) → List code.Function →
    List (Vec Line) → Result R E → Type 0
AddsFuncs first instrs old new functions bodies r =
    Adds old new (emitted_funcs first (length instrs.items) (functions_with functions bodies)) r

-- the table entry of one function whose instructions follow `instrs`
abbrev pub func_of : (first : ℕ) → Vec Instr → code.Function → List Line → Func
func_of first instrs f body = emitted_func first (length instrs.items) (function_with f body)

-- the functions of loops written out, the first with this index, and the function of one loop
abbrev pub texts_of : (index : ℕ) → List lowered.Loop → List Function
texts_of index loops = loop_texts index (map loop_of loops)

abbrev pub text_of : (index : ℕ) → lowered.Loop → Function
text_of index l = loop_text index (loop_of l)

-- the instructions of the functions of loops, and their table entries after `instrs`
abbrev pub loop_code : (first index : ℕ) → List lowered.Loop → List Instr
loop_code first index loops = emitted_instrs first (texts_of index loops)

abbrev pub loop_funcs : (first : ℕ) → Vec Instr → (index : ℕ) → List lowered.Loop → List Func
loop_funcs first instrs index loops = emitted_funcs first (length instrs.items) (texts_of index loops)

-- the instructions of all functions of a lowered tree, their table entries, and their lists of array slots
abbrev pub all_code : (first : ℕ) → source.Tree → Tree → List Instr
all_code first tree made = emitted_instrs first (functions_of tree made)

abbrev pub all_funcs : (first : ℕ) → source.Tree → Tree → List Func
all_funcs first tree made = emitted_funcs first 0 (functions_of tree made)

abbrev pub all_lists : (first : ℕ) → source.Tree → Tree → List (List ℕ)
all_lists first tree made = emitted_lists first (functions_of tree made)

-- the lists of loans of all functions of a lowered tree
abbrev pub all_loans : (first : ℕ) → source.Tree → Tree → List (List Loan)
all_loans first tree made = emitted_loans first (functions_of tree made)

-- the complete code of a program with lowered loops
abbrev pub code_of_core : Core → Code
code_of_core core = emitted (resolved_of core.source.typed.tree) (functions_of core.source.typed.tree core.tree)

-- the instructions of arguments, and of an expression followed by an instruction that uses its value
abbrev pub written_args : Marks → (line : ℕ) → List Argument → List Instr
written_args marks line es = emitted_args marks line (map argument_of es)

abbrev pub written_expr : Marks → (line : ℕ) → Expr → List Instr
written_expr marks line e = emitted_expr marks line (expr_of e)

abbrev pub written_arg : Marks → (line : ℕ) → Argument → List Instr
written_arg marks line e = emitted_arg marks line (argument_of e)

abbrev pub written_valued : Marks → (line : ℕ) → Expr → Instr → List Instr
written_valued marks line e i = emitted_expr marks line (expr_of e) ++ i ∷ []

-- the instructions of a block, of a statement in a line, and of a return
abbrev pub written_block : (first : ℕ) → Marks → List Line → List Instr
written_block first marks lines = emitted_block first marks (block_of lines)

abbrev pub written_over : (first : ℕ) → Marks → List Line → List Instr
written_over first marks lines = emitted_over (written_block first marks lines)

abbrev pub written_alone : (first : ℕ) → Marks → (line : ℕ) → Stmt → List Instr
written_alone first marks line s = emitted_alone first marks line (stmt_of s)

abbrev pub written_stmt : (first : ℕ) → Marks → (line : ℕ) → Stmt → List Instr
written_stmt first marks line s = emitted_stmt first marks line (stmt_of s)

abbrev pub written_return : Marks → (line : ℕ) → Option Expr → List Instr
written_return marks line e = emitted_return marks line (option_map expr_of e)

-- the instructions of a sync block, and of a block that jumps back to its test, which begins at `start`
abbrev pub written_inside : BlockKind → (first : ℕ) → Marks → List Line → List Instr
written_inside kind first marks lines = emitted_inside kind (written_block first marks lines)

abbrev pub written_turn : (start : ℕ) → Vec Instr → (first : ℕ) → Marks → List Line → List Instr
written_turn start instrs first marks lines =
    emitted_turn (length instrs.items - start) (written_block first marks lines)

-- the instructions of a call in a line, of the beginning of a loop, and of a cut with its block
abbrev pub written_call : Marks → (line : ℕ) → Call → List Instr
written_call marks line c =
    emitted_args marks line (map argument_of c.arguments.items)
    ++ instr.Call c.kind (callee_of line c.site c.target c.callee) ∷ []

abbrev pub written_begin : (first : ℕ) → Marks → (line : ℕ) → Begin → List Instr
written_begin first marks line b =
    emitted_begin first marks line b.callee (expr_of b.from) (expr_of b.to) b.captured.items

abbrev pub written_cut : (first : ℕ) → Marks → (line : ℕ) → Cut → List Line → List Instr
written_cut first marks line c body =
    emitted_cut line (halves_at marks c.array c.left c.right) (emitted_block first marks (block_of body))

-- the test of a loop's function whether its range is a leaf
abbrev pub written_test : Loop → List Instr
written_test l = emitted_expr [] l.line (Binary AtMost range (Number (pos l.grain)))

-- one iteration of a leaf, with the increment of the variable
abbrev pub turn_text : Loop → Block
turn_text l =
    let x = turn_slot l.captured in
    Then l.line (Scope l.body) (on_line l.line (Assign x (Binary Plus (Variable x) (Number (pos 1)))))

-- the iterations of a leaf, whose test begins at `start`
abbrev pub leaf_turn : (start : ℕ) → Vec Instr → (first : ℕ) → lowered.Loop → List Instr
leaf_turn start instrs first l =
    emitted_turn (length instrs.items - start) (emitted_block first [] (turn_text (loop_of l)))

-- the code of a leaf, and of a node
abbrev pub written_leaf : (first : ℕ) → Loop → List Instr
written_leaf first l = emitted_block first [] (leaf l)

abbrev pub written_node : (first index : ℕ) → Loop → List Instr
written_node first index l = emitted_block first [] (node index l)

-- the increment of the variable
abbrev pub written_step : Loop → List Instr
written_step l =
    instr.Load (turn_slot l.captured) ∷ instr.Push (pos 1) ∷ instr.Binary Plus l.line
    ∷ instr.Store (turn_slot l.captured) ∷ []

-- the computation of the middle of the range
abbrev pub written_middle : Loop → List Instr
written_middle l =
    instr.Load low ∷ instr.Load high ∷ instr.Load low ∷ instr.Binary Minus l.line ∷ instr.Push (pos 2)
    ∷ instr.Binary Divide l.line ∷ instr.Binary Plus l.line ∷ instr.Store (turn_slot l.captured) ∷ []

-- the cuts of arrays at the middle, each inside the previous one
abbrev pub written_cuts : Loop → (arrays : List ℕ) → List Instr
written_cuts l [] = []
written_cuts l (n ∷ arrays) =
    instr.Load (turn_slot l.captured) ∷ instr.Load low ∷ instr.Binary Minus l.line
    ∷ instr.Cut (halves_of n (left_slot l.over n) (right_slot l.over n)) l.line ∷ written_cuts l arrays

-- the cuts of all arrays of a loop
abbrev pub cuts_of : lowered.Loop → List Instr
cuts_of l = written_cuts (loop_of l) (numbers 0 l.over)

-- the ends of the cuts
abbrev pub written_ends : (arrays : List ℕ) → List Instr
written_ends [] = []
written_ends (n ∷ arrays) = instr.EndCut ∷ written_ends arrays

-- a call on one half, with this number of captured integers
abbrev pub written_half : CallKind → Inner → (from to captured : ℕ) → List Instr
written_half kind callee from to captured =
    instr.Load from ∷ instr.Load to ∷ (emitted_loads (numbers 2 captured) ++ instr.Recur kind callee ∷ [])

-- the table entry of a loop's function, whose instructions are between `start` and `end`
abbrev pub written_func : (start end : ℕ) → Loop → Func
written_func start end l = record {
  start = start;
  end = end;
  gives_int = false;
  params = 2 + l.captured;
  slots = max (ints_in_block (3 + l.captured) l.body) (3 + l.captured);
  array_params = l.over;
  arrays = max (arrays_in_block l.over l.body) (3 * l.over);
  readers = 0;
}

-- stores the lists of source functions with their bodies, and their loans
abbrev pub put_lists_with : (first : ℕ) → List code.Function → List (Vec Line) → List (List ℕ) → List (List ℕ)
put_lists_with first functions bodies lists = put_lists_of first (functions_with functions bodies) lists

abbrev pub put_loans_with : List code.Function → List (Vec Line) → List (List Loan) → List (List Loan)
put_loans_with functions bodies lists = put_loans_of (functions_with functions bodies) lists

-- stores the lists of a statement, of a block and of a loop's function, and the loans of a block
abbrev pub put_stmt : (first : ℕ) → Marks → Stmt → List (List ℕ) → List (List ℕ)
put_stmt first marks s lists = put_lists first marks (stmt_of s) lists

abbrev pub put_block : (first : ℕ) → Marks → List Line → List (List ℕ) → List (List ℕ)
put_block first marks lines lists = put_lists_in first marks (block_of lines) lists

abbrev pub put_text : (first index : ℕ) → lowered.Loop → List (List ℕ) → List (List ℕ)
put_text first index l lists = put_lists_in first [] (text_of index l).body lists

abbrev pub put_lent : Marks → Stmt → List (List Loan) → List (List Loan)
put_lent marks s lists = put_loans marks (stmt_of s) lists

abbrev pub put_all_lent : Marks → List Line → List (List Loan) → List (List Loan)
put_all_lent marks lines lists = put_loans_in marks (block_of lines) lists

-- the slots of the left and of the right part of each array of a loop over this number of arrays
abbrev pub left_slots : (over : ℕ) → List ℕ
left_slots over = map (left_slot over) (numbers 0 over)

abbrev pub right_slots : (over : ℕ) → List ℕ
right_slots over = map (right_slot over) (numbers 0 over)
