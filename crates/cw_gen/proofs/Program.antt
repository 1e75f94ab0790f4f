-- The code of a program executes its lowered program.
use Rattle.std.proofs.Common.{◌≡◌, ℕ, suc, ◌+◌, ◌-◌, ◌≤◌, List, [], ◌∷◌, ◌++◌, length, Bool, true, false, ◌&&◌, if◌then◌else◌}
use Rattle.std.proofs.Common.{Some, refl, sym, ap, ◌∙◌, subst, arith, append_assoc, length-append, true≢false, ℤ}
use Rattle.std.specs.Prelude.{slice_get, nat_eq, nat_le, option_map, map}
use Rattle.std.proofs.lemmas.List.{nil_from_length}
use Rattle.cw_facts.specs.Tests.{taken, both_true, at_most, equal}
use Rattle.cw_model.specs.Syntax.{Name, Stmt, If, IfElse, While, For, Scope, Cut, Region, Block, End, Then, Function, Program}
use Rattle.cw_model.specs.Names.{same_name, is_among}
use Rattle.cw_model.specs.Frames.{no_frame}
use Rattle.cw_model.specs.Outcome.{Outcome, Done, Trapped, Over, quiet}
use Rattle.cw_model.specs.Meaning.{Returned, Deeper, function_named, call}
use Rattle.cw_model.specs.Answers.{Ended, int_given, answer_of, main_frame, main_name, serial_answer}
use Rattle.cw_model.specs.Trees.{Marked, Invocation, tree_of, normal}
use Rattle.cw_tree.specs.Resolved.{Lists, slot_of, locals_of, function_names}
use Rattle.cw_tree.specs.lemmas.NamedSlots.{slot_stays}
use Rattle.cw_loops.specs.Lowered.{made_by, made_in, made_of, loop_count, loop_count_in, lowered}
use Rattle.cw_loops.specs.Slotted.{slotted_block, slotted_function, lowered_lists}
use Rattle.cw_code.specs.declared.code.Func.{Func}
use Rattle.cw_code.specs.declared.code.Instr.{Instr}
use Rattle.cw_code.specs.Code.{Code}
use Rattle.cw_code.specs.Run.{RunOutcome, On, Stuck, first_state, reducers_of, go_on, steps, first_transition, code_serial}
use Rattle.cw_code.specs.Fits.{params_of, main_params}
use Rattle.cw_gen.specs.Marks.{count_ints, count_arrays, count_taken, count_readers}
use Rattle.cw_gen.proofs.Marked.{owned, read_in}
use Rattle.cw_gen.proofs.MarkedParams.{marks_short, counted_ints, counted_arrays, counted_taken, counted_readers, both_counted}
use Rattle.cw_gen.specs.Emit.{most_jump, first_list, ints_in_block, arrays_in_block, emitted_instrs, emitted_funcs}
use Rattle.cw_gen.specs.Generates.{main_count}
use Rattle.cw_gen.proofs.KnownNames.{in_second}
use Rattle.cw_gen.proofs.Fine.{is_function, BlockFine, marks_for, room_of, FunctionFine, FunctionsFine, ProgramFine}
use Rattle.cw_gen.proofs.Traces.{resume}
use Rattle.cw_gen.proofs.Places.{HasAt, has_all}
use Rattle.cw_gen.proofs.Codes.{bound_main, main_locals}
use Rattle.cw_gen.proofs.Texts.{returns_of, room_of_func, function_code, tables_in, Compiled, Table, code_of, TurnsClose}
use Rattle.cw_gen.proofs.Laws.{calls_run}
use Rattle.cw_gen.proofs.CodedReducers.{names_kept, same_totals}
use Rattle.cw_gen.proofs.NamedLowered.{first_names}
use Rattle.cw_gen.proofs.Entries.{named}

module _ (code : Code) (all : List Function) (lists : Lists) where
  abbrev first : ℕ
  first = first_list code.sites

  -- the code of functions
  abbrev codes : List Function → List Instr
  codes fs = emitted_instrs first (map (slotted_function lists) fs)

  -- the entries of functions
  abbrev funcs_from : (start : ℕ) → List Function → List Func
  funcs_from start fs = emitted_funcs first start (map (slotted_function lists) fs)

  -- the entry of a function with this number of parameters
  abbrev entry_of : (start : ℕ) → Function → (ints arrays taken readers : ℕ) → Func
  entry_of start f ints arrays taken readers =
      let body = slotted_block lists (locals_of f.params) f.body in
      record {
        start = start;
        end = start + length (function_code first lists f);
        gives_int = f.gives_int;
        params = ints;
        slots = ints_in_block ints body;
        array_params = taken;
        arrays = arrays_in_block arrays body - readers;
        readers = readers;
      }

  -- the entry of a function
  abbrev own_entry : (start : ℕ) → Function → Func
  own_entry start f =
      let kinds = map (λ p. p.kind) f.params in
      entry_of start f (count_ints kinds) (count_arrays kinds) (count_taken kinds) (count_readers kinds)

  -- the code of a function is where its entry says
  compiled_so : (start : ℕ) (f : Function) → HasAt code.instrs start (function_code first lists f) → FunctionFine all lists (tables_in code) f →
      Compiled code all lists f (own_entry start f)
  compiled_so start f there fine =
      let kinds = map (λ p. p.kind) f.params in
      let ints = counted_ints f.params in
      let arrays = counted_arrays f.params in
      let taken = counted_taken f.params in
      let readers = counted_readers f.params in
      let both = both_counted kinds in
      let body = slotted_block lists (locals_of f.params) f.body in
      let wide : arrays_in_block (length (locals_of f.params).arrays) body ≡ arrays_in_block (count_arrays kinds) body = ap (λ n. arrays_in_block n body) arrays in
      let all_ints : ints_in_block (length (locals_of f.params).ints) body ≡ ints_in_block (count_ints kinds) body = ap (λ n. ints_in_block n body) ints in
      let same : room_of lists f ≡ room_of_func f (own_entry start f) =
      ap (λ n. record { ints = n; arrays = arrays_in_block (length (locals_of f.params).arrays) body; given = (locals_of f.params).arrays; marks = marks_for f.params }) all_ints
      ∙ ap (λ n. record {
        ints = ints_in_block (count_ints kinds) body;
        arrays = n;
        given = (locals_of f.params).arrays;
        marks = marks_for f.params;
      }) (omega (arith, wide, fine.array_room, arrays, both)) in
      record {
        params = sym ints;
        array_params = sym taken;
        readers = both ∙ sym arrays;
        marked = readers;
        room = omega (arith, fine.room, ints, all_ints);
        array_room = omega (arith, fine.array_room, arrays, wide, both);
        apart = fine.apart;
        gives = refl;
        stands = there;
        fine = subst (λ r. BlockFine all lists (tables_in code) (marks_for f.params) r (returns_of f) 1 (locals_of f.params) [] f.body) same fine.body;
        returns = fine.returns;
      }

  -- a function with this name has its entry and its code
  abbrev Entry : (start : ℕ) → List Function → Name → Type 0
  Entry start fs name = (fn : Func) × (slice_get (funcs_from start fs) (slot_of name (function_names fs)) ≡ Some fn) × Compiled code all lists (function_named name fs) fn

  -- each function has its entry and its code
  pub entries : (pre : List Instr) (fs : List Function) → code.instrs ≡ pre ++ codes fs → FunctionsFine all lists (tables_in code) fs → (name : Name)
      → is_function name fs ≡ true → Entry (length pre) fs name
  entries pre [] e fine name h = cc
  entries pre (f ∷ fs) e fine name h =
      let here = function_code first lists f in
      test (λ h'. subst (λ n. Entry n fs name) (length-append pre here) (entries (pre ++ here) fs (e ∙ sym (append_assoc pre here (codes fs))) fine.1 name h')) (same_name name f.name) h
    where
      test : (is_function name fs ≡ true → Entry (length pre + length (function_code first lists f)) fs name) → (b : Bool) → (if b then true else is_function name fs) ≡ true →
          (fn : Func) × (slice_get (funcs_from (length pre) (f ∷ fs)) (if b then 0 else suc (slot_of name (function_names fs))) ≡ Some fn)
          × Compiled code all lists (if b then f else function_named name fs) fn
      test more true h' = (
        own_entry (length pre) f,
        refl,
        compiled_so (length pre) f (subst (λ l. HasAt l (length pre) (function_code first lists f)) (sym e) (has_all pre (function_code first lists f) (codes fs))) fine.0,
      )
      test more false h' = more h'

-- each function of a lowered program has its code
pub table_of : (program : Program) → ProgramFine (lowered program) (lowered_lists program) (tables_in (code_of program)) → Table (code_of program) (lowered program).functions (lowered_lists program)
table_of program fine = record { entry = entries (code_of program) (lowered program).functions (lowered_lists program) [] (lowered program).functions refl fine.functions }

-- a name in neither list is not in the concatenation
neither : (name : Name) (fs gs : List Function) → is_among name (function_names fs) ≡ false → is_among name (function_names gs) ≡ false → is_among name (function_names (fs ++ gs)) ≡ false
neither name [] gs h k = k
neither name (f ∷ fs) gs h k = test (λ h'. neither name fs gs h' k) (same_name name f.name) h
  where
    test : (is_among name (function_names fs) ≡ false → is_among name (function_names (fs ++ gs)) ≡ false) → (b : Bool)
        → (if b then true else is_among name (function_names fs)) ≡ false → (if b then true else is_among name (function_names (fs ++ gs))) ≡ false
    test more true h' = cc
    test more false h' = more h'

-- no loop's function has the name of main
mutual
  not_made_by : (line k : ℕ) (s : Stmt) → is_among main_name (function_names (made_by line k s)) ≡ false
  not_made_by line k (If e b) = not_made_in k b
  not_made_by line k (IfElse e b c) = neither main_name (made_in k b) (made_in (k + loop_count_in b) c) (not_made_in k b) (not_made_in (k + loop_count_in b) c)
  not_made_by line k (While e b) = not_made_in k b
  not_made_by line k (For x y z from to grain over b) = neither main_name (made_in k b) _ (not_made_in k b) refl
  not_made_by line k (Scope b) = not_made_in k b
  not_made_by line k (Cut a e l r b) = not_made_in k b
  not_made_by line k (Region tag b) = not_made_in k b
  not_made_by line k _ = refl

  not_made_in : (k : ℕ) (b : Block) → is_among main_name (function_names (made_in k b)) ≡ false
  not_made_in k End = refl
  not_made_in k (Then line s b) = neither main_name (made_by line k s) (made_in (k + loop_count s) b) (not_made_by line k s) (not_made_in (k + loop_count s) b)

-- no function of the loops of source functions has the name of main
not_made_of : (k : ℕ) (fs : List Function) → is_among main_name (function_names (made_of k fs)) ≡ false
not_made_of k [] = refl
not_made_of k (f ∷ fs) = neither main_name (made_in k f.body) (made_of (k + loop_count_in f.body) fs) (not_made_in k f.body) (not_made_of (k + loop_count_in f.body) fs)

-- main is a function of the source
pub main_there : (program : Program) → is_function main_name (lowered program).functions ≡ true → is_among main_name (function_names program.functions) ≡ true
main_there program h = cases (is_among main_name (function_names program.functions)) refl
  where
    cases : (b : Bool) → is_among main_name (function_names program.functions) ≡ b → b ≡ true
    cases true e = refl
    cases false e =
        let among = sym (ap (is_among main_name) (first_names program)) ∙ named main_name (lowered program).functions h in
        absurd (true≢false (sym (in_second main_name (function_names program.functions) (function_names (made_of 0 program.functions)) among e) ∙ not_made_of 0 program.functions))

-- main has the same index among the functions of the source
pub main_place : (program : Program) → is_function main_name (lowered program).functions ≡ true
    → slot_of main_name (function_names program.functions) ≡ slot_of main_name (lowered_lists program).functions
main_place program h =
    sym (slot_stays main_name (function_names program.functions) (function_names (made_of 0 program.functions)) (main_there program h)) ∙ sym (ap (slot_of main_name) (first_names program))

-- the answer of the code is the answer of the program
same_answer : (program : Program) (o : Outcome Returned) → option_map (λ o'. answer_of (reducers_of (code_of program)) o')
    (resume quiet o (λ r l u. Some (Done (r.0, no_frame) l u))) ≡ Some (answer_of program.reducers o)
same_answer program (Done r l u) = ap (λ totals. Some (Ended (int_given r.0) u.lines totals (normal (Marked (Invocation 0) (tree_of u.events))))) (same_totals program.reducers u.updates)
same_answer program (Trapped trap line lines) = refl
same_answer program Over = refl

-- the code executes its lowered program
pub same_run : (program : Program) → length (code_of program).instrs ≤ most_jump → TurnsClose (lowered program).functions
    → ProgramFine (lowered program) (lowered_lists program) (tables_in (code_of program)) →
    (args : List ℤ) → length args ≡ main_count (lowered program) → (n : ℕ) → code_serial (code_of program) args n ≡ Some (serial_answer (lowered program) args n)
unfolding code_serial serial_answer
same_run program small least fine args m n =
    let code = code_of program in
    let fs = (lowered program).functions in
    let lists = lowered_lists program in
    let main = function_named main_name fs in
    let table = table_of program fine in
    let entry = table.entry main_name fine.main in
    let fn = entry.0 in
    let counts = main_locals main.params fine.ints in
    let begin = On (first_state fn args [] []) in
    let many : length args ≡ fn.params = m ∙ sym counts.0 ∙ sym entry.2.params in
    let none : 0 ≡ fn.array_params + fn.readers = sym (entry.2.readers ∙ counts.1) in
    let arrays_fit = both_true (nat_eq fn.array_params 0) (nat_eq fn.readers 0) (equal fn.array_params 0 (omega (arith, none))) (equal fn.readers 0 (omega (arith, none))) in
    let fits : (nat_eq (length args) fn.params && (nat_le fn.params fn.slots && (nat_eq fn.array_params 0 && nat_eq fn.readers 0))) ≡ true =
    both_true (nat_eq (length args) fn.params) (nat_le fn.params fn.slots && (nat_eq fn.array_params 0 && nat_eq fn.readers 0)) (equal (length args) fn.params many)
    (both_true (nat_le fn.params fn.slots) (nat_eq fn.array_params 0 && nat_eq fn.readers 0) (at_most fn.params fn.slots entry.2.room) arrays_fit) in
    let no_marks : length (marks_for main.params) ≡ 0 = omega (arith, marks_short main.params, counts.1) in
    let first = first_state fn args [] [] in
    let answer = λ (o : RunOutcome). option_map (λ o'. answer_of (reducers_of code) o') o in
    let given = main_frame main.params args no_frame in
    ap (λ i. answer (go_on (first_transition (slice_get code.funcs i) args) n (λ s. steps code n s))) (main_place program fine.main)
    ∙ ap (λ o. answer (go_on (first_transition o args) n (λ s. steps code n s))) entry.1
    ∙ ap (λ w. answer (go_on w n (λ s. steps code n s))) (taken (nat_eq (length args) fn.params && (nat_le fn.params fn.slots && (nat_eq fn.array_params 0 && nat_eq fn.readers 0))) begin Stuck fits)
    ∙ ap (λ ms. answer (steps code n (record first { arrays = owned ms first.arrays; readers = read_in ms first.arrays }))) (sym (nil_from_length (marks_for main.params) no_marks))
    ∙ ap answer ((calls_run code fs lists small least table (names_kept program.reducers) refl (suc n) 0).enters Deeper refl main fn entry.2 args
    [] given many none (bound_main main.params args no_frame fine.ints m) [] main.line n quiet (λ r l u. Some (Done (r.0, no_frame) l u))
    (omega arith) (λ v g arrays l u gives_int gives le. refl))
    ∙ same_answer program (call (suc n) 0 fs Deeper main (main_frame main.params args no_frame) main.line n)

-- the number of arguments of main is that number in the program
pub same_params : (program : Program) → length (code_of program).instrs ≤ most_jump
    → ProgramFine (lowered program) (lowered_lists program) (tables_in (code_of program)) → main_params (code_of program) ≡ main_count (lowered program)
same_params program small fine =
    let entry = (table_of program fine).entry main_name fine.main in
    ap (λ i. params_of (slice_get (code_of program).funcs i)) (main_place program fine.main)
    ∙ ap params_of entry.1 ∙ entry.2.params ∙ (main_locals (function_named main_name (lowered program).functions).params fine.ints).0
