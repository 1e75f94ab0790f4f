-- The code of each function is well formed, and the functions follow each other.
use Rattle.std.proofs.Common.{◌≡◌, ℕ, zero, suc, ◌+◌, ◌-◌, ◌^◌, ◌<◌, ◌≤◌, List, [], ◌∷◌, ◌++◌, length, Bool, true, false, not, if◌then◌else◌}
use Rattle.std.proofs.Common.{Option, Some, None, refl, sym, ap, ◌∙◌, subst, arith, append_assoc, length-append, true≢false}
use Rattle.std.specs.Prelude.{slice_get, map, replicate}
use Rattle.std.proofs.Math.Seq.{get_or-append_seam}
use Rattle.std.proofs.lemmas.List.{append-nil, length-replicate}
use Rattle.std.proofs.lemmas.Option.{slice_get-get_or, slice_get_within}
use Rattle.cw_model.specs.declared.limits.TheConstants.{MOST_DECLARED, MOST_INSTRUCTIONS}
use Rattle.cw_model.specs.declared.syntax.NameKind.{NameKind}
use Rattle.cw_model.specs.Syntax.{Param, Function, Program}
use Rattle.cw_model.specs.Answers.{main_name}
use Rattle.cw_model.specs.Typing.{WithInt, Alone, block_returns}
use Rattle.cw_model.specs.Meaning.{function_named}
use Rattle.cw_tree.specs.Resolved.{Lists, Locals, locals_of}
use Rattle.cw_loops.specs.Lowered.{lowered}
use Rattle.cw_loops.specs.SlotLaws.{IsWithinLimits}
use Rattle.cw_loops.specs.Slotted.{slotted_block, slotted_function, lowered_lists}
use Rattle.cw_code.specs.declared.code.Func.{Func}
use Rattle.cw_code.specs.declared.code.Instr.{Instr}
use Rattle.cw_code.specs.Code.{Code, reducer_names}
use Rattle.cw_code.specs.Fits.{gives_value, array_params_of, readers_of, are_apart, names_well, Shape, first_shape, FlowsInto, FitsFunc, AreLaidOutFrom, Fits}
use Rattle.cw_gen.specs.Emit.{Tables, first_list, most_jump, arrays_in_block, emitted_end, emitted_func, emitted_instrs, emitted_funcs}
use Rattle.cw_gen.proofs.CodedReducers.{names_kept}
use Rattle.cw_gen.proofs.Codes.{main_locals}
use Rattle.cw_gen.proofs.FewArrays.{FewGiven, few_in, few_given}
use Rattle.cw_gen.proofs.Entries.{ints_of, arrays_of, as_counted, main_slot}
use Rattle.cw_gen.proofs.Marked.{length_owned}
use Rattle.cw_gen.proofs.MarkedParams.{counted_ints, counted_arrays, counted_readers, both_counted, marks_short}
use Rattle.cw_gen.proofs.Fine.{Room, room_of, marks_for, is_function, BlockFine, FunctionFine, FunctionsFine, ProgramFine}
use Rattle.cw_gen.proofs.Texts as texts
use Rattle.cw_gen.proofs.Texts.{block_code, function_code, tables_in, code_of, room_of_func, TurnsClose}
use Rattle.cw_gen.proofs.Places.{HasAt, has_all, length_within}
use Rattle.cw_gen.proofs.EmptySlots.{row, array_row, length-row, covers_none}
use Rattle.cw_gen.proofs.Shapes.{Shapes, shape_at, reached, end_shape, block_shapes, block_as_many}
use Rattle.cw_gen.proofs.Settings.{Setting, HasShapesFrom, stands_front, stands_back, flat, table_of, exact, takes_less, Returning, FitsAt, AllFit, both_fit}
use Rattle.cw_gen.proofs.FittingFirsts.{block_enters}
use Rattle.cw_gen.proofs.Fitting.{block_fits}

-- a part of a list is at the position after the elements before it
stands_all : (before now later : Shapes) → HasShapesFrom (before ++ (now ++ later)) (length before) now
stands_all before [] later = tt
stands_all before (s ∷ now) later =
    let within : length before < length (before ++ s ∷ (now ++ later)) = omega (arith, length-append before (s ∷ (now ++ later))) in
    let at = slice_get-get_or (before ++ s ∷ (now ++ later)) (length before) s within ∙ ap Some (get_or-append_seam before s (now ++ later) s) in
    let n : length (before ++ s ∷ []) ≡ length before + 1 = omega (arith, length-append before (s ∷ [])) in
    let rest = subst (λ l. HasShapesFrom l (length (before ++ s ∷ [])) now) (append_assoc before (s ∷ []) (now ++ later)) (stands_all (before ++ s ∷ []) now later) in
    (at, subst (λ m. HasShapesFrom (before ++ s ∷ (now ++ later)) m now) n rest)

-- there is nothing before the first place of a function
within_shapes : (start : ℕ) (ss : Shapes) (place : ℕ) (shape : Shape) → flat (slice_get (replicate start None ++ ss) place) ≡ Some shape → (start ≤ place) × (place < start + length ss)
within_shapes zero ss place shape h = (omega arith, there (slice_get ss place) refl h)
  where
    there : (o : Option (Option Shape)) → slice_get ss place ≡ o → flat o ≡ Some shape → place < 0 + length ss
    there None e h' = cc
    there (Some s) e h' = omega (arith, slice_get_within ss place s e)
within_shapes (suc start) ss zero shape h = cc
within_shapes (suc start) ss (suc place) shape h = let more = within_shapes start ss place shape h in (omega (arith, more.0), omega (arith, more.1))

module _ (code : Code) (fs : List Function) (lists : Lists) (small : length code.instrs ≤ MOST_INSTRUCTIONS) (functions : texts.Table code fs lists)
    (reducers_are : reducer_names code.reducers ≡ lists.reducers) (tags_are : code.tags ≡ lists.tags) (least : TurnsClose fs) where
  abbrev first : ℕ
  first = first_list code.sites

  abbrev tables : Tables
  tables = tables_in code

  -- the shapes of the places of a function
  abbrev function_shapes : Room → Function → Shapes
  function_shapes size g =
      block_shapes fs size [] (locals_of g.params) [] g.body ++ (if g.gives_int then [] else reached (block_returns g.body) (end_shape fs size [] (locals_of g.params) [] g.body) ∷ [])

  module _ (g : Function) (start : ℕ) (fine : FunctionFine fs lists tables g) (stands_code : HasAt code.instrs start (function_code first lists g))
      (few : length (locals_of g.params).arrays ≤ MOST_DECLARED + length (function_code first lists g)) where
    abbrev f : Func
    f = emitted_func first start (slotted_function lists g)

    abbrev size : Room
    size = room_of_func g f

    abbrev locals : Locals
    locals = locals_of g.params

    abbrev body : List Instr
    body = block_code first (marks_for g.params) lists locals g.body

    abbrev body_shapes : Shapes
    body_shapes = block_shapes fs size [] locals [] g.body

    abbrev last : Option Shape
    last = reached (block_returns g.body) (end_shape fs size [] locals [] g.body)

    abbrev end_shapes : Bool → Shapes
    end_shapes b = if b then [] else last ∷ []

    abbrev shapes : Shapes
    shapes = function_shapes size g

    abbrev tab : Shapes
    tab = replicate start None ++ shapes

    abbrev kinds : List NameKind
    kinds = map (λ (p : Param). p.kind) g.params

    -- the entry has the room that its text needs
    same_room : room_of lists g ≡ size
    same_room = as_counted lists g first start fine.array_room

    fine_body : BlockFine fs lists tables size.marks size (if g.gives_int then WithInt else Alone) 1 locals [] g.body
    fine_body = subst (λ q. BlockFine fs lists tables (marks_for g.params) q (if g.gives_int then WithInt else Alone) 1 locals [] g.body) same_room fine.body

    room : (length locals.ints ≤ size.ints) × (length locals.arrays ≤ size.arrays)
    room = (omega (arith, fine.room, ap ints_of same_room), omega (arith, fine.array_room, ap arrays_of same_room))

    body_count : length body_shapes ≡ length body
    body_count = block_as_many fs lists tables size (if g.gives_int then WithInt else Alone) 1 [] locals [] g.body refl fine_body

    end_count : (b : Bool) → length (end_shapes b) ≡ length (emitted_end b)
    end_count true = refl
    end_count false = refl

    count : length shapes ≡ length (function_code first lists g)
    count = omega (arith, length-append body_shapes (end_shapes g.gives_int), length-append body (emitted_end g.gives_int), body_count, end_count g.gives_int)

    within : (place : ℕ) (shape : Shape) → flat (slice_get tab place) ≡ Some shape → (f.start ≤ place) × (place < f.end)
    within place shape h = let is = within_shapes start shapes place shape h in (is.0, omega (arith, is.1, count))

    abbrev setting : Setting
    setting = record {
      code = code;
      fs = fs;
      lists = lists;
      functions = functions;
      reducers_are = reducers_are;
      tags_are = tags_are;
      least = least;
      f = f;
      given_arrays = locals.arrays;
      marks = marks_for g.params;
      few_given = both_counted kinds ∙ sym (counted_arrays g.params);
      many_read = counted_readers g.params;
      marks_fit = omega (arith, room.1, marks_short g.params);
      tab = tab;
      within = within;
    }

    stands : HasShapesFrom tab start shapes
    stands =
        let nothing : Option Shape = None in
        let before : Shapes = replicate start nothing in
        let all = stands_all before shapes [] in
        subst (λ k. HasShapesFrom tab k shapes) (length-replicate start nothing) (subst (λ l. HasShapesFrom (before ++ l) (length before) shapes) (append-nil shapes) all)

    at_end : HasShapesFrom tab (start + length body) (end_shapes g.gives_int)
    at_end = stands_back tab start (length body) body_shapes (end_shapes g.gives_int) body_count stands

    no_value : block_returns g.body ≡ false → g.gives_int ≡ false
    no_value goes = cases g.gives_int refl
      where
        cases : (b : Bool) → g.gives_int ≡ b → b ≡ false
        cases true e = absurd (true≢false (sym (fine.returns e) ∙ goes))
        cases false e = refl

    closes : block_returns g.body ≡ false → FlowsInto (table_of tab) (start + length body) (end_shape fs size [] locals [] g.body)
    closes goes =
        let here : HasShapesFrom tab (start + length body) (end_shapes false) = subst (λ b. HasShapesFrom tab (start + length body) (end_shapes b)) (no_value goes) at_end in
        exact tab (start + length body) (end_shape fs size [] locals [] g.body) (here.0 ∙ ap (λ r. Some (reached r (end_shape fs size [] locals [] g.body))) goes)

    short : length body ≤ most_jump
    short = omega (arith, length_within code.instrs start (function_code first lists g) stands_code, small, length-append body (emitted_end g.gives_int))

    returning : (b : Bool) → g.gives_int ≡ b → Returning (if b then WithInt else Alone) [] g.gives_int
    returning true e = (refl, e)
    returning false e = (refl, e)

    ends : (b : Bool) → g.gives_int ≡ b → (r : Bool) → AllFit setting (start + length body) (if b then [] else reached r (end_shape fs size [] locals [] g.body) ∷ []) (emitted_end b)
    ends true e r = tt
    ends false e true = (ap not e, tt)
    ends false e false = ((ap not e, refl, tt, refl), tt)

    all_fit : AllFit setting start shapes (function_code first lists g)
    all_fit =
        both_fit setting start body_shapes (end_shapes g.gives_int) body (emitted_end g.gives_int)
        (block_fits setting (if g.gives_int then WithInt else Alone) 1 [] locals [] g.body start refl room tt
        (returning g.gives_int refl) fine_body short (stands_front tab start body_shapes (end_shapes g.gives_int) stands) closes)
        (ends g.gives_int refl (block_returns g.body))

    -- a row of arrays has the length that the entry gives
    as_long : length (array_row size 1 locals.arrays []) ≡ f.arrays
    as_long =
        let r = row size.arrays 1 locals.arrays [] in
        let n : length r ≡ size.arrays = length-row size.arrays 1 locals.arrays [] in
        omega (arith, n, length_owned size.marks r (omega (arith, n, room.1, marks_short g.params)), counted_readers g.params)

    starts : FlowsInto (table_of tab) start (first_shape f)
    starts =
        takes_less (table_of tab) start (first_shape f) (shape_at size [] locals [] 0)
        (block_enters setting (if g.gives_int then WithInt else Alone) 1 [] locals [] g.body start refl room tt fine_body (stands_front tab start body_shapes (end_shapes g.gives_int) stands) closes)
        refl (
          covers_none (row size.ints 1 locals.ints []) size.ints (length-row size.ints 1 locals.ints []),
          covers_none (array_row size 1 locals.arrays []) f.arrays as_long,
          covers_none (array_row size 1 locals.arrays []) f.arrays as_long,
          tt,
        )

    abbrev FitsHere : ℕ → Option Shape → Instr → Type 0
    FitsHere place o i = FitsAt setting place o i

    -- the condition on one place
    at_place : (ss : Shapes) (is : List Instr) (place m : ℕ) (i : Instr) → AllFit setting place ss is → HasShapesFrom tab place ss
        → HasAt code.instrs place is → m < length is → slice_get code.instrs (place + m) ≡ Some i → FitsHere (place + m) (flat (slice_get tab (place + m))) i
    at_place [] [] place m i fit stand has below e = absurd (omega (arith, below))
    at_place [] (i' ∷ is) place m i fit stand has below e = absurd fit
    at_place (s ∷ ss) [] place m i fit stand has below e = absurd fit
    at_place (s ∷ ss) (i' ∷ is) place zero i fit stand has below e =
        let p : place ≡ place + 0 = omega arith in
        let same : i' ≡ i = cc (sym has.0 ∙ ap (slice_get code.instrs) p ∙ e) in
        subst (λ q. FitsHere (place + 0) (flat (slice_get tab (place + 0))) q) same
        (subst (λ q. FitsHere q (flat (slice_get tab q)) i') p (subst (λ o. FitsHere place o i') (sym (ap flat stand.0)) fit.0))
    at_place (s ∷ ss) (i' ∷ is) place (suc m) i fit stand has below e =
        let p : place + 1 + m ≡ place + suc m = omega arith in
        subst (λ q. FitsHere q (flat (slice_get tab q)) i) p (at_place ss is (place + 1) m i fit.1 stand.1 has.1 (omega (arith, below)) (ap (slice_get code.instrs) p ∙ e))

    fits_at : (place : ℕ) (i : Instr) → start ≤ place → place < f.end → slice_get code.instrs place ≡ Some i → FitsHere place (flat (slice_get tab place)) i
    fits_at place i le below e =
        let p : start + (place - start) ≡ place = omega (arith, le) in
        subst (λ q. FitsHere q (flat (slice_get tab q)) i) p (at_place shapes (function_code first lists g) start
        (place - start) i all_fit stands stands_code (omega (arith, below, le)) (ap (slice_get code.instrs) p ∙ e))

    named : (o : Option Shape) (place : ℕ) (i : Instr) → FitsHere place o i → names_well code f place i ≡ true
    named None place i h = h
    named (Some shape) place i h = h.0

    found_at : (place : ℕ) (shape : Shape) (i : Instr) → flat (slice_get tab place) ≡ Some shape → slice_get code.instrs place ≡ Some i → FitsHere place (Some shape) i
    found_at place shape i e e' = let is = within place shape e in subst (λ o. FitsHere place o i) e (fits_at place i is.0 is.1 e')

    -- the number of arrays of a call is bounded
    numbered : f.arrays + f.readers ≤ 2 ^ 32
    numbered =
        let given = length locals.arrays in
        let most = given + length body in
        let all : arrays_in_block given (slotted_block lists locals g.body) ≤ most = few_in first (marks_for g.params) lists given most locals g.body (omega arith) (omega arith) in
        omega (arith, ap arrays_of same_room, all, few, length_within code.instrs start (function_code first lists g) stands_code, small, length-append body (emitted_end g.gives_int))

    pub function_fits : FitsFunc code f
    function_fits = record {
      room = omega (arith, room.0, counted_ints g.params);
      array_room = omega (arith, room.1, counted_arrays g.params, both_counted kinds);
      numbered = numbered;
      names = λ place i le below e. named (flat (slice_get tab place)) place i (fits_at place i le below e);
      table = table_of tab;
      is_table = record {
        starts = starts;
        within = within;
        ready = λ place shape i e e'. (found_at place shape i e e').1;
        thawed = λ place shape i e e'. (found_at place shape i e e').3;
        goes = λ place shape i e e'. (found_at place shape i e e').2;
      };
    }

    pub not_empty : start < f.end
    not_empty = (within start starts.there starts.found).1

  -- the code of consecutive functions is well formed
  record RowFits (start : ℕ) (gs : List Function) : Type 0 where
    pub lie : AreLaidOutFrom start (emitted_funcs first start (map (slotted_function lists) gs)) (start + length (emitted_instrs first (map (slotted_function lists) gs)))
    pub each : (k : ℕ) (f : Func) → slice_get (emitted_funcs first start (map (slotted_function lists) gs)) k ≡ Some f → FitsFunc code f

  row_fits : (pre : List Instr) (gs : List Function) → code.instrs ≡ pre ++ emitted_instrs first (map (slotted_function lists) gs)
      → FunctionsFine fs lists tables gs → FewGiven first lists gs → RowFits (length pre) gs
  row_fits pre [] e fine few = record { lie = omega arith; each = λ k f e'. cc }
  row_fits pre (g ∷ gs) e fine few =
      let here = function_code first lists g in
      let there = emitted_instrs first (map (slotted_function lists) gs) in
      let stands_here : HasAt code.instrs (length pre) here = subst (λ l. HasAt l (length pre) here) (sym e) (has_all pre here there) in
      let more = row_fits (pre ++ here) gs (e ∙ sym (append_assoc pre here there)) fine.1 few.1 in
      let at : length (pre ++ here) ≡ length pre + length here = length-append pre here in
      let more' : RowFits (length pre + length here) gs = subst (λ m. RowFits m gs) at more in
      let whole : length pre + length here + length there ≡ length pre + length (here ++ there) = omega (arith, length-append here there) in
      record {
        lie = (
          refl,
          not_empty g (length pre) fine.0 stands_here few.0,
          subst (λ m. AreLaidOutFrom (length pre + length here) (emitted_funcs first (length pre + length here) (map (slotted_function lists) gs)) m) whole more'.lie,
        );
        each = λ k f e'. pick k f e' (function_fits g (length pre) fine.0 stands_here few.0) more'.each;
      }
    where
      pick : (k : ℕ) (f : Func) → slice_get (emitted_func first (length pre) (slotted_function lists g)
          ∷ emitted_funcs first (length pre + length (function_code first lists g)) (map (slotted_function lists) gs)) k ≡ Some f
          → FitsFunc code (emitted_func first (length pre) (slotted_function lists g)) →
          ((k' : ℕ) (f' : Func) → slice_get (emitted_funcs first (length pre + length (function_code first lists g))
          (map (slotted_function lists) gs)) k' ≡ Some f' → FitsFunc code f') → FitsFunc code f
      pick zero f e' here rest = let same : emitted_func first (length pre) (slotted_function lists g) ≡ f = cc e' in subst (λ q. FitsFunc code q) same here
      pick (suc k) f e' here rest = rest k f e'

-- the code of a lowered program is well formed
pub generated_fits : (program : Program) → is_function main_name program.functions ≡ true → IsWithinLimits program
    → length (code_of program).instrs ≤ MOST_INSTRUCTIONS → TurnsClose (lowered program).functions
    → texts.Table (code_of program) (lowered program).functions (lowered_lists program) →
    ProgramFine (lowered program) (lowered_lists program) (tables_in (code_of program)) → are_apart (code_of program).tags ≡ true → Fits (code_of program)
generated_fits program is_main limits small least functions fine apart =
    let code = code_of program in
    let main = function_named main_name (lowered program).functions in
    let entry = functions.entry main_name fine.main in
    let at : slice_get code.funcs code.main ≡ Some entry.0 = ap (slice_get code.funcs) (main_slot program is_main) ∙ entry.1 in
    let none_before : 0 + length code.instrs ≡ length code.instrs = omega arith in
    let all = row_fits code (lowered program).functions (lowered_lists program) small functions (names_kept program.reducers) refl least []
    (lowered program).functions refl fine.functions (few_given (first_list code.sites) (lowered_lists program) program limits) in
    record {
      main = ap gives_value at ∙ entry.2.gives ∙ fine.gives;
      of_integers = omega (arith, ap array_params_of at, entry.2.readers, (main_locals main.params fine.ints).1);
      reads_none = omega (arith, ap readers_of at, entry.2.readers, (main_locals main.params fine.ints).1);
      reducers = ap are_apart (names_kept program.reducers) ∙ fine.reducers;
      tags = apart;
      lie = subst (λ m. AreLaidOutFrom 0 code.funcs m) none_before all.lie;
      each = all.each;
    }
