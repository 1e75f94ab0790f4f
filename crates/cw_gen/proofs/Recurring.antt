-- The instruction of a call statement, and the instruction of a call on one half of a range.
use Rattle.std.proofs.Common.{◌≡◌, ℕ, suc, ◌+◌, ◌<◌, ◌≤◌, List, [], ◌∷◌, ◌++◌, length, Bool, true, false, if◌then◌else◌, nat_lt, Option, Some, None, refl, sym, ap, ◌∙◌, arith, length-append, ℤ}
use Rattle.std.specs.Prelude.{slice_get, reverse, map, option_map}
use Rattle.cw_model.specs.Names.{differ}
use Rattle.std.proofs.lemmas.List.{append-nil, length-reverse, length-map}
use Rattle.cw_model.specs.declared.trap.Trap.TheVariants as trap
use Rattle.cw_model.specs.declared.limits.TheConstants.{MOST_DEPTH}
use Rattle.cw_model.specs.declared.syntax.CallKind.{CallKind}
use Rattle.cw_model.specs.Syntax.{Name, Expr, Function, takes_array}
use Rattle.cw_model.specs.Frames.{Frame, no_frame, array_of, set_result}
use Rattle.cw_model.specs.Outcome.{Trapped, Trace, then_do, joined_up, pay}
use Rattle.cw_model.specs.Meaning.{Completion, Calls, Deeper, going, SameDepth, call_event, start_event, function_named, returned_arrays}
use Rattle.cw_model.specs.Ownership.{Taken}
use Rattle.cw_model.specs.Ownership as ownership
use Rattle.cw_tree.specs.Resolved.{Lists, Locals, slot_of, locals_of}
use Rattle.cw_code.specs.declared.code.Func.{Func}
use Rattle.cw_code.specs.declared.code.Instr.TheVariants as instr
use Rattle.cw_code.specs.Code.{Code}
use Rattle.cw_code.specs.Run as run
use Rattle.cw_code.specs.Run.{Readers, Transition, lent_by, moved_out, full, Around, State, On, Stops, RunOutcome, ticked, inside, arrays_in, Whole}
use Rattle.cw_code.specs.Run.{begins, call_of, on_arrays, arguments_of, enter, recur, passed_by, given_back, rejoined, go_on, steps}
use Rattle.cw_code.specs.lemmas.Slots.{whole_slots}
use Rattle.cw_gen.specs.Emit.{half_list, callee_of, half_of}
use Rattle.cw_gen.specs.Marks.{Marks, place_of}
use Rattle.cw_gen.proofs.Marked.{owned, lent, is_read, read_in, numbers_at, in_owned, wholes_told, owned_full}
use Rattle.cw_gen.proofs.MarkedParams.{marks_short, names_owned, entries_names, entries_values, find_owned, owned_args, lent_args, as_many_named, taken_own, among_arrays}
use Rattle.cw_gen.proofs.Names.{values_in, length_names}
use Rattle.cw_tree.specs.lemmas.NamedSlots.{slot_stays}
use Rattle.cw_gen.proofs.Fine.{ArgsFine, TargetFine, NotBoth, Room, marks_for}
use Rattle.cw_gen.proofs.Traces.{resume, resume_then, resume_one}
use Rattle.cw_gen.proofs.Stores.{Store, Outside, array_waits, Agrees, Fills}
use Rattle.cw_gen.proofs.Passing.{slots_for, left_in, all_usable, own_slots, writable_args, usable_lent, as_many_arrays, arrays_found, loans_found, returned_are, firsts, differ_some}
use Rattle.cw_gen.proofs.Codes.{arrays_named, Bound, arguments_are, here, leaves}
use Rattle.cw_gen.proofs.Texts.{taken_params, Compiled}
use Rattle.cw_gen.proofs.Steps.{one, pays}
use Rattle.cw_gen.proofs.Simple.{Onwards}
use Rattle.cw_gen.proofs.Calling.{taken_on, Hands, CallsRun, can_take, entering, entered, begins_so, inside_runs}

module _ (code : Code) (fs : List Function) (lists : Lists) (marks : Marks) where
  -- the values that the arguments of a call pass to the function
  hands_for : (locals : Locals) (taken' : Taken) (frame : Frame) (name : Name) (es : List Expr) (fn : Func) (vs : List ℤ) (given : Frame) →
      Compiled code fs lists (function_named name fs) fn → length vs ≡ fn.params
      → Bound (function_named name fs).params vs (map (λ a. array_of frame a) (arrays_named (function_named name fs).params es)) no_frame given →
      ArgsFine marks locals taken' (function_named name fs).params es → differ (ownership.given fs name es) ≡ true → Hands marks locals taken' frame (function_named name fs) fn
  hands_for locals taken' frame name es fn vs given compiled n bound_frame args_fine apart =
      let f = function_named name fs in
      let xs = ownership.given fs name es in
      let all = arrays_named f.params es in
      let qs = taken_params f.params in
      let many : length xs ≡ length qs = as_many_arrays marks locals taken' f.params es args_fine in
      record {
        names = xs;
        outs = map (λ a. Whole a) (slots_for locals.arrays xs);
        ints = vs;
        arrays = map (λ a. array_of frame a) all;
        given = given;
        left = λ g. left_in g qs;
        returned = λ g. returned_arrays f.params es g frame;
        as_ints = n;
        as_arrays = length-map all (λ a. array_of frame a) ∙ as_many_named marks locals taken' f.params es args_fine ∙ sym compiled.readers;
        bound = bound_frame;
        writable = writable_args marks locals taken' f.params es args_fine;
        apart = apart;
        many = λ g. many ∙ sym (length-map qs (λ q. array_of g q));
        moved = whole_slots (slots_for locals.arrays xs);
        found = λ g slots gives.
            let ms = marks_for f.params in
            let es' = owned ms g.arrays in
            let named = entries_names ms g.arrays ∙ ap (owned ms) gives.named ∙ names_owned f.params gives.more in
            let short : length ms ≤ length (values_in g.arrays) = omega (
              arith,
              marks_short f.params,
              length_names g.arrays,
              ap length gives.named,
              length-append (locals_of f.params).arrays gives.more,
            ) in
            let slots_are : slots ≡ full (values_in es' ++ gives.rest) = gives.are ∙ owned_full ms (values_in g.arrays) gives.rest short
            ∙ ap (λ vs'. full (vs' ++ gives.rest)) (sym (entries_values ms g.arrays)) in
            ap (given_back (map (λ a. Whole a) (slots_for locals.arrays xs))) slots_are
            ∙ firsts locals.arrays xs qs gives.more g es' gives.rest many named (differ_some (λ p. takes_array p) f.params compiled.apart)
            (λ q h'. find_owned [] ms q g.arrays (ap (is_read ms) (ap (slot_of q) gives.named
            ∙ slot_stays q (locals_of f.params).arrays gives.more (among_arrays q f.params h')) ∙ taken_own f.params q compiled.apart h'));
        back = λ g. returned_are marks locals taken' f.params es g frame args_fine;
      }

  module _ (depth bound : ℕ) (calls : Calls) (run_calls : CallsRun code fs lists bound depth calls) where
    abbrev at : List Around → ℕ → List ℤ → Store → Trace → State
    at around pc ops store t = here marks depth around pc ops store t

    -- a call that exceeds the maximum depth traps, and every other call begins
    deep_or_not : (around : List Around) (locals : Locals) (taken' : Taken) (level : ℕ) (kind : CallKind) (site : ℕ) (target : Option Name)
        (line pc : ℕ) (size : Room) (f : Function) (fn : Func) (frame : Frame) (h : Hands marks locals taken' frame f fn) (store : Store)
        (outer : Outside) (read : List Name) (u : Trace) (l : ℕ) (next : Completion → ℕ → Trace → RunOutcome) →
        level ≡ suc (length outer) → Compiled code fs lists f fn → TargetFine locals taken' f target → Agrees locals taken' frame store outer → Fills marks store size → l < bound →
        Onwards code marks depth around locals (taken_on kind level target h.names read taken') (pc + 1) outer size l next → (b : Bool) → nat_lt MOST_DEPTH (depth + 1) ≡ b →
        go_on (if b then Stops trap.TooDeep line u.lines else On (entered code fs lists marks depth around pc store kind (Some site)
        (option_map (λ x. slot_of x locals.ints) target) (depth + 1) (slots_for locals.arrays h.names) h.outs
        (marks_for f.params) fn h.ints h.arrays u)) l (λ s. steps code l s)
        ≡ resume (inside (ticked u)) (calls Deeper f h.given line l) (λ r l' u'. resume (rejoined (call_event kind site) (ticked u).events u') (going (set_result target r.0 (h.returned r.1)) l') next)
    deep_or_not around locals taken' level kind site target line pc size f fn frame h store outer read u l next at_level compiled target_fine agrees m below on true deep =
        ap (λ ls. Some (Trapped trap.TooDeep line ls)) (sym (append-nil (u.lines ++ []) ∙ append-nil u.lines))
        ∙ sym (ap (λ o. resume (inside (ticked u)) o (λ r l' u'. resume (rejoined (call_event kind site) (ticked u).events u')
        (going (set_result target r.0 (h.returned r.1)) l') next)) (run_calls.traps deep f h.given line l below))
    deep_or_not around locals taken' level kind site target line pc size f fn frame h store outer read u l next at_level compiled target_fine agrees m below on false shallow =
        inside_runs code fs lists marks depth bound calls run_calls around locals taken' level kind Deeper
        (Some site) target line pc size f fn frame h store outer read u l next shallow at_level compiled target_fine agrees m below on

    -- the instruction of a call statement executes the call
    pub call_runs : (around : List Around) (locals : Locals) (taken' : Taken) (level : ℕ) (kind : CallKind) (site line pc : ℕ) (size : Room)
        (target : Option Name) (name : Name) (es : List Expr) (fn : Func) (vs : List ℤ) (given_frame : Frame) (store : Store) (outer : Outside)
        (frame : Frame) (u : Trace) (left : ℕ) (next : Completion → ℕ → Trace → RunOutcome) →
        slice_get code.instrs pc ≡ Some (instr.Call kind (callee_of line site (option_map (λ x. slot_of x locals.ints) target)
        (slot_of name lists.functions))) → slice_get code.funcs (slot_of name lists.functions) ≡ Some fn
        → passed_by code site ≡ numbers_at marks (slots_for locals.arrays (ownership.given fs name es))
        → lent_by code site ≡ map (place_of marks) (slots_for locals.arrays (ownership.lent fs name es))
        → NotBoth (ownership.given fs name es) (ownership.lent fs name es) →
        level ≡ suc (length outer) → Compiled code fs lists (function_named name fs) fn →
        length vs ≡ fn.params → Bound (function_named name fs).params vs (map (λ a. array_of frame a) (arrays_named (function_named name fs).params es)) no_frame given_frame →
        TargetFine locals taken' (function_named name fs) target → ArgsFine marks locals taken' (function_named name fs).params es
        → differ (ownership.given fs name es) ≡ true → Agrees locals taken' frame store outer → Fills marks store size → left ≤ bound →
        Onwards code marks depth around locals (taken_on kind level target (ownership.given fs name es) (ownership.lent fs name es) taken') (pc + 1) outer size left next →
        steps code left (at around pc (reverse vs) store u) ≡ resume u (then_do (pay 1 left)
        (λ _ left'. then_do (joined_up (call_event kind site) (calls Deeper (function_named name fs) given_frame line left'))
        (leaves target (function_named name fs).params es frame))) next
    unfolding hands_for
    call_runs around locals taken' level kind site line pc size target name es fn vs given_frame store outer frame u left next has found passed_is
        lent_is not_both at_level compiled n bound_frame target_fine args_fine apart agrees m within on =
        let s = at around pc (reverse vs) store u in
        let f = function_named name fs in
        let xs = ownership.given fs name es in
        let passed = slots_for locals.arrays xs in
        let outs = map (λ a. Whole a) passed in
        let xss = map (λ a. array_of frame a) xs in
        let slot = option_map (λ x. slot_of x locals.ints) target in
        let c = callee_of line site slot (slot_of name lists.functions) in
        let deep = nat_lt MOST_DEPTH (depth + 1) in
        let hands = hands_for locals taken' frame name es fn vs given_frame compiled n bound_frame args_fine apart in
        let ys = ownership.lent fs name es in
        let all = map (λ a. array_of frame a) (arrays_named f.params es) in
        let callee = marks_for f.params in
        let loans = map (place_of marks) (slots_for locals.arrays ys) in
        let yss = map (λ a. array_of frame a) ys in
        let numbers = numbers_at marks passed in
        let ws = writable_args marks locals taken' f.params es args_fine in
        let us = all_usable marks locals.arrays taken' xs ws in
        let own = own_slots marks locals.arrays taken' xs ws in
        let arrays_are : arrays_in numbers (owned marks store.arrays) ≡ Some xss =
        in_owned marks passed store.arrays own ∙ arrays_found locals.arrays taken' frame.arrays store.arrays (store.arrived ∷ array_waits outer) xs agrees.arrays us apart in
        let loans_are : run.lent_in loans (moved_out numbers (owned marks store.arrays)) (read_in marks store.arrays) ≡ Some yss =
        loans_found marks locals.arrays taken' frame.arrays store.arrays (store.arrived ∷ array_waits outer) xs ys agrees.arrays ws (usable_lent marks locals taken' f.params es args_fine) not_both in
        let given_are : xss ≡ owned callee all = sym (owned_args (λ a. array_of frame a) marks locals taken' f.params es args_fine) in
        let read_are : yss ≡ lent callee all = sym (lent_args (λ a. array_of frame a) marks locals taken' f.params es args_fine) in
        let deep_or : Transition → ℕ → RunOutcome = λ w l. go_on (if deep then Stops trap.TooDeep line u.lines else w) l (λ s'. steps code l s') in
        let many : length (reverse vs) ≡ fn.params = length-reverse vs ∙ n in
        let begin = begins_so code fs lists marks depth around pc (reverse vs) store kind (Some site) slot
        (depth + 1) f fn vs all outs passed u compiled many hands.as_arrays hands.moved own
        (can_take code fs lists marks depth locals taken' f kind target store outer frame target_fine agrees) in
        pays code tt s u left (λ _ l u'. resume u' (then_do (joined_up (call_event kind site) (calls Deeper f given_frame line l)) (leaves target f.params es frame)) next) (λ l below.
        one code s (instr.Call kind c) has l
        ∙ ap (λ w. go_on w l (λ s'. steps code l s')) (ap (enter s kind c (passed_by code site) (lent_by code site)) found)
        ∙ ap (λ p. deep_or (on_arrays (arrays_in p s.arrays) (λ given. on_arrays (run.lent_in (lent_by code site) (moved_out p s.arrays) s.readers)
        (λ read. begins s (call_of s kind c p fn given read)))) l) passed_is
        ∙ ap (λ q. deep_or (on_arrays (arrays_in numbers s.arrays) (λ given. on_arrays (run.lent_in q (moved_out numbers s.arrays) s.readers)
        (λ read. begins s (call_of s kind c numbers fn given read)))) l) lent_is
        ∙ ap (λ o. deep_or (on_arrays o (λ given. on_arrays (run.lent_in loans (moved_out numbers s.arrays) s.readers) (λ read. begins s (call_of s kind c numbers fn given read)))) l) arrays_are
        ∙ ap (λ o. deep_or (on_arrays o (λ read. begins s (call_of s kind c numbers fn xss read))) l) loans_are
        ∙ ap (λ ts. deep_or (begins s (record (call_of s kind c numbers fn xss yss) { taken = ts })) l) (wholes_told marks passed)
        ∙ ap (λ ws'. deep_or (begins s (entering code fs lists marks depth kind (Some site) slot (depth + 1) fn ws' xss outs yss)) l) (arguments_are fn vs (sym n))
        ∙ ap (λ g. deep_or (begins s (entering code fs lists marks depth kind (Some site) slot (depth + 1) fn vs g outs yss)) l) given_are
        ∙ ap (λ r. deep_or (begins s (entering code fs lists marks depth kind (Some site) slot (depth + 1) fn vs (owned callee all) outs r)) l) read_are
        ∙ ap (λ w. deep_or w l) begin
        ∙ deep_or_not around locals taken' level kind site target line pc size f fn frame hands store outer ys u l next at_level compiled target_fine
        agrees m (omega arith) (λ g st l' u' ag ln le. on g st l' u' ag ln (omega arith)) deep refl
        ∙ sym (resume_one (call_event kind site) (ticked u) (calls Deeper f given_frame line l) (λ r l' u'. resume u' (leaves target f.params es frame r l') next))
        ∙ sym (resume_then (ticked u) (joined_up (call_event kind site) (calls Deeper f given_frame line l)) (leaves target f.params es frame) next))
        ∙ sym (resume_then u (pay 1 left) (λ _ left'. then_do (joined_up (call_event kind site) (calls Deeper f given_frame line left')) (leaves target f.params es frame)) next)

    -- the instruction of a call on one half executes the call, at the depth of its caller and without a site
    pub recur_runs : (around : List Around) (locals : Locals) (taken' : Taken) (level : ℕ) (kind : CallKind) (first line pc : ℕ) (size : Room)
        (name : Name) (es : List Expr) (fn : Func) (vs : List ℤ) (given_frame : Frame) (store : Store) (outer : Outside) (frame : Frame) (u : Trace)
        (left : ℕ) (next : Completion → ℕ → Trace → RunOutcome) →
        nat_lt MOST_DEPTH depth ≡ false → slice_get code.instrs pc ≡ Some (instr.Recur kind (half_of first kind (slot_of name lists.functions)))
        → slice_get code.funcs (slot_of name lists.functions) ≡ Some fn
        → passed_by code (half_list first kind (slot_of name lists.functions))
        ≡ numbers_at marks (slots_for locals.arrays (ownership.given fs name es)) → marks_for (function_named name fs).params ≡ [] →
        level ≡ suc (length outer) → Compiled code fs lists (function_named name fs) fn →
        length vs ≡ fn.params → Bound (function_named name fs).params vs (map (λ a. array_of frame a) (arrays_named (function_named name fs).params es)) no_frame given_frame →
        ArgsFine marks locals taken' (function_named name fs).params es → differ (ownership.given fs name es) ≡ true → Agrees locals taken' frame store outer → Fills marks store size → left ≤ bound →
        Onwards code marks depth around locals (taken_on kind level None (ownership.given fs name es) [] taken') (pc + 1) outer size left next →
        steps code left (at around pc (reverse vs) store u) ≡ resume u (then_do (pay 1 left)
        (λ _ left'. then_do (joined_up (start_event kind) (calls SameDepth (function_named name fs) given_frame line left'))
        (leaves None (function_named name fs).params es frame))) next
    unfolding hands_for
    recur_runs around locals taken' level kind first line pc size name es fn vs given_frame store outer frame u left next shallow has found passed_is
        unread at_level compiled n bound_frame args_fine apart agrees m within on =
        let s = at around pc (reverse vs) store u in
        let f = function_named name fs in
        let xs = ownership.given fs name es in
        let passed = slots_for locals.arrays xs in
        let outs = map (λ a. Whole a) passed in
        let xss = map (λ a. array_of frame a) xs in
        let c = half_of first kind (slot_of name lists.functions) in
        let hands = hands_for locals taken' frame name es fn vs given_frame compiled n bound_frame args_fine apart in
        let all = map (λ a. array_of frame a) (arrays_named f.params es) in
        let callee = marks_for f.params in
        let numbers = numbers_at marks passed in
        let none : Readers = [] in
        let ws = writable_args marks locals taken' f.params es args_fine in
        let us = all_usable marks locals.arrays taken' xs ws in
        let own = own_slots marks locals.arrays taken' xs ws in
        let arrays_are : arrays_in numbers (owned marks store.arrays) ≡ Some xss =
        in_owned marks passed store.arrays own ∙ arrays_found locals.arrays taken' frame.arrays store.arrays (store.arrived ∷ array_waits outer) xs agrees.arrays us apart in
        let given_are : xss ≡ owned callee all = sym (owned_args (λ a. array_of frame a) marks locals taken' f.params es args_fine) in
        let read_are : none ≡ lent callee all = sym (ap (λ ms. lent ms all) unread) in
        let many : length (reverse vs) ≡ fn.params = length-reverse vs ∙ n in
        let begin = begins_so code fs lists marks depth around pc (reverse vs) store kind None None depth f fn vs all outs passed u compiled many
        hands.as_arrays hands.moved own (can_take code fs lists marks depth locals taken' f kind None store outer frame tt agrees) in
        pays code tt s u left (λ _ l u'. resume u' (then_do (joined_up (start_event kind) (calls SameDepth f given_frame line l)) (leaves None f.params es frame)) next) (λ l below.
        one code s (instr.Recur kind c) has l
        ∙ ap (λ w. go_on w l (λ s'. steps code l s')) (ap (recur s kind (passed_by code c.passed)) found)
        ∙ ap (λ p. go_on (recur s kind p (Some fn)) l (λ s'. steps code l s')) passed_is
        ∙ ap (λ o. go_on (on_arrays o (λ given. begins s (record (entering code fs lists marks depth kind None None depth fn
        (arguments_of fn (reverse vs)) given outs none) { taken = map (λ a. Whole a) numbers }))) l (λ s'. steps code l s')) arrays_are
        ∙ ap (λ ts. go_on (begins s (record (entering code fs lists marks depth kind None None depth fn (arguments_of fn (reverse vs)) xss outs none)
        { taken = ts })) l (λ s'. steps code l s')) (wholes_told marks passed)
        ∙ ap (λ ws'. go_on (begins s (entering code fs lists marks depth kind None None depth fn ws' xss outs none)) l (λ s'. steps code l s')) (arguments_are fn vs (sym n))
        ∙ ap (λ g. go_on (begins s (entering code fs lists marks depth kind None None depth fn vs g outs none)) l (λ s'. steps code l s')) given_are
        ∙ ap (λ r. go_on (begins s (entering code fs lists marks depth kind None None depth fn vs (owned callee all) outs r)) l (λ s'. steps code l s')) read_are
        ∙ ap (λ w. go_on w l (λ s'. steps code l s')) begin
        ∙ inside_runs code fs lists marks depth bound calls run_calls around locals taken' level kind SameDepth None None line pc size f fn frame
        hands store outer [] u l next shallow at_level compiled tt agrees m (omega arith) (λ g st l' u' ag ln le. on g st l' u' ag ln (omega arith))
        ∙ sym (resume_one (start_event kind) (ticked u) (calls SameDepth f given_frame line l) (λ r l' u'. resume u' (leaves None f.params es frame r l') next))
        ∙ sym (resume_then (ticked u) (joined_up (start_event kind) (calls SameDepth f given_frame line l)) (leaves None f.params es frame) next))
        ∙ sym (resume_then u (pay 1 left) (λ _ left'. then_do (joined_up (start_event kind) (calls SameDepth f given_frame line left')) (leaves None f.params es frame)) next)
