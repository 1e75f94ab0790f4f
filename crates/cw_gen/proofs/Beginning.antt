-- The first call of a loop's function.
use Rattle.std.proofs.Common.{◌≡◌, ℕ, suc, ◌+◌, ◌≤◌, List, [], ◌∷◌, ◌++◌, length, true, false, nat_lt, Some, None, refl, sym, ap, ◌∙◌, arith, length-append, ℤ, ◌+ℤ◌, pos}
use Rattle.std.specs.Prelude.{slice_get, reverse, take, drop, map}
use Rattle.cw_model.specs.Names.{differ}
use mathlib.Core.List.{reverse_aux}
use Rattle.std.proofs.lemmas.List.{length-reverse, length-map}
use Rattle.cw_model.specs.declared.limits.TheConstants.{MOST_DEPTH}
use Rattle.cw_model.specs.Ints.{natural}
use Rattle.cw_model.specs.declared.syntax.CallKind.TheVariants.{Plain}
use Rattle.cw_model.specs.Syntax.{Name, Expr, Begin, Function}
use Rattle.cw_model.specs.Trees.{Series}
use Rattle.cw_model.specs.Frames.{Frame, no_frame, int_of, array_of}
use Rattle.cw_model.specs.Expressions.{Gives, evaluate, and_then, done_at}
use Rattle.cw_model.specs.Outcome.{Outcome, Trace, then_do, joined_up, pay, pay_for}
use Rattle.cw_model.specs.Meaning.{Completion, Calls, going, SameDepth, function_named, loop_frame, slices_back}
use Rattle.cw_model.specs.Meaning as meaning
use Rattle.cw_model.specs.Ownership.{Taken}
use Rattle.cw_tree.specs.Resolved.{Lists, Locals, slot_of}
use Rattle.cw_code.specs.declared.code.Func.{Func}
use Rattle.cw_code.specs.declared.code.Instr.TheVariants as instr
use Rattle.cw_code.specs.Code.{Code}
use Rattle.cw_code.specs.Run.{Readers, Around, State, Transition, On, RunOutcome, ticked, on_slot, onto, begins, on_arrays}
use Rattle.cw_code.specs.Run.{arguments_of, parts_of, looped, on_range, start, passed_by, act, go_on, steps}
use Rattle.cw_code.specs.lemmas.Runs.{joined_quiet}
use Rattle.cw_gen.specs.Emit.{whole_list, emitted_loads, whole_of}
use Rattle.cw_gen.specs.Marks.{Marks}
use Rattle.cw_gen.proofs.Marked.{owned, lent, numbers_at, in_owned, parts_told}
use Rattle.cw_gen.proofs.Fine.{AllUsable, AllWritable, TakesRange, ExprFine, Room, marks_for}
use Rattle.cw_gen.proofs.Traces.{resume, resume_then, resume_one}
use Rattle.cw_gen.proofs.Places.{HasAt, has_front, has_back}
use Rattle.cw_gen.proofs.Costs.{pay_none, pay_more}
use Rattle.cw_gen.proofs.Stores.{Store, Outside, array_waits, Agrees, Fills, loads, takes}
use Rattle.cw_gen.proofs.Passing.{slots_for, all_usable, own_slots, arrays_found}
use Rattle.cw_gen.proofs.Codes.{arguments_are, here}
use Rattle.cw_gen.proofs.Texts.{expr_code, stmt_code, Compiled}
use Rattle.cw_model.specs.Loops.{loop_iterations}
use Rattle.cw_gen.proofs.Steps.{one, pays, does}
use Rattle.cw_gen.proofs.Values.{expr_runs}
use Rattle.cw_gen.proofs.Simple.{Onwards}
use Rattle.cw_gen.proofs.Calling.{CallsRun, entering, entered, begins_so, inside_runs}
use Rattle.cw_gen.proofs.Slices.{slices_are, hands_of_loop}

module _ (code : Code) (marks : Marks) (depth : ℕ) where
  -- the loads of captured integers execute one instruction each
  pub loads_run : (around : List Around) (locals : Locals) (taken' : Taken) (captured : List Name) (pc : ℕ) (ops : List ℤ) (store : Store)
      (outer : Outside) (frame : Frame) (t : Trace) (left : ℕ) (next : Unit {0} → ℕ → Trace → RunOutcome) →
      HasAt code.instrs pc (emitted_loads (map (λ x. slot_of x locals.ints) captured)) → AllUsable locals.ints taken' captured → Agrees locals taken' frame store outer →
      ((l : ℕ) (u : Trace) → l ≤ left → steps code l (here marks depth around (pc + length captured) (reverse_aux (map (int_of frame) captured) ops) store u) ≡ next tt l u) →
      steps code left (here marks depth around pc ops store t) ≡ resume t (pay (length captured) left) next
  loads_run around locals taken' [] pc ops store outer frame t left next has us a k =
      let e : pc ≡ pc + 0 = omega arith in
      ap (λ n. steps code left (here marks depth around n ops store t)) e ∙ k left t (omega arith) ∙ ap (next tt left) (sym (joined_quiet t)) ∙ sym (ap (λ o. resume t o next) (pay_none left))
  loads_run around locals taken' (x ∷ captured) pc ops store outer frame t left next has us a k =
      let s = here marks depth around pc ops store t in
      let v = int_of frame x in
      let place : pc + 1 + length captured ≡ pc + length (x ∷ captured) = omega arith in
      let all : length (x ∷ captured) ≡ 1 + length captured = omega arith in
      pays code tt s t left (λ _ l u. resume u (pay (length captured) l) next) (λ l below.
      one code s (instr.Load (slot_of x locals.ints)) has.0 l
      ∙ ap (λ o. go_on (on_slot o (λ w. onto (here marks depth around pc (w ∷ ops) store t))) l (λ s'. steps code l s')) (loads locals taken' x frame store outer us.0 a)
      ∙ loads_run around locals taken' captured (pc + 1) (v ∷ ops) store outer frame (ticked t) l next has.1 us.1 a
      (λ l' u le. ap (λ m. steps code l' (here marks depth around m (reverse_aux (map (int_of frame) captured) (v ∷ ops)) store u)) place ∙ k l' u (omega arith)))
      ∙ sym (resume_then t (pay 1 left) (λ _. pay (length captured)) next)
      ∙ sym (ap (λ o. resume t o next) (ap (λ n. pay n left) all ∙ pay_more 1 (length captured) left))

module _ (code : Code) (fs : List Function) (lists : Lists) (marks : Marks) (depth bound : ℕ) (calls : Calls) (run_calls : CallsRun code fs lists bound depth calls) where
  abbrev at : List Around → ℕ → List ℤ → Store → Trace → State
  at around pc ops store t = here marks depth around pc ops store t

  -- the frame of a loop's function for this number of iterations from `low` on
  abbrev loop_given : Function → (captured over : List Name) → Frame → (low turns : ℤ) → Frame
  loop_given f captured over frame low n = loop_frame f.params (low ∷ (low +ℤ n) ∷ map (int_of frame) captured) (map (λ a. take (natural n) (drop (natural low) (array_of frame a))) over) no_frame

  -- the continuation after the number of iterations is known
  abbrev turns_known : Function → (captured over : List Name) → (line : ℕ) → Frame → (low turns : ℤ) → ℕ → Outcome Completion
  turns_known f captured over line frame low n l = then_do (joined_up (λ q. Series q)
      (calls SameDepth f (loop_given f captured over frame low n) line l)) (λ r. going (slices_back over (natural low) r.1 frame))

  -- the instruction of a loop's first call executes the call
  start_runs : (around : List Around) (locals : Locals) (taken' : Taken) (level first line pc : ℕ) (size : Room) (name : Name)
      (captured over : List Name) (fn : Func) (low high : ℤ) (store : Store) (outer : Outside) (frame : Frame) (u : Trace) (left : ℕ)
      (next : Completion → ℕ → Trace → RunOutcome) →
      nat_lt MOST_DEPTH depth ≡ false → slice_get code.instrs pc ≡ Some (instr.Start (whole_of first (slot_of name lists.functions)) line)
      → slice_get code.funcs (slot_of name lists.functions) ≡ Some fn
      → passed_by code (whole_list first (slot_of name lists.functions)) ≡ numbers_at marks (slots_for locals.arrays over) →
      level ≡ suc (length outer) → Compiled code fs lists (function_named name fs) fn → TakesRange (function_named name fs) captured over →
      AllWritable marks locals.arrays taken' over → differ over ≡ true → Agrees locals taken' frame store outer → Fills marks store size → left ≤ bound →
      Onwards code marks depth around locals taken' (pc + 1) outer size left next →
      steps code left (at around pc (reverse (low ∷ high ∷ map (int_of frame) captured)) store u)
      ≡ resume u (then_do (pay_for (and_then (Gives (pos 0) 0) (λ v. loop_iterations low high (map (array_of frame) over))) line left)
      (λ n. turns_known (function_named name fs) captured over line frame low n)) next
  unfolding hands_of_loop
  start_runs around locals taken' level first line pc size name captured over fn low high store outer frame u left next shallow has found passed_is
      at_level compiled takes us apart agrees m within on =
      let f = function_named name fs in
      let vs = low ∷ high ∷ map (int_of frame) captured in
      let s = at around pc (reverse vs) store u in
      let c = whole_of first (slot_of name lists.functions) in
      let i = instr.Start c line in
      let passed = slots_for locals.arrays over in
      let numbers = numbers_at marks passed in
      let callee = marks_for f.params in
      let own = own_slots marks locals.arrays taken' over us in
      let none : Readers = [] in
      let arrays = map (λ a. array_of frame a) over in
      let outs = parts_of (natural low) passed arrays in
      let r = loop_iterations low high arrays in
      let n : fn.params ≡ length vs = compiled.params ∙ takes.ints ∙ ap (λ k. suc (suc k)) (sym (length-map captured (int_of frame))) in
      let many : length (reverse vs) ≡ fn.params = length-reverse vs ∙ sym n in
      let next' : ℤ → ℕ → Trace → RunOutcome = λ v l u'. resume u' (turns_known f captured over line frame low v l) next in
      let go : ℤ → Transition = λ v. On (entered code fs lists marks depth around pc store Plain None None depth passed outs callee fn
      (low ∷ (low +ℤ v) ∷ map (int_of frame) captured) (map (λ a. take (natural v) (drop (natural low) (array_of frame a))) over) u) in
      let looped_so : act code s (Some i) ≡ looped s line numbers fn arrays low (map (int_of frame) captured) r =
      ap (start s line (passed_by code c.passed)) found
      ∙ ap (λ p. start s line p (Some fn)) passed_is
      ∙ ap (λ o. on_arrays o (λ given. on_range (arguments_of fn (reverse vs))
      (λ lo hi along. looped s line numbers fn given lo along (loop_iterations lo hi given))))
      (in_owned marks passed store.arrays own ∙ arrays_found locals.arrays taken' frame.arrays store.arrays
      (store.arrived ∷ array_waits outer) over agrees.arrays (all_usable marks locals.arrays taken' over us) apart)
      ∙ ap (λ ws. on_range ws (λ lo hi along. looped s line numbers fn arrays lo along (loop_iterations lo hi arrays))) (arguments_are fn vs n) in
      does code s line r i left next' go has
      (λ v is.
      let hands = hands_of_loop code fs lists marks locals taken' frame f fn captured over low v compiled takes us apart in
      looped_so
      ∙ ap (looped s line numbers fn arrays low (map (int_of frame) captured)) is
      ∙ ap (λ ts. begins s (record (entering code fs lists marks depth Plain None None depth fn (low ∷ (low +ℤ v) ∷ map (int_of frame) captured)
      (map (λ xs. take (natural v) (drop (natural low) xs)) arrays) outs none) { taken = ts })) (parts_told marks (natural low) passed arrays)
      ∙ ap (λ xss. begins s (entering code fs lists marks depth Plain None None depth fn
      (low ∷ (low +ℤ v) ∷ map (int_of frame) captured) xss outs none)) (slices_are (natural low) (natural v) frame over)
      ∙ ap (λ ms. begins s (entering code fs lists marks depth Plain None None depth fn (low ∷ (low +ℤ v) ∷ map (int_of frame) captured)
      (owned ms hands.arrays) outs (lent ms hands.arrays))) (sym takes.unread)
      ∙ begins_so code fs lists marks depth around pc (reverse vs) store Plain None None depth f fn hands.ints hands.arrays outs passed u compiled many hands.as_arrays hands.moved own refl)
      (λ trap' is. looped_so ∙ ap (looped s line numbers fn arrays low (map (int_of frame) captured)) is)
      (λ v l below.
      let hands = hands_of_loop code fs lists marks locals taken' frame f fn captured over low v compiled takes us apart in
      inside_runs code fs lists marks depth bound calls run_calls around locals taken' level Plain SameDepth None None line pc size f fn frame hands
      store outer [] u l next shallow at_level compiled tt agrees m (omega arith) (λ g st l' u' ag ln le. on g st l' u' ag ln (omega arith))
      ∙ sym (resume_one (λ q. Series q) (ticked u) (calls SameDepth f (loop_given f captured over frame low v) line l)
      (λ ret l' u'. resume u' (going (slices_back over (natural low) ret.1 frame) l') next))
      ∙ sym (resume_then (ticked u) (joined_up (λ q. Series q) (calls SameDepth f (loop_given f captured over frame low v) line l)) (λ ret. going (slices_back over (natural low) ret.1 frame)) next))
      ∙ sym (resume_then u (pay_for (done_at 1 r) line left) (λ v. turns_known f captured over line frame low v) next)

  -- the code of the first call of a loop's function executes the call
  pub begin_runs : (around : List Around) (locals : Locals) (taken' : Taken) (level first line pc : ℕ) (size : Room) (name : Name) (from to : Expr)
      (captured over : List Name) (fn : Func) (store : Store) (outer : Outside) (frame : Frame) (t : Trace) (left : ℕ) (next : Completion → ℕ → Trace → RunOutcome) →
      nat_lt MOST_DEPTH depth ≡ false → HasAt code.instrs pc (stmt_code first marks lists locals line (Begin name from to captured over))
      → slice_get code.funcs (slot_of name lists.functions) ≡ Some fn
      → passed_by code (whole_list first (slot_of name lists.functions)) ≡ numbers_at marks (slots_for locals.arrays over) →
      level ≡ suc (length outer) → Compiled code fs lists (function_named name fs) fn → TakesRange (function_named name fs) captured over →
      ExprFine locals taken' from → ExprFine locals taken' to → AllUsable locals.ints taken' captured → AllWritable marks locals.arrays taken' over
      → differ over ≡ true → Agrees locals taken' frame store outer → Fills marks store size → left ≤ bound →
      Onwards code marks depth around locals taken' (pc + length (stmt_code first marks lists locals line (Begin name from to captured over))) outer size left next →
      steps code left (at around pc [] store t) ≡ resume t (meaning.run (Begin name from to captured over) line fs calls frame left) next
  begin_runs around locals taken' level first line pc size name from to captured over fn store outer frame t left next shallow has found passed_is
      at_level compiled takes from_fine to_fine captured_us us apart agrees m within on =
      let f = function_named name fs in
      let cf = expr_code marks locals line from in
      let ct = expr_code marks locals line to in
      let slots = map (λ x. slot_of x locals.ints) captured in
      let cl = emitted_loads slots in
      let i = instr.Start (whole_of first (slot_of name lists.functions)) line in
      let at_to = has_back code.instrs pc cf (ct ++ (cl ++ i ∷ [])) has in
      let at_loads = has_back code.instrs (pc + length cf) ct (cl ++ i ∷ []) at_to in
      let at_start = (has_back code.instrs (pc + length cf + length ct) cl (i ∷ []) at_loads).0 in
      let n_loads : length cl ≡ length captured = length-map slots (λ u. instr.Load u) ∙ length-map captured (λ x. slot_of x locals.ints) in
      let there : slice_get code.instrs (pc + length cf + length ct + length captured) ≡ Some i = ap (λ n. slice_get code.instrs (pc + length cf + length ct + n)) (sym n_loads) ∙ at_start in
      let place : pc + length cf + length ct + length captured + 1 ≡ pc + length (cf ++ (ct ++ (cl ++ i ∷ []))) =
      omega (arith, n_loads, length-append cf (ct ++ (cl ++ i ∷ [])), length-append ct (cl ++ i ∷ []), length-append cl (i ∷ [])) in
      let turned : (lo hi : ℤ) → ℕ → Outcome Completion = λ lo hi l. then_do
      (pay_for (and_then (Gives (pos 0) 0) (λ v. loop_iterations lo hi (map (array_of frame) over))) line l) (λ n. turns_known f captured over line frame lo n) in
      let loaded : (lo hi : ℤ) → ℕ → Outcome Completion = λ lo hi l. then_do (pay (length captured) l) (λ _. turned lo hi) in
      expr_runs code marks depth around locals taken' from line pc [] store outer frame t left (λ lo l u. resume u (then_do (pay_for (evaluate to frame) line l) (λ hi. loaded lo hi)) next)
      (has_front code.instrs pc cf (ct ++ (cl ++ i ∷ [])) has) from_fine agrees
      (λ lo l u le.
      expr_runs code marks depth around locals taken' to line (pc + length cf) (lo ∷ []) store outer frame u l (λ hi l2 u2. resume u2 (loaded lo hi l2) next)
      (has_front code.instrs (pc + length cf) ct (cl ++ i ∷ []) at_to) to_fine agrees
      (λ hi l2 u2 le2.
      loads_run code marks depth around locals taken' captured (pc + length cf + length ct) (hi ∷ lo ∷ []) store outer frame u2 l2 (λ _ l3 u3. resume u3 (turned lo hi l3) next)
      (has_front code.instrs (pc + length cf + length ct) cl (i ∷ []) at_loads) captured_us agrees
      (λ l3 u3 le3.
      start_runs around locals taken' level first line (pc + length cf + length ct + length captured) size name captured over fn lo hi store outer
      frame u3 l3 next shallow there found passed_is at_level compiled takes us apart agrees m (omega arith)
      (λ g st l' u' ag ln le'. ap (λ q. steps code l' (at around q [] st u')) place ∙ on g st l' u' ag ln (omega arith)))
      ∙ sym (resume_then u2 (pay (length captured) l2) (λ _. turned lo hi) next))
      ∙ sym (resume_then u (pay_for (evaluate to frame) line l) (λ hi. loaded lo hi) next))
      ∙ sym (resume_then t (pay_for (evaluate from frame) line left) (λ lo l. then_do (pay_for (evaluate to frame) line l) (λ hi. loaded lo hi)) next)
