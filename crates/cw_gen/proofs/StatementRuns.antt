-- The code of each statement and of each block executes it, if calls execute their functions.
use Rattle.std.proofs.Common.{◌≡◌, ℕ, suc, ◌+◌, ◌<◌, ◌≤◌, List, [], ◌∷◌, ◌++◌, length, false, if◌then◌else◌, nat_lt, Option, Some}
use Rattle.std.proofs.Common.{None, refl, sym, ap, ◌∙◌, subst, arith, append_assoc, length-append, ℤ, pos}
use Rattle.std.specs.Prelude.{slice_get, slice_set, replicate, option_map}
use Rattle.cw_facts.specs.Tests.{first_false, second_false}
use Rattle.cw_model.specs.declared.limits.TheConstants.{MOST_DEPTH}
use Rattle.cw_model.specs.Ints.{is_zero, natural}
use Rattle.cw_model.specs.declared.syntax.CallKind.{CallKind}
use Rattle.cw_model.specs.declared.syntax.CallKind.TheVariants.{Plain, Spawned}
use Rattle.cw_model.specs.Syntax.{Name, Expr, Stmt, Declare, DeclareArray, Assign, AssignElement, Reduce, Call, Start, Begin, Sync, If}
use Rattle.cw_model.specs.Syntax.{IfElse, While, Scope, Cut, Region, Print, Return, Block, End, Then, Function}
use Rattle.cw_model.specs.Trees.{Join, works}
use Rattle.cw_model.specs.Frames.{Frame, no_frame, array_of, new_int, new_array, set_int}
use Rattle.cw_model.specs.Frames as frames
use Rattle.cw_model.specs.Expressions.{evaluate, and_then, written}
use Rattle.cw_model.specs.Outcome.{Outcome, Trace, shows, joined, after, then_do, joined_up, pay, gives, pay_for}
use Rattle.cw_model.specs.Meaning.{Completion, Normal, ByReturn, Calls, Deeper, going, onward, scoped, SameDepth, call_event, start_event, function_named, arguments, new_length, run_all}
use Rattle.cw_model.specs.Meaning as meaning
use Rattle.cw_model.specs.Typing.{Returns, Nowhere, WithInt, Alone, surely_returns, block_returns}
use Rattle.cw_model.specs.Ownership.{CutOf, Taken, freed, without, own_names, where_it_goes_on}
use Rattle.cw_model.specs.Ownership as ownership
use Rattle.cw_tree.specs.Resolved.{Lists, params_of, Locals, slot_of, with_array, locals_after}
use Rattle.cw_loops.specs.Slotted.{slotted_block}
use Rattle.cw_code.specs.declared.code.BlockKind.TheVariants as block
use Rattle.cw_code.specs.declared.code.Instr.TheVariants as instr
use Rattle.cw_code.specs.Code.{Code, reducer_names}
use Rattle.cw_code.specs.Run.{Around, State, On, RunOutcome, ticked, synced, on_slot, set_array, is_full, settled, slots_named, loans_named, opened_region, adds, steps}
use Rattle.cw_code.specs.lemmas.Runs.{joined_joined, joined_quiet}
use Rattle.cw_gen.specs.Emit.{most_jump, distance, first_list, callee_of, half_of, halves_at, past}
use Rattle.cw_gen.proofs.HeldNames.{held_after, held_after_all}
use Rattle.cw_gen.proofs.Fine.{ExprFine, ReturnFine, IsListed, Room, StmtFine, BlockFine}
use Rattle.cw_gen.proofs.Traces.{resume, resume_then}
use Rattle.cw_gen.proofs.Places.{HasAt, has_front, has_back, length_within}
use Rattle.cw_gen.proofs.Costs.{not_dearer}
use Rattle.cw_gen.proofs.Takens.{holds, holds_behind, holds_before}
use Rattle.cw_gen.proofs.Scopes.{locals_after_all, returns_same}
use Rattle.cw_gen.proofs.Stores.{Store, Outside, waits_of, joined_with, Agrees, Fills, finds, writes, new_is_there}
use Rattle.cw_gen.proofs.Stores.{new_array_is_there, fills_joined, assigns, replaces, declares, declares_array, takes, joins}
use Rattle.cw_gen.specs.Marks.{Marks, array_at}
use Rattle.cw_gen.proofs.Marked.{owned, marked_results, IsOwn, get_owned, own_behind}
use Rattle.cw_gen.proofs.Passing.{passed_slots, lent_slots, backs}
use Rattle.cw_gen.proofs.Codes.{distance_is, here, gives_back, full_slot, then_do_after, Outermost, both_go_on, MayGive, leaves}
use Rattle.cw_gen.proofs.Texts.{expr_code, args_code, stmt_code, block_code, tables_in, Table, TurnsClose}
use Rattle.cw_gen.specs.Emit as emit
use Rattle.cw_gen.proofs.Steps.{one, pays_last, syncs}
use Rattle.cw_gen.proofs.Values.{expr_runs, args_run}
use Rattle.cw_gen.proofs.Simple.{Onwards, Backs, store_runs, tells_runs, value_runs, either, test_runs}
use Rattle.cw_gen.proofs.Calling.{taken_on, CallsRun}
use Rattle.cw_gen.proofs.Recurring.{call_runs, recur_runs}
use Rattle.cw_gen.proofs.Beginning.{begin_runs}
use Rattle.cw_gen.proofs.Bodies.{joins_at, scoped_runs, inside_block, cut_runs, in_reach, while_runs}

module _ (code : Code) (fs : List Function) (lists : Lists) (small : length code.instrs ≤ most_jump) (least : TurnsClose fs)
    (table : Table code fs lists) (reducers_are : reducer_names code.reducers ≡ lists.reducers) (tags_are : code.tags ≡ lists.tags)
    (marks : Marks) (depth : ℕ) (shallow : nat_lt MOST_DEPTH depth ≡ false) (bound : ℕ) (calls : Calls) (run_calls : CallsRun code fs lists bound depth calls) where
  abbrev at : List Around → ℕ → List ℤ → Store → Trace → State
  at around pc ops store t = here marks depth around pc ops store t

  -- a return without a value is allowed
  returns_none : (returns : Returns) (locals : Locals) (taken' : Taken) → ReturnFine returns locals taken' None → MayGive returns None
  returns_none Nowhere locals taken' fine = absurd fine
  returns_none WithInt locals taken' fine = absurd fine
  returns_none Alone locals taken' fine = refl

  -- a return with a value is allowed
  returns_some : (returns : Returns) (locals : Locals) (taken' : Taken) (e : Expr) (v : ℤ) → ReturnFine returns locals taken' (Some e) → MayGive returns (Some v)
  returns_some Nowhere locals taken' e v fine = absurd fine
  returns_some WithInt locals taken' e v fine = refl
  returns_some Alone locals taken' e v fine = absurd fine

  -- the expression of an allowed return satisfies the conditions
  returns_expr : (returns : Returns) (locals : Locals) (taken' : Taken) (e : Expr) → ReturnFine returns locals taken' (Some e) → ExprFine locals taken' e
  returns_expr Nowhere locals taken' e fine = absurd fine
  returns_expr WithInt locals taken' e fine = fine
  returns_expr Alone locals taken' e fine = absurd fine

  -- a return is in no inner block of its call
  outermost : (returns : Returns) (locals : Locals) (taken' : Taken) (e : Option Expr) (outer : Outside) → ReturnFine returns locals taken' e → Outermost returns outer → outer ≡ []
  outermost Nowhere locals taken' e outer fine out = absurd fine
  outermost WithInt locals taken' e outer fine out = out
  outermost Alone locals taken' e outer fine out = out

  -- a listed name is found
  listed : (ks names : List Name) (x : Name) → ks ≡ names → IsListed names x → slice_get ks (slot_of x names) ≡ Some x
  listed ks names x e h = ap (λ l. slice_get l (slot_of x names)) e ∙ h

  -- an instruction that records a value has the cost of any other instruction
  told_after : (u : Trace) (lines : List ℤ) (updates : List (Name × ℤ))
      → joined u (record { lines = lines; updates = updates; events = works 1 }) ≡ joined (ticked u) (record { lines = lines; updates = updates; events = [] })
  told_after u lines updates = sym (joined_joined u (shows (works 1)) (record { lines = lines; updates = updates; events = [] }))

  -- the locals held after a call statement
  call_holds : (kind : CallKind) (site : ℕ) (target : Option Name) (name : Name) (es : List Expr) (level : ℕ) (taken' : Taken)
      → taken_on kind level target (ownership.given fs name es) (ownership.lent fs name es) taken' ≡ held_after fs level (Call kind site target name es) taken'
  call_holds Plain site target name es level taken' = refl
  call_holds Spawned site target name es level taken' = refl

  -- the locals held after a call on one half
  start_holds : (kind : CallKind) (name : Name) (es : List Expr) (level : ℕ) (taken' : Taken)
      → taken_on kind level None (ownership.given fs name es) [] taken' ≡ held_after fs level (Start kind name es) taken'
  start_holds Plain name es level taken' = refl
  start_holds Spawned name es level taken' = refl

  mutual
    -- the code of a statement executes the statement
    pub stmt_runs : (around : List Around) (returns : Returns) (level : ℕ) (locals : Locals) (taken' : Taken) (s : Stmt) (line pc : ℕ) (size : Room)
        (store : Store) (outer : Outside) (frame : Frame) (t : Trace) (left : ℕ) (next : Completion → ℕ → Trace → RunOutcome) →
        level ≡ suc (length outer) → Outermost returns outer → left ≤ bound
        → HasAt code.instrs pc (stmt_code (first_list code.sites) marks lists locals line s)
        → StmtFine fs lists (tables_in code) marks size returns level locals taken' s → Agrees locals taken' frame store outer → Fills marks store size →
        (surely_returns s ≡ false → Onwards code marks depth around (locals_after locals s) (held_after fs level s taken')
        (pc + length (stmt_code (first_list code.sites) marks lists locals line s)) outer size left next) → Backs code marks depth returns size around left next →
        steps code left (at around pc [] store t) ≡ resume t (meaning.run s line fs calls frame left) next
    stmt_runs around returns level locals taken' (Declare x e) line pc size store outer frame t left next at_level out within has fine a n on backs =
        let there : length locals.ints < length store.slots = omega (arith, n.ints, fine.0) in
        store_runs code marks depth around locals (locals_after locals (Declare x e)) taken' e line pc (length locals.ints) size store outer frame (λ v. new_int x v frame) t left next has fine.1 a n
        (new_is_there locals taken' frame store outer there a)
        (λ v. declares locals taken' x v frame store outer there a) (on refl)
    stmt_runs around returns level locals taken' (DeclareArray x e) line pc size store outer frame t left next at_level out within has fine a n on backs =
        let i = length locals.arrays in
        let there : i < length store.arrays = omega (arith, n.arrays, fine.0) in
        let own : IsOwn marks i = own_behind marks i fine.3 in
        value_runs code marks depth around locals (with_array x locals) taken' e line pc i [] size
        (instr.NewArray (array_at marks i) line) store outer frame (λ v. replicate (natural v) (pos 0)) new_length
        (λ v. new_array x (replicate (natural v) (pos 0)) frame) t left next has fine.1 a n own
        (λ v place u. full_slot (slice_get (owned marks store.arrays) (array_at marks i))
        (set_array (at around place (v ∷ []) store u) (array_at marks i) line [] (λ w. replicate (natural w) (pos 0)) (new_length v))
        (ap is_full (get_owned marks i store.arrays own) ∙ new_array_is_there locals taken' frame store outer i (omega arith) there a))
        (λ v. declares_array locals taken' x (replicate (natural v) (pos 0)) frame store outer there a) (on refl)
    stmt_runs around returns level locals taken' (AssignElement x d e) line pc size store outer frame t left next at_level out within has fine a n on backs =
        let cd = expr_code marks locals line d in
        let ce = expr_code marks locals line e in
        let i = slot_of x locals.arrays in
        let xs = array_of frame x in
        let instr' = instr.SetElement (array_at marks i) line in
        let rest = has_back code.instrs pc cd (ce ++ instr' ∷ []) has in
        let place : pc + length cd + length (ce ++ instr' ∷ []) ≡ pc + length (cd ++ (ce ++ instr' ∷ [])) = omega (arith, length-append cd (ce ++ instr' ∷ [])) in
        expr_runs code marks depth around locals taken' d line pc [] store outer frame t left
        (λ v l u. resume u (then_do (pay_for (and_then (evaluate e frame) (written xs v)) line l)
        (λ w. going (frames.set_array x (slice_set xs (natural v) w) frame))) next)
        (has_front code.instrs pc cd (ce ++ instr' ∷ []) has) fine.1 a
        (λ v l u le. value_runs code marks depth around locals locals taken' e line (pc + length cd) i (v ∷ []) size instr' store outer frame
        (λ w. slice_set xs (natural v) w) (written xs v) (λ w. frames.set_array x (slice_set xs (natural v) w) frame) u l next rest fine.2 a n fine.0.own
        (λ w p u'. ap (λ o. on_slot o (λ ys. set_array (at around p (w ∷ v ∷ []) store u') (array_at marks i) line []
        (λ z. slice_set ys (natural v) z) (written ys v w))) (get_owned marks i store.arrays fine.0.own ∙ finds locals taken' x frame store outer fine.0.usable a))
        (λ w. replaces locals taken' x (slice_set xs (natural v) w) frame store outer fine.0.usable a)
        (λ g st l' u' ag ln le'. ap (λ q. steps code l' (at around q [] st u')) place ∙ on refl g st l' u' ag ln (omega arith)))
        ∙ sym (resume_then t (pay_for (evaluate d frame) line left) (λ v. then_do_after
        (λ w. going (frames.set_array x (slice_set xs (natural v) w) frame)) (pay_for (and_then (evaluate e frame) (written xs v)) line)) next)
        ∙ sym (ap (λ q. resume t (then_do (pay_for q line left) (λ v. then_do_after
        (λ w. going (frames.set_array x (slice_set xs (natural v) w) frame)) (pay_for (and_then (evaluate e frame) (written xs v)) line))) next)
        (not_dearer x d frame a.whole))
    stmt_runs around returns level locals taken' (Cut x e y z b) line pc size store outer frame t left next at_level out within has fine a n on backs =
        cut_runs code fs lists small least marks depth calls around level locals taken' x y z e b line pc size store outer frame t left next at_level has fine.0 fine.1 fine.2 fine.4 a n
        (λ around' l0 below st1 w1 g1 t1 l1 next1 le1 a1 n1 on1 backs1. block_runs around' Nowhere (level + 1) (with_array z (with_array y locals))
        ((x, CutOf) ∷ taken') b (pc + length (expr_code marks locals line e) + 1) size st1 (w1 ∷ outer) g1 t1 l1 next1 (omega (arith, at_level)) tt
        (omega (arith, within, below, le1))
        (has_front code.instrs (pc + length (expr_code marks locals line e) + 1)
        (block_code (first_list code.sites) marks lists (with_array z (with_array y locals)) b) (instr.EndCut ∷ [])
        (has_back code.instrs pc (expr_code marks locals line e) (instr.Cut
        (halves_at marks (slot_of x locals.arrays) (length locals.arrays) (suc (length locals.arrays))) line
        ∷ (block_code (first_list code.sites) marks lists (with_array z (with_array y locals)) b ++ instr.EndCut ∷ [])) has).1) fine.3 a1 n1 on1 backs1)
        (on refl)
    stmt_runs around returns level locals taken' (Assign x e) line pc size store outer frame t left next at_level out within has fine a n on backs =
        store_runs code marks depth around locals locals taken' e line pc (slot_of x locals.ints) size store outer frame (λ v. set_int x v frame) t left next has fine.1 a n
        (writes locals taken' x frame store outer fine.0 a)
        (λ v. assigns locals taken' x v frame store outer fine.0 a) (on refl)
    stmt_runs around returns level locals taken' (Reduce how s e) line pc size store outer frame t left next at_level out within has fine a n on backs =
        tells_runs code marks depth around locals taken' e line pc size (instr.Reduce (slot_of s lists.reducers)) store outer frame
        (λ v. record { lines = []; updates = (s, v) ∷ []; events = [] }) t left next has fine.1 a n
        (λ v place u. ap (λ o. adds (at around place (v ∷ []) store u) o v [])
        (listed (reducer_names code.reducers) lists.reducers s reducers_are fine.0)
        ∙ ap (λ q. On (at around (place + 1) [] store q)) (told_after u [] ((s, v) ∷ []))) (on refl)
    stmt_runs around returns level locals taken' (Print e) line pc size store outer frame t left next at_level out within has fine a n on backs =
        tells_runs code marks depth around locals taken' e line pc size instr.Print store outer frame (λ v. record { lines = v ∷ []; updates = []; events = [] }) t left next has fine a n
        (λ v place u. ap (λ q. On (at around (place + 1) [] store q)) (told_after u (v ∷ []) [])) (on refl)
    stmt_runs around returns level locals taken' (Call kind site target name es) line pc size store outer frame t left next at_level out within has fine a n on backs =
        let f = function_named name fs in
        let i = instr.Call kind (callee_of line site (option_map (λ x. slot_of x locals.ints) target) (slot_of name lists.functions)) in
        let ces = args_code marks locals line f.params es in
        let all = args_code marks locals line (params_of lists name) es in
        let same : all ≡ ces = ap (λ ps. args_code marks locals line ps es) fine.8 in
        let has' : HasAt code.instrs pc (ces ++ i ∷ []) = subst (λ is. HasAt code.instrs pc (is ++ i ∷ [])) same has in
        let entry = table.entry name fine.0 in
        let there = (has_back code.instrs pc ces (i ∷ []) has').0 in
        let place : pc + length ces + 1 ≡ pc + length (all ++ i ∷ []) = omega (arith, length-append all (i ∷ []), ap length same) in
        args_run code marks depth around locals taken' f.params es line pc [] store outer frame no_frame t left
        (λ given l u. resume u (then_do (pay 1 l) (λ _ l'. then_do (joined_up (call_event kind site) (calls Deeper f given line l')) (leaves target f.params es frame))) next)
        (has_front code.instrs pc ces (i ∷ []) has') fine.2 a
        (λ vs given l u m bound_frame le. call_runs code fs lists marks depth bound calls run_calls around locals taken' level kind site line
        (pc + length ces) size target name es entry.0 vs given store outer frame u l next there entry.1
        (ap slots_named fine.4 ∙ passed_slots marks locals taken' f.params es fine.2)
        (ap loans_named fine.6 ∙ lent_slots marks locals taken' f.params es fine.2) fine.7 at_level entry.2
        (m ∙ sym entry.2.params) bound_frame fine.1 fine.2 fine.3 a n (omega arith)
        (λ g st l' u' ag ln le'. ap (λ q. steps code l' (at around q [] st u')) place
        ∙ on refl g st l' u' (subst (λ q. Agrees locals q g st outer) (call_holds kind site target name es level taken') ag) ln (omega arith)))
        ∙ sym (resume_then t (arguments f.params es frame line no_frame left)
        (λ given l. then_do (pay 1 l) (λ _ l'. then_do (joined_up (call_event kind site) (calls Deeper f given line l')) (leaves target f.params es frame))) next)
    stmt_runs around returns level locals taken' (Start kind name es) line pc size store outer frame t left next at_level out within has fine a n on backs =
        let f = function_named name fs in
        let first = first_list code.sites in
        let i = instr.Recur kind (half_of first kind (slot_of name lists.functions)) in
        let ces = args_code marks locals line f.params es in
        let all = args_code marks locals line (params_of lists name) es in
        let same : all ≡ ces = ap (λ ps. args_code marks locals line ps es) fine.6 in
        let has' : HasAt code.instrs pc (ces ++ i ∷ []) = subst (λ is. HasAt code.instrs pc (is ++ i ∷ [])) same has in
        let entry = table.entry name fine.0 in
        let there = (has_back code.instrs pc ces (i ∷ []) has').0 in
        let place : pc + length ces + 1 ≡ pc + length (all ++ i ∷ []) = omega (arith, length-append all (i ∷ []), ap length same) in
        args_run code marks depth around locals taken' f.params es line pc [] store outer frame no_frame t left
        (λ given l u. resume u (then_do (pay 1 l) (λ _ l'. then_do (joined_up (start_event kind) (calls SameDepth f given line l')) (leaves None f.params es frame))) next)
        (has_front code.instrs pc ces (i ∷ []) has') fine.2 a
        (λ vs given l u m bound_frame le. recur_runs code fs lists marks depth bound calls run_calls around locals taken' level kind first line
        (pc + length ces) size name es entry.0 vs given store outer frame u l next shallow there entry.1
        (ap slots_named fine.4 ∙ passed_slots marks locals taken' f.params es fine.2) fine.5 at_level entry.2
        (m ∙ sym entry.2.params) bound_frame fine.2 fine.3 a n (omega arith)
        (λ g st l' u' ag ln le'. ap (λ q. steps code l' (at around q [] st u')) place
        ∙ on refl g st l' u' (subst (λ q. Agrees locals q g st outer) (start_holds kind name es level taken') ag) ln (omega arith)))
        ∙ sym (resume_then t (arguments f.params es frame line no_frame left)
        (λ given l. then_do (pay 1 l) (λ _ l'. then_do (joined_up (start_event kind) (calls SameDepth f given line l')) (leaves None f.params es frame))) next)
    stmt_runs around returns level locals taken' (Begin name from to captured over) line pc size store outer frame t left next at_level out within has fine a n on backs =
        let entry = table.entry name fine.0 in
        begin_runs code fs lists marks depth bound calls run_calls around locals taken' level
        (first_list code.sites) line pc size name from to captured over entry.0 store outer frame t left next shallow has entry.1
        (ap slots_named fine.7) at_level entry.2 fine.1 fine.2 fine.3 fine.4 fine.5 fine.6 a n within
        (λ g st l' u' ag ln le'. on refl g st l' u' ag ln le')
    stmt_runs around returns level locals taken' Sync line pc size store outer frame t left next at_level out within has fine a n on backs =
        syncs code (Normal frame) (at around pc [] store t) t left next (λ l below. one code (at around pc [] store t) instr.Sync has.0 l
        ∙ ap (λ s'. steps code l s') (joins_at code fs lists small least marks depth calls around (pc + 1) store (record { ints = []; arrays = [] }) (synced t) n.own)
        ∙ on refl frame (joined_with store (record { ints = []; arrays = [] })) l (synced t)
        (subst (λ k. Agrees locals (freed k taken') frame (joined_with store (record { ints = []; arrays = [] })) outer) (sym at_level)
        (joins locals taken' frame store outer a)) (fills_joined marks store (record { ints = []; arrays = [] }) size tt n) (omega arith))
    stmt_runs around returns level locals taken' (If e b) line pc size store outer frame t left next at_level out within has fine a n on backs =
        let ce = expr_code marks locals line e in
        let cb = block_code (first_list code.sites) marks lists locals b in
        let i = instr.SkipIfZero (distance (length cb)) in
        let after_it = without (own_names b) (held_after_all fs level b taken') in
        let at_test = has_back code.instrs pc ce (i ∷ cb) has in
        let near : pc + length ce + 1 + length cb ≡ pc + length (ce ++ i ∷ cb) = omega (arith, length-append ce (i ∷ cb)) in
        let far : pc + length ce + 1 + distance (length cb) ≡ pc + length (ce ++ i ∷ cb) = omega (arith, near, in_reach code fs lists small least marks depth calls pc ce cb i has) in
        let has_test : HasAt code.instrs pc (ce ++ i ∷ []) = has_front code.instrs pc (ce ++ i ∷ []) cb (subst (λ is. HasAt code.instrs pc is) (sym (append_assoc ce (i ∷ []) cb)) has) in
        test_runs code marks depth around locals taken' e line pc (distance (length cb)) store outer frame
        (λ v. if is_zero v then going frame else scoped frame (run_all b fs calls frame)) t left next has_test fine.0 a
        (λ v l u le. either code marks depth around (is_zero v) (pc + length ce + 1 + distance (length cb)) (pc + length ce + 1) store (going frame) (scoped frame (run_all b fs calls frame)) l u next
        (ap (λ q. steps code l (at around q [] store u)) far
        ∙ on refl frame store l u (takes locals taken' (where_it_goes_on (block_returns b) after_it ++ taken') frame store outer
        (λ cuts d x h. holds_behind cuts d x (where_it_goes_on (block_returns b) after_it) taken' h) a) n le
        ∙ ap (next (Normal frame) l) (sym (joined_quiet u)))
        (scoped_runs code fs lists small least marks depth calls around returns level locals taken' b (pc + length ce + 1) (pc + length ce + 1 + length cb) size outer left fine.2
        (λ st1 g1 t1 l1 next1 le1 a1 n1 on1 backs1. block_runs around returns level locals taken' b
        (pc + length ce + 1) size st1 outer g1 t1 l1 next1 at_level out (omega arith) at_test.1 fine.1 a1 n1 on1 backs1)
        store frame u l next le a n
        (λ goes g st l' u' ag ln le'. ap (λ q. steps code l' (at around q [] st u')) near
        ∙ on refl g st l' u' (takes locals after_it (where_it_goes_on (block_returns b) after_it ++ taken') g st outer
        (λ cuts d x h. holds_before cuts d x (where_it_goes_on (block_returns b) after_it) taken'
        (ap (λ r. holds cuts d x (where_it_goes_on r after_it)) goes ∙ h)) ag) ln (omega arith))
        (λ v' g arrays l' u' may gives le'. backs v' g arrays l' u' may gives (omega arith))))
    stmt_runs around returns level locals taken' (IfElse e b c) line pc size store outer frame t left next at_level out within has fine a n on backs =
        let ce = expr_code marks locals line e in
        let cb = block_code (first_list code.sites) marks lists locals b in
        let cc' = block_code (first_list code.sites) marks lists locals c in
        let r = emit.returns (slotted_block lists locals b) in
        let j = instr.Skip (past r (length cc')) in
        let i = instr.SkipIfZero (distance (length (cb ++ j ∷ []))) in
        let one_part = ce ++ i ∷ (cb ++ j ∷ []) in
        let after_b = without (own_names b) (held_after_all fs level b taken') in
        let after_c = without (own_names c) (held_after_all fs level c taken') in
        let both = where_it_goes_on (block_returns b) after_b ++ where_it_goes_on (block_returns c) after_c in
        let assoc : ce ++ (i ∷ (cb ++ j ∷ []) ++ cc') ≡ one_part ++ cc' = sym (append_assoc ce (i ∷ (cb ++ j ∷ [])) cc') in
        let has_all : HasAt code.instrs pc (one_part ++ cc') = subst (λ is. HasAt code.instrs pc is) assoc has in
        let has_one : HasAt code.instrs pc one_part = has_front code.instrs pc one_part cc' has_all in
        let at_c = has_back code.instrs pc one_part cc' has_all in
        let at_test = has_back code.instrs pc ce (i ∷ (cb ++ j ∷ [])) has_one in
        let has_b = has_front code.instrs (pc + length ce + 1) cb (j ∷ []) at_test.1 in
        let at_j = (has_back code.instrs (pc + length ce + 1) cb (j ∷ []) at_test.1).0 in
        let n_b : length (cb ++ j ∷ []) ≡ length cb + 1 = length-append cb (j ∷ []) in
        let n_one : length one_part ≡ length ce + 1 + length cb + 1 = omega (arith, length-append ce (i ∷ (cb ++ j ∷ [])), n_b) in
        let n_all : length (one_part ++ cc') ≡ length one_part + length cc' = length-append one_part cc' in
        let far : pc + length ce + 1 + distance (length (cb ++ j ∷ [])) ≡ pc + length one_part =
        omega (arith, n_one, n_b, in_reach code fs lists small least marks depth calls pc ce (cb ++ j ∷ []) i has_one) in
        let near_c : pc + length one_part + length cc' ≡ pc + length (ce ++ (i ∷ (cb ++ j ∷ []) ++ cc')) = omega (arith, n_all, ap length assoc) in
        let reach : distance (length cc') ≡ length cc' = distance_is (length cc') (omega (arith, length_within code.instrs pc (one_part ++ cc') has_all, n_all, small)) in
        let has_test : HasAt code.instrs pc (ce ++ i ∷ []) = has_front code.instrs pc (ce ++ i ∷ []) (cb ++ j ∷ [])
        (subst (λ is. HasAt code.instrs pc is) (sym (append_assoc ce (i ∷ []) (cb ++ j ∷ []))) has_one) in
        let ends : Frame → ℕ → Outcome Completion = λ frame' l'. then_do (pay 1 l') (λ _. going frame') in
        let other_way : ℕ → Outcome Completion = λ l'. then_do (scoped frame (run_all b fs calls frame) l') (λ way. onward way ends) in
        test_runs code marks depth around locals taken' e line pc (distance (length (cb ++ j ∷ []))) store outer frame
        (λ v. if is_zero v then scoped frame (run_all c fs calls frame) else other_way) t left next has_test fine.0 a
        (λ v l u le. either code marks depth around (is_zero v) (pc + length ce + 1 + distance (length (cb ++ j ∷ []))) (pc + length ce + 1) store
        (scoped frame (run_all c fs calls frame)) other_way l u next
        (ap (λ q. steps code l (at around q [] store u)) far
        ∙ scoped_runs code fs lists small least marks depth calls around returns level locals taken' c (pc + length one_part) (pc + length one_part + length cc') size outer left fine.2.1
        (λ st1 g1 t1 l1 next1 le1 a1 n1 on1 backs1. block_runs around returns level locals taken' c
        (pc + length one_part) size st1 outer g1 t1 l1 next1 at_level out (omega arith) at_c fine.2.0 a1 n1 on1 backs1)
        store frame u l next le a n
        (λ goes g st l' u' ag ln le'. ap (λ q. steps code l' (at around q [] st u')) near_c
        ∙ on (second_false (block_returns b) (block_returns c) goes) g st l' u'
        (takes locals after_c both g st outer (λ cuts d x h. holds_behind cuts d x (where_it_goes_on (block_returns b) after_b)
        (where_it_goes_on (block_returns c) after_c) (ap (λ q. holds cuts d x (where_it_goes_on q after_c)) goes ∙ h)) ag) ln (omega arith))
        (λ v' g arrays l' u' may gives le'. backs v' g arrays l' u' may gives (omega arith)))
        (scoped_runs code fs lists small least marks depth calls around returns level locals taken' b (pc + length ce + 1) (pc + length ce + 1 + length cb) size outer left fine.1.1
        (λ st1 g1 t1 l1 next1 le1 a1 n1 on1 backs1. block_runs around returns level locals taken' b
        (pc + length ce + 1) size st1 outer g1 t1 l1 next1 at_level out (omega arith) has_b fine.1.0 a1 n1 on1 backs1)
        store frame u l (λ way l2 u2. resume u2 (onward way ends l2) next) le a n
        (λ goes g st l2 u2 ag ln le2.
        let over : past r (length cc') ≡ length cc' = ap (λ q. distance (if q then 0 else length cc')) (returns_same lists locals b ∙ goes) ∙ reach in
        let past_c : pc + length ce + 1 + length cb + 1 + past r (length cc') ≡ pc + length (ce ++ (i ∷ (cb ++ j ∷ []) ++ cc')) = omega (arith, over, n_all, n_one, ap length assoc) in
        pays_last code (Normal g) (at around (pc + length ce + 1 + length cb) [] st u2) u2 l2 next (λ l3 below3.
        one code (at around (pc + length ce + 1 + length cb) [] st u2) j at_j l3
        ∙ ap (λ q. steps code l3 (at around q [] st (ticked u2))) past_c
        ∙ on (first_false (block_returns b) (block_returns c) goes) g st l3 (ticked u2)
        (takes locals after_b both g st outer (λ cuts d x h. holds_before cuts d x (where_it_goes_on (block_returns b) after_b)
        (where_it_goes_on (block_returns c) after_c) (ap (λ q. holds cuts d x (where_it_goes_on q after_b)) goes ∙ h)) ag) ln (omega arith)))
        (λ v' g arrays l2 u2 may gives le2. backs v' g arrays l2 u2 may gives (omega arith) ∙ ap (next (ByReturn v' g) l2) (sym (joined_quiet u2)))
        ∙ sym (resume_then u (scoped frame (run_all b fs calls frame) l) (λ way. onward way ends) next)))
    stmt_runs around returns level locals taken' (While e b) line pc size store outer frame t left next at_level out within has fine a n on backs =
        let all = held_after fs level (While e b) taken' in
        let ce = expr_code marks locals line e in
        let cb = block_code (first_list code.sites) marks lists locals b in
        let j = instr.GoBack (distance (length ce + 1 + length cb)) in
        let i = instr.SkipIfZero (distance (length (cb ++ j ∷ []))) in
        let at_test = has_back code.instrs pc ce (i ∷ (cb ++ j ∷ [])) has in
        while_runs code fs lists small least marks depth calls (suc left) around returns level locals taken' e b line pc size outer left fine.3 has fine.0
        (scoped_runs code fs lists small least marks depth calls around returns level locals all b (pc + length ce + 1) (pc + length ce + 1 + length cb) size outer left fine.2
        (λ st1 g1 t1 l1 next1 le1 a1 n1 on1 backs1. block_runs around returns level locals all b
        (pc + length ce + 1) size st1 outer g1 t1 l1 next1 at_level out (omega arith)
        (has_front code.instrs (pc + length ce + 1) cb (j ∷ []) at_test.1) fine.1 a1 n1 on1 backs1))
        store frame t left next (omega arith) (omega arith)
        (takes locals taken' all frame store outer (λ cuts d x h. holds_before cuts d x taken'
        (where_it_goes_on (block_returns b) (without (own_names b) (held_after_all fs level b taken'))) h) a) n (on refl) backs
    stmt_runs around returns level locals taken' (Scope b) line pc size store outer frame t left next at_level out within has fine a n on backs =
        inside_block code fs lists small least marks depth calls around returns level locals taken' b block.Scope None pc size store outer frame t left next at_level has (λ s. refl) fine.1 a n
        (λ around' l0 below st1 g1 t1 l1 next1 le1 a1 n1 on1 backs1. block_runs around' Nowhere (level + 1) locals taken' b (pc + 1) size st1
        (waits_of store ∷ outer) g1 t1 l1 next1 (omega (arith, at_level)) tt (omega (arith, within, below, le1))
        (has_front code.instrs (pc + 1) (block_code (first_list code.sites) marks lists locals b) (instr.Close ∷ []) has.1) fine.0 a1 n1 on1 backs1)
        (on refl)
    stmt_runs around returns level locals taken' (Region tag b) line pc size store outer frame t left next at_level out within has fine a n on backs =
        inside_block code fs lists small least marks depth calls around returns level locals taken' b (block.Region (slot_of tag lists.tags))
        (Some tag) pc size store outer frame t left next at_level has
        (λ s. ap (λ o. opened_region s o) (listed code.tags lists.tags tag tags_are fine.0)) fine.2 a n
        (λ around' l0 below st1 g1 t1 l1 next1 le1 a1 n1 on1 backs1. block_runs around' Nowhere (level + 1) locals taken' b (pc + 1) size st1
        (waits_of store ∷ outer) g1 t1 l1 next1 (omega (arith, at_level)) tt (omega (arith, within, below, le1))
        (has_front code.instrs (pc + 1) (block_code (first_list code.sites) marks lists locals b) (instr.Close ∷ []) has.1) fine.1 a1 n1 on1 backs1)
        (on refl)
    stmt_runs around returns level locals taken' (Return None) line pc size store outer frame t left next at_level out within has fine a n on backs =
        syncs code (ByReturn None frame) (at around pc [] store t) t left next (λ l below.
        one code (at around pc [] store t) instr.Return has.0 l ∙ backs None frame
        (settled (marked_results marks store.arrived) (owned marks store.arrays)) l (synced t) (returns_none returns locals taken' fine.0)
        (gives_back marks size locals taken' frame store outer (outermost returns locals taken' None outer fine.0 out) fine.1 a n.own) (omega arith))
    stmt_runs around returns level locals taken' (Return (Some e)) line pc size store outer frame t left next at_level out within has fine a n on backs =
        let ce = expr_code marks locals line e in
        let there = (has_back code.instrs pc ce (instr.ReturnValue ∷ []) has).0 in
        expr_runs code marks depth around locals taken' e line pc [] store outer frame t left
        (λ v l u. resume u (after (shows (Join ∷ [])) (then_do (pay 1 l) (λ _. gives (ByReturn (Some v) frame)))) next)
        (has_front code.instrs pc ce (instr.ReturnValue ∷ []) has) (returns_expr returns locals taken' e fine.0) a
        (λ v l u le. syncs code (ByReturn (Some v) frame) (at around (pc + length ce) (v ∷ []) store u) u l next (λ l' below.
        one code (at around (pc + length ce) (v ∷ []) store u) instr.ReturnValue there l'
        ∙ backs (Some v) frame (settled (marked_results marks store.arrived) (owned marks store.arrays)) l' (synced u)
        (returns_some returns locals taken' e v fine.0) (gives_back marks size locals taken' frame store outer
        (outermost returns locals taken' (Some e) outer fine.0 out) fine.1 a n.own) (omega arith)))
        ∙ sym (resume_then t (pay_for (evaluate e frame) line left) (λ v l. after (shows (Join ∷ [])) (then_do (pay 1 l) (λ _. gives (ByReturn (Some v) frame)))) next)
    stmt_runs around returns level locals taken' _ line pc size store outer frame t left next at_level out within has fine a n on backs = absurd fine

    -- the code of a block executes its statements
    pub block_runs : (around : List Around) (returns : Returns) (level : ℕ) (locals : Locals) (taken' : Taken) (b : Block) (pc : ℕ) (size : Room)
        (store : Store) (outer : Outside) (frame : Frame) (t : Trace) (left : ℕ) (next : Completion → ℕ → Trace → RunOutcome) →
        level ≡ suc (length outer) → Outermost returns outer → left ≤ bound
        → HasAt code.instrs pc (block_code (first_list code.sites) marks lists locals b)
        → BlockFine fs lists (tables_in code) marks size returns level locals taken' b → Agrees locals taken' frame store outer → Fills marks store size →
        (block_returns b ≡ false → Onwards code marks depth around (locals_after_all locals b) (held_after_all fs level b taken')
        (pc + length (block_code (first_list code.sites) marks lists locals b)) outer size left next) → Backs code marks depth returns size around left next →
        steps code left (at around pc [] store t) ≡ resume t (run_all b fs calls frame left) next
    block_runs around returns level locals taken' End pc size store outer frame t left next at_level out within has fine a n on backs =
        let e : pc ≡ pc + 0 = omega arith in
        ap (λ m. steps code left (at around m [] store t)) e ∙ on refl frame store left t a n (omega arith) ∙ ap (next (Normal frame) left) (sym (joined_quiet t))
    block_runs around returns level locals taken' (Then line s b) pc size store outer frame t left next at_level out within has fine a n on backs =
        let cs = stmt_code (first_list code.sites) marks lists locals line s in
        let cb = block_code (first_list code.sites) marks lists (locals_after locals s) b in
        stmt_runs around returns level locals taken' s line pc size store outer frame t left (λ way l u. resume u (onward way (λ frame'. run_all b fs calls frame') l) next)
        at_level out within (has_front code.instrs pc cs cb has) fine.0 a n
        (λ goes frame' store' l u a' n' le. block_runs around returns level (locals_after locals s) (held_after fs level s taken') b
        (pc + length cs) size store' outer frame' u l next at_level out (omega arith) (has_back code.instrs pc cs cb has) fine.1 a' n'
        (λ more g st l' u' ag ln le'.
        let place : pc + length cs + length cb ≡ pc + length (cs ++ cb) = omega (arith, length-append cs cb) in
        ap (λ q. steps code l' (at around q [] st u')) place ∙ on (both_go_on line s b goes more) g st l' u' ag ln (omega arith))
        (λ v g arrays l' u' may gives le'. backs v g arrays l' u' may gives (omega arith)))
        (λ v g arrays l u may gives le. backs v g arrays l u may gives le ∙ ap (next (ByReturn v g) l) (sym (joined_quiet u)))
        ∙ sym (resume_then t (meaning.run s line fs calls frame left) (λ way. onward way (λ frame'. run_all b fs calls frame')) next)
