-- Each statement of the source behaves as its lowered text.
use Rattle.std.proofs.Common.{◌≡◌, ℕ, ◌+◌, ◌-◌, ◌≤◌, ◌<◌, true, false, ℤ, pos, List, [], ◌∷◌, ◌++◌, length, arith, ◌∙◌, ap, append_assoc, append-nil}
use Rattle.std.specs.Prelude.{not, ◌&&◌, ◌==◌, nat_lt, nat_le, map, Some, None}
use Rattle.std.proofs.lemmas.Bool.{leb-true, eqb-true, and_parts}
use Rattle.cw_facts.specs.Tests.{not_true}
use Rattle.cw_model.specs.declared.limits.TheConstants.{MOST_DEPTH}
use Rattle.cw_model.specs.Syntax.{Name, Expr, Stmt, Declare, DeclareArray, Assign, AssignElement, Reduce, Call, Start, Begin, Sync, If}
use Rattle.cw_model.specs.Syntax.{IfElse, While, For, Scope, Cut, Region, Print, Return, Block, End, Then, Function}
use Rattle.cw_model.specs.Names.{same_name, is_among}
use Rattle.cw_model.specs.Captured.{captured}
use Rattle.cw_model.specs.Frames.{Frame, array_of, int_of}
use Rattle.cw_model.specs.Expressions.{evaluate, and_then, Gives}
use Rattle.cw_model.specs.Outcome.{Outcome}
use Rattle.cw_model.specs.Loops.{loop_iterations}
use Rattle.cw_model.specs.Meaning.{Completion, Deeper, Calls, function_named, run, run_all, call}
use Rattle.cw_loops.specs.Lowered.{is_plain, lower_expr, lower_stmt, lower_block, loop_count, loop_count_in, made_by, made_in, loop_function, loop_name}
use Rattle.cw_loops.specs.Lowerable.{Surroundings, can_evaluate, can_lower, can_lower_all, can_loop, can_target, can_pass_all, can_write, is_local, new_integers, new_arrays, integers_of, arrays_of}
use Rattle.cw_loops.specs.lemmas.Finding.{Found, found_left, found_right}
use Rattle.cw_loops.proofs.Alike.{Alike, Whole, alike_pay, alike_then, alike_weaken}
use Rattle.cw_loops.proofs.Arguments.{Fresh}
use Rattle.cw_loops.proofs.Tables.{keys}
use Rattle.cw_loops.proofs.Fitting.{Good, evaluate_fits}
use Rattle.cw_loops.proofs.Worlds.{World, Rel, related, source, target, evaluate_same, can_fit, local_same}
use Rattle.cw_loops.proofs.Statements.{Out, returns, OutAll, alike_done, value_then, declare_alike, declare_array_alike, assign_alike, reduce_alike, print_alike, sync_alike, return_alike}
use Rattle.cw_loops.proofs.Blocks.{write_alike, out_before, onward_then}
use Rattle.cw_loops.proofs.Control.{if_alike, if_else_alike, while_alike, scope_alike, region_alike, stays}
use Rattle.cw_loops.proofs.Fresh.{taken_of, keys-taken}
use Rattle.cw_loops.proofs.Turn.{turn_scope}
use Rattle.cw_loops.proofs.Loop.{such_paid, Counted, turns_counted}
use Rattle.cw_loops.proofs.For.{LoopTests, loop_tests, begun}
use Rattle.cw_loops.proofs.CutStatement.{cut_alike}
use Rattle.cw_loops.proofs.Calls.{CallSame, call_alike}
use Rattle.cw_loops.specs.lemmas.Naming.{map_same}

-- no names are declared
no_more : {c : Surroundings} {fo go : List (Name × ℤ)} {Slot : (fa ga : List (Name × List ℤ)) → Type 0} {ints arrays : List Name} {before : Frame} {given : ℕ} {o o' : Outcome Completion} →
    Alike (Out c fo go Slot ints arrays before) given o o' → Alike (Out c fo go Slot (ints ++ []) (arrays ++ []) before) given o o'
no_more {ints = ints} {arrays = arrays} h = rw (append-nil ints, append-nil arrays) h

module _ (fs fs' : List Function) (calls : Calls) (depth : ℕ) (shallow : nat_lt MOST_DEPTH depth ≡ false) (limit : ℕ)
    (params_same : (g : Name) → is_plain g ≡ true → (function_named g fs').params ≡ (function_named g fs).params)
    (params_once : (g : Name) → is_plain g ≡ true → Fresh [] (arrays_of (function_named g fs).params))
    (deeper : (g : Name) → is_plain g ≡ true → (given : Frame) (line left bound : ℕ) → left < limit → left < bound → Good given → given.sliced ≡ []
    → keys given.ints ≡ integers_of (function_named g fs).params → keys given.arrays ≡ arrays_of (function_named g fs).params
    → Whole (CallSame given) left (calls Deeper (function_named g fs) given line left) (call bound depth fs' Deeper (function_named g fs') given line left)) where
  -- a statement, in every context
  abbrev StmtAlike : Stmt → Type 1
  StmtAlike s = (c : Surroundings) (fo go : List (Name × ℤ)) (Slot : (fa ga : List (Name × List ℤ)) → Type 0) → World c fo go Slot → c.functions ≡ fs
      → (ints arrays : List Name) → can_lower c ints arrays s ≡ true → (k line : ℕ) → Found fs' (made_by line k s) →
      (f g : Frame) → Rel c fo go Slot ints arrays f g → (left bound : ℕ) → left ≤ limit → left ≤ bound →
      Alike (Out c fo go Slot (ints ++ new_integers s) (arrays ++ new_arrays s) f) left (run s line fs calls f left) (run (lower_stmt c.over k s) line fs' (call bound depth fs') g left)

  abbrev AllAlike : Block → Type 1
  AllAlike b = (c : Surroundings) (fo go : List (Name × ℤ)) (Slot : (fa ga : List (Name × List ℤ)) → Type 0) → World c fo go Slot → c.functions ≡ fs
      → (ints arrays : List Name) → can_lower_all c ints arrays b ≡ true → (k : ℕ) → Found fs' (made_in k b) →
      (f g : Frame) → Rel c fo go Slot ints arrays f g → (left bound : ℕ) → left ≤ limit → left ≤ bound →
      Alike (OutAll c fo go Slot ints arrays f) left (run_all b fs calls f left) (run_all (lower_block c.over k b) fs' (call bound depth fs') g left)

  for_alike : (x y z : Name) (from to : Expr) (grain : ℕ) (over : List Name) (b : Block) → AllAlike b → StmtAlike (For x y z from to grain over b)
  for_alike x y z from to grain over b more c fo go Slot w fine ints arrays can k line found f g (related loc fa ga la slot ki ka good) left bound h1 h2 =
      let c1 = and_parts (can_evaluate c from) _ can in
      let c2 = and_parts (can_evaluate c to) _ c1.1 in
      let c3 = and_parts (nat_le 1 grain) _ c2.1 in
      let c4 = and_parts (can_loop c ints arrays x (captured x b) over) _ c3.1 in
      let tests : LoopTests c ints arrays x (captured x b) over = loop_tests c ints arrays x (captured x b) over c4.0 in
      let taken : List Name = captured x b in
      let g0 : Frame = target go loc ga la in
      let some : 1 ≤ grain = leb-true 1 grain c3.0 in
      let here = (found_right fs' (made_in k b) (loop_function (loop_name (k + loop_count_in b)) line x grain taken over (lower_block over k b) ∷ []) found).0 in
      let inner = found_left fs' (made_in k b) (loop_function (loop_name (k + loop_count_in b)) line x grain taken over (lower_block over k b) ∷ []) found in
      let names : keys (taken_of (int_of g0) taken) ≡ taken = keys-taken (int_of g0) taken in
      let scope : Surroundings = turn_scope c.functions (c.outer ++ ints) (c.arrays ++ arrays) c.sliced x (keys (taken_of (int_of g0) taken)) over in
      let can' : can_lower_all scope [] [] b ≡ true = ap (λ t. can_lower_all (turn_scope c.functions (c.outer ++ ints) (c.arrays ++ arrays) c.sliced x t over) [] [] b) names ∙ c4.1 in
      let same_arrays : map (array_of g0) over ≡ map (array_of (source c fo loc fa la)) over =
      map_same (array_of g0) (array_of (source c fo loc fa la)) over (λ a o. local_same c fo go Slot w fa ga la slot a (tests.slices a o).1) in
      no_more
      (value_then (evaluate from f) (evaluate (lower_expr c.over from) g) line left (evaluate_same c fo go Slot w from c1.0 loc fa ga la slot)
      (evaluate_fits from f good (can_fit c from c1.0)) _ _ (λ lo l lo_fits le.
      value_then (evaluate to f) (evaluate (lower_expr c.over to) g) line l (evaluate_same c fo go Slot w to c2.0 loc fa ga la slot)
      (evaluate_fits to f good (can_fit c to c2.0)) _ _ (λ hi l' hi_fits le'.
      alike_pay (length taken) l' _ _ (λ enough.
      such_paid (Counted lo hi (map (array_of (source c fo loc fa la)) over)) (loop_iterations lo hi (map (array_of (source c fo loc fa la)) over))
      (and_then (Gives (pos 0) 0) (λ v. loop_iterations lo hi (map (array_of g0) over))) line (l' - length taken)
      (ap (λ xs. and_then (Gives (pos 0) 0) (λ v. loop_iterations lo hi xs)) same_arrays) (turns_counted lo hi (map (array_of (source c fo loc fa la)) over) lo_fits hi_fits) _ _ (λ v l'' counted le''.
      rw counted.is
      (begun c fo go Slot w ints arrays loc fa ga la slot ki ka good fs fs' calls depth shallow limit line x grain taken over b (lower_block over k b) (loop_name (k + loop_count_in b)) some tests here
      (λ fo' go' Slot' w' f' g' rel' l3 bound' e1 e2. more scope fo' go' Slot' w' fine [] [] can' k inner f' g' rel' l3 bound' e1 (omega arith))
      lo counted.count counted.small lo_fits counted.end_fits counted.lies l'' bound (omega arith) (omega arith)))))))

  mutual
    stmt_alike : (s : Stmt) → StmtAlike s
    stmt_alike (Declare x e) c fo go Slot w fine ints arrays can k line found f g (related loc fa ga la slot ki ka good) left bound h1 h2 =
        rw (append-nil arrays) (declare_alike c fo go Slot w ints arrays loc fa ga la slot ki ka good x e can line left fs fs' calls (call bound depth fs'))
    stmt_alike (DeclareArray a e) c fo go Slot w fine ints arrays can k line found f g (related loc fa ga la slot ki ka good) left bound h1 h2 =
        rw (append-nil ints) (declare_array_alike c fo go Slot w ints arrays loc fa ga la slot ki ka good a e can line left fs fs' calls (call bound depth fs'))
    stmt_alike (Assign x e) c fo go Slot w fine ints arrays can k line found f g (related loc fa ga la slot ki ka good) left bound h1 h2 =
        let p = and_parts (can_write c x) (can_evaluate c e) can in
        no_more (assign_alike c fo go Slot w ints arrays loc fa ga la slot ki ka good x e p.0 p.1 line left fs fs' calls (call bound depth fs'))
    stmt_alike (AssignElement a i e) c fo go Slot w fine ints arrays can k line found f g (related loc fa ga la slot ki ka good) left bound h1 h2 =
        no_more (write_alike c fo go Slot w ints arrays loc fa ga la slot ki ka good a i e can line left fs fs' calls (call bound depth fs'))
    stmt_alike (Reduce how s e) c fo go Slot w fine ints arrays can k line found f g (related loc fa ga la slot ki ka good) left bound h1 h2 =
        no_more (reduce_alike c fo go Slot w ints arrays loc fa ga la slot ki ka good how s e can line left fs fs' calls (call bound depth fs'))
    stmt_alike (Call kind site target' callee es) c fo go Slot w fine ints arrays can k line found f g (related loc fa ga la slot ki ka good) left bound h1 h2 =
        let n = and_parts (is_plain callee) _ can in
        let n2 = and_parts (length es == length (function_named callee c.functions).params) (can_target c target' && can_pass_all c es) n.1 in
        let as_many : length es ≡ length (function_named callee fs).params =
        eqb-true (length es) (length (function_named callee c.functions).params) n2.0 ∙ ap (λ t. length (function_named callee t).params) fine in
        let p = and_parts (can_target c target') (can_pass_all c es) n2.1 in
        no_more (call_alike c fo go Slot w ints arrays loc fa ga la slot ki ka good kind site target' callee es p.0 p.1 fs fs' calls
        (call bound depth fs') left as_many (params_same callee n.0) (params_once callee n.0)
        (λ given line l e good' ks ki' ka'. deeper callee n.0 given line l bound (omega arith) (omega arith) good' ks ki' ka') line left (omega arith))
    stmt_alike (Start kind callee es) c fo go Slot w fine ints arrays can k line found f g rel left bound h1 h2 = absurd cc
    stmt_alike (Begin callee from to taken over) c fo go Slot w fine ints arrays can k line found f g rel left bound h1 h2 = absurd cc
    stmt_alike Sync c fo go Slot w fine ints arrays can k line found f g (related loc fa ga la slot ki ka good) left bound h1 h2 =
        no_more (sync_alike c fo go Slot w ints arrays loc fa ga la slot ki ka good line left fs fs' calls (call bound depth fs'))
    stmt_alike (If e b) c fo go Slot w fine ints arrays can k line found f g rel left bound h1 h2 =
        let p = and_parts (can_evaluate c e) (can_lower_all c ints arrays b) can in
        no_more (if_alike c fo go Slot w ints arrays e b (lower_block c.over k b) left line fs fs' calls (call bound depth fs') p.0
        (λ f g rel l le. block_alike b c fo go Slot w fine ints arrays p.1 k found f g rel l bound (omega arith) (omega arith)) f g rel left (omega arith))
    stmt_alike (IfElse e b d) c fo go Slot w fine ints arrays can k line found f g rel left bound h1 h2 =
        let p = and_parts (can_evaluate c e) _ can in
        let q = and_parts (can_lower_all c ints arrays b) (can_lower_all c ints arrays d) p.1 in
        no_more (if_else_alike c fo go Slot w ints arrays e b (lower_block c.over k b) d (lower_block c.over (k + loop_count_in b) d) left line fs fs' calls (call bound depth fs') p.0
        (λ f g rel l le. block_alike b c fo go Slot w fine ints arrays q.0 k (found_left fs' (made_in k b) (made_in (k + loop_count_in b) d) found) f g rel l bound (omega arith) (omega arith))
        (λ f g rel l le. block_alike d c fo go Slot w fine ints arrays q.1 (k + loop_count_in b)
        (found_right fs' (made_in k b) (made_in (k + loop_count_in b) d) found) f g rel l bound (omega arith) (omega arith)) f g rel left (omega arith))
    stmt_alike (While e b) c fo go Slot w fine ints arrays can k line found f g rel left bound h1 h2 =
        let p = and_parts (can_evaluate c e) (can_lower_all c ints arrays b) can in
        no_more (while_alike c fo go Slot w ints arrays e b (lower_block c.over k b) left line fs fs' calls (call bound depth fs') p.0
        (λ f g rel l le. block_alike b c fo go Slot w fine ints arrays p.1 k found f g rel l bound (omega arith) (omega arith)) f g rel left (omega arith))
    stmt_alike (For x y z from to grain over b) c fo go Slot w fine ints arrays can k line found f g rel left bound h1 h2 =
        for_alike x y z from to grain over b (block_alike b) c fo go Slot w fine ints arrays can k line found f g rel left bound h1 h2
    stmt_alike (Scope b) c fo go Slot w fine ints arrays can k line found f g rel left bound h1 h2 =
        no_more (scope_alike c fo go Slot w ints arrays b (lower_block c.over k b) left line fs fs' calls (call bound depth fs')
        (λ f g rel l le. block_alike b c fo go Slot w fine ints arrays can k found f g rel l bound (omega arith) (omega arith)) f g rel left (omega arith))
    stmt_alike (Cut a e l r b) c fo go Slot w fine ints arrays can k line found f g (related loc fa ga la slot ki ka good) left bound h1 h2 =
        let p1 = and_parts (can_evaluate c e) _ can in
        let p2 = and_parts (is_local c a) _ p1.1 in
        let p3 = and_parts (is_local c l) _ p2.1 in
        let p4 = and_parts (is_local c r) _ p3.1 in
        let p5 = and_parts (not (is_among l arrays)) _ p4.1 in
        let p6 = and_parts (not (is_among r arrays)) _ p5.1 in
        let p7 = and_parts (not (same_name r l)) (can_lower_all c ints ((arrays ++ l ∷ []) ++ r ∷ []) b) p6.1 in
        no_more (cut_alike c fo go Slot w ints arrays loc fa ga la slot ki ka good a l r p2.0 p3.0 p4.0 (not_true (is_among l arrays) p5.0)
        (not_true (is_among r arrays) p6.0) (not_true (same_name r l) p7.0)
        e b (lower_block c.over k b) left line fs fs' calls (call bound depth fs') p1.0
        (λ f g rel l' le. block_alike b c fo go Slot w fine ints ((arrays ++ l ∷ []) ++ r ∷ []) p7.1 k found f g rel l' bound (omega arith) (omega arith)) left (omega arith))
    stmt_alike (Region tag b) c fo go Slot w fine ints arrays can k line found f g rel left bound h1 h2 =
        no_more (region_alike c fo go Slot w ints arrays tag b (lower_block c.over k b) left line fs fs' calls (call bound depth fs')
        (λ f g rel l le. block_alike b c fo go Slot w fine ints arrays can k found f g rel l bound (omega arith) (omega arith)) f g rel left (omega arith))
    stmt_alike (Print e) c fo go Slot w fine ints arrays can k line found f g (related loc fa ga la slot ki ka good) left bound h1 h2 =
        no_more (print_alike c fo go Slot w ints arrays loc fa ga la slot ki ka good e can line left fs fs' calls (call bound depth fs'))
    stmt_alike (Return None) c fo go Slot w fine ints arrays can k line found f g (related loc fa ga la slot ki ka good) left bound h1 h2 =
        no_more (return_alike c fo go Slot w ints arrays loc fa ga la slot ki ka good None can can line left fs fs' calls (call bound depth fs'))
    stmt_alike (Return (Some e)) c fo go Slot w fine ints arrays can k line found f g (related loc fa ga la slot ki ka good) left bound h1 h2 =
        no_more (return_alike c fo go Slot w ints arrays loc fa ga la slot ki ka good (Some e) (and_parts c.returns (can_evaluate c e) can).0 can line left fs fs' calls (call bound depth fs'))

    pub block_alike : (b : Block) → AllAlike b
    block_alike End c fo go Slot w fine ints arrays can k found f g rel left bound h1 h2 =
        alike_done left (record { more_ints = []; more_arrays = []; out = rw (append-nil ints, append-nil arrays) (stays c fo go Slot w ints arrays f g rel) })
    block_alike (Then line s b) c fo go Slot w fine ints arrays can k found f g rel left bound h1 h2 =
        let p = and_parts (can_lower c ints arrays s) (can_lower_all c (ints ++ new_integers s) (arrays ++ new_arrays s) b) can in
        alike_then (stmt_alike s c fo go Slot w fine ints arrays p.0 k line (found_left fs' (made_by line k s) (made_in (k + loop_count s) b) found) f g rel left bound h1 h2)
        (λ way way' l out le. onward_then (OutAll c fo go Slot ints arrays f) l out (λ f'. run_all b fs calls f')
        (λ g'. run_all (lower_block c.over (k + loop_count s) b) fs' (call bound depth fs') g')
        (λ v f' r fit good kept. record { more_ints = []; more_arrays = []; out = returns r fit good kept })
        (λ f' g' rel' kept. alike_weaken (λ x y (o : OutAll c fo go Slot (ints ++ new_integers s) (arrays ++ new_arrays s) f' x y). record {
          more_ints = new_integers s ++ o.more_ints;
          more_arrays = new_arrays s ++ o.more_arrays;
          out = rw (← append_assoc ints (new_integers s) o.more_ints, ← append_assoc arrays (new_arrays s) o.more_arrays) (out_before f f' kept o.out);
        }) (omega arith)
        (block_alike b c fo go Slot w fine (ints ++ new_integers s) (arrays ++ new_arrays s) p.1 (k + loop_count s)
        (found_right fs' (made_by line k s) (made_in (k + loop_count s) b) found) f' g' rel' l bound (omega arith) (omega arith))))
