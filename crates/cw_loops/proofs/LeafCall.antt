-- A leaf as a call of the generated function.
use Rattle.std.proofs.Common.{◌≡◌, ℕ, zero, suc, ◌-◌, ◌≤◌, ◌<◌, ◌^◌, true, false, ℤ, pos, ◌+ℤ◌, List, [], ◌∷◌, ◌++◌, length, take, arith, refl, sym, ◌∙◌, ap, subst}
use Rattle.std.specs.Prelude.{nat_lt, nat_le, if◌then◌else◌, None}
use Rattle.std.proofs.Math.Seq.{take-length, take-append_seam}
use Rattle.std.proofs.Math.IntN.{+ℤ_idr}
use Rattle.cw_model.specs.declared.limits.TheConstants.{MOST_DEPTH}
use Rattle.cw_model.specs.Ints.{Value, Fails, fits, exact}
use Rattle.cw_model.specs.declared.trap.Trap.TheVariants as trap
use Rattle.cw_model.specs.declared.syntax.Operator.TheVariants.{AtMost}
use Rattle.cw_model.specs.Trees.{Leaf, Join, tree_of}
use Rattle.cw_model.specs.TreeLaws.{same, back, further, nothing_before, nothing_after}
use Rattle.cw_model.specs.Syntax.{Name, Number, Variable, Binary, Declare, IfElse, While, Block, Function}
use Rattle.cw_model.specs.Names.{is_among}
use Rattle.cw_model.specs.Frames.{Frame, new_int, leave}
use Rattle.cw_model.specs.Expressions.{Gives, evaluate, also, done_at, apply}
use Rattle.cw_model.specs.Outcome.{Outcome, Done, then_do, quiet, shows, pay}
use Rattle.cw_model.specs.Loops.{leaf_turns}
use Rattle.cw_model.specs.LoopLaws.{for_body}
use Rattle.cw_model.specs.Meaning.{Normal, onward, going, scoped, Returned, SameDepth, Calls, turns, run_all, call, end_of_call}
use Rattle.cw_model.specs.lemmas.LoopPieces.{leaf_piece}
use Rattle.cw_loops.specs.Lowered.{is_plain, low, high, range, on_line, leaf_turn, leaf_block, node_block, loop_function}
use Rattle.cw_loops.proofs.Alike.{Whole, whole_done, then_then, after_quiet, pay_pay}
use Rattle.cw_loops.proofs.Chained.{whole_pay, whole_then, whole_after, chain_nil, chain_join}
use Rattle.cw_loops.proofs.Runs.{one_line, and_rest, declare_runs, then_taken, call_runs}
use Rattle.cw_loops.proofs.Numbers.{range_is, tested}
use Rattle.cw_loops.proofs.Tables.{keys}
use Rattle.cw_loops.proofs.Leaf.{entry, at_turn, leaf_test, Turns, leaf_chained}
use Rattle.cw_loops.specs.lemmas.Outcomes.{then_same}

pub whole_left : {A B : Type 0} {R : A → B → Type 0} {given : ℕ} {o p : Outcome A} {o' : Outcome B} → o ≡ p → Whole R given p o' → Whole R given o o'
whole_left {R = R} {given = given} {o' = o'} e h = subst (λ x. Whole R given x o') (sym e) h

pub whole_right : {A B : Type 0} {R : A → B → Type 0} {given : ℕ} {o : Outcome A} {o' p : Outcome B} → o' ≡ p → Whole R given o p → Whole R given o o'
whole_right {R = R} {given = given} {o = o} e h = subst (λ x. Whole R given o x) (sym e) h

-- rewriting the first of two parts
pub first_right : {A B C : Type 0} {R : A → B → Type 0} {given : ℕ} {o : Outcome A} {o' p : Outcome C} → o' ≡ p → (go : C → ℕ → Outcome B)
    → Whole R given o (then_do p go) → Whole R given o (then_do o' go)
first_right {R = R} {given = given} {o = o} e go h = subst (λ x. Whole R given o (then_do x go)) (sym e) h

-- six instructions at the end, as four and two
split_end : {A : Type 0} (o : Outcome A) →
    then_do o (λ a l. then_do (pay 6 l) (λ _ l. Done a l quiet)) ≡ then_do (then_do o (λ a l. then_do (pay 4 l) (λ _ l. Done a l quiet))) (λ a l. then_do (pay 2 l) (λ _ l. Done a l quiet))
split_end o =
    sym (then_then o _ _ ∙ then_same o _ _ (λ a l. then_then (pay 4 l) _ _ ∙ then_same (pay 4 l) _ _ (λ _ l. after_quiet _) ∙ pay_pay 4 2 l _))

-- evaluating the test of the generated function
pub grain_gives : (lo : ℤ) (n grain : ℕ) (cs : List (Name × ℤ)) (arrays : List (Name × List ℤ)) → n < 2 ^ 63 →
    evaluate (Binary AtMost range (Number (pos grain))) (entry lo (lo +ℤ pos n) cs arrays) ≡ Gives (pos (if nat_le n grain then 1 else 0)) 5
grain_gives lo n grain cs arrays small =
    ap (λ z. also (done_at 3 (exact z)) (Gives (pos grain) 1) (apply AtMost)) (range_is lo n)
    ∙ ap (λ b. also (done_at 3 (if b then Value (pos n) else Fails trap.Overflow)) (Gives (pos grain) 1) (apply AtMost)) (tested n small)

-- the result of a call of the generated function
pub record Gone (Near : Frame → List (Name × List ℤ) → Type 0) (last : List (Name × List ℤ) → Frame) (frame : Frame) (returned : Returned) : Type 0 where
  pub arrays : List (Name × List ℤ)
  pub gives : returned ≡ (None, last arrays)
  pub near : Near frame arrays

module _ (name : Name) (line : ℕ) (x : Name) (grain : ℕ) (ints over : List Name) (b b' : Block) (fs fs' : List Function) (calls : Calls) (depth : ℕ)
    (plain : is_plain x ≡ true) (shallow : nat_lt MOST_DEPTH depth ≡ false)
    (cs : List (Name × ℤ)) (away : is_among x (keys cs) ≡ false) (limit : ℕ) where
  module _ (lo : ℤ) (n : ℕ) (lo_fits : fits lo ≡ true) (hi_fits : fits (lo +ℤ pos n) ≡ true) (small : n < 2 ^ 63)
      (Near : Frame → List (Name × List ℤ) → Type 0) (q : ℕ) (counted : (frame : Frame) (arrays : List (Name × List ℤ)) → Near frame arrays → length arrays ≡ q)
      (each : Turns line x over b b' fs fs' calls depth plain lo n cs away lo_fits hi_fits Near q counted limit) where
    abbrev last_of : List (Name × List ℤ) → Frame
    last_of arrays = entry lo (lo +ℤ pos n) cs arrays

    left_leaf : (arrays arrays' : List (Name × List ℤ)) (i : ℤ) → length arrays ≡ length arrays' → leave (last_of arrays) (at_turn lo (lo +ℤ pos n) cs arrays' x i) ≡ last_of arrays'
    left_leaf arrays arrays' i e =
        let is : List (Name × ℤ) = (low, lo) ∷ (high, lo +ℤ pos n) ∷ cs in
        let p : take (length is) (is ++ (x, i) ∷ []) ≡ is = take-append_seam is ((x, i) ∷ []) in
        let q : take (length arrays) arrays' ≡ arrays' = ap (λ n. take n arrays') e ∙ take-length arrays' in
        rw (p, q) refl

    -- the `while` and the statements after it
    turns_call : (i : ℤ) → i ≡ lo +ℤ pos 0 → (frame : Frame) (arrays : List (Name × List ℤ)) (left wb bound : ℕ) → left ≤ limit → left < wb → left < bound → Near frame arrays →
        Whole (Gone Near last_of) left
        (then_do (then_do (leaf_turns n i (for_body x over b fs calls) frame left) (λ frame' l. then_do (pay 4 l) (λ _ l. Done frame' l quiet)))
        (λ frame' l. then_do (pay 2 l) (λ _ l. Done frame' l quiet)))
        (then_do (turns wb (evaluate (leaf_test x)) line (λ g. scoped g (run_all (leaf_turn line x b') fs' (call bound depth fs') g)) (new_int x i (last_of arrays)) left)
        (λ way l. then_do (onward way (λ frame'. going (leave (last_of arrays) frame')) l)
        (λ way l. then_do (onward way (λ frame' l. then_do (pay 1 l) (λ _ l. Done (Normal frame') l quiet)) l) end_of_call)))
    turns_call i start frame arrays left wb bound h1 h2 h3 near = rw start
        (whole_then (leaf_chained line x over b b' fs fs' calls depth plain lo n cs away lo_fits hi_fits Near q counted limit each n 0 (omega arith) frame arrays left wb bound h1 h2 h3 near)
        (λ frame' way l r le. rw r.goes_on
        (whole_right (after_quiet _)
        (whole_right (then_then (pay 1 l) _ _)
        (whole_left (sym (pay_pay 1 1 l _))
        (whole_pay 1 l _ _ (λ enough.
        whole_right (after_quiet _)
        (whole_left (sym (after_quiet _))
        (whole_after {t = quiet} {u = shows (Join ∷ [])} (omega arith) refl refl (further (nothing_after (Leaf 0)) (back (further (nothing_before _) (nothing_after (Leaf 0))))) chain_nil chain_join
        (whole_pay 1 (l - 1) _ _ (λ enough'.
        whole_done (record {
          arrays = r.arrays;
          gives = ap (λ g. (None, g))
              (left_leaf arrays r.arrays (lo +ℤ pos n) (counted frame arrays near ∙ sym (counted frame' r.arrays r.near)));
          near = r.near;
        })
        (omega arith) refl refl (same (tree_of [])))))))))))))

    pub leaf_call : nat_le n grain ≡ true → (frame : Frame) (arrays : List (Name × List ℤ)) (left bound line' : ℕ) → left ≤ limit → left < bound → Near frame arrays →
        Whole (Gone Near last_of) left (leaf_piece n lo (for_body x over b fs calls) frame left)
        (call bound depth fs' SameDepth (loop_function name line x grain ints over b') (last_of arrays) line' left)
    leaf_call few frame arrays left zero line' h1 h2 near = absurd (omega arith)
    leaf_call few frame arrays left (suc bound) line' h1 h2 near =
        whole_right (call_runs bound depth fs' (loop_function name line x grain ints over b') (last_of arrays) line' left shallow)
        (first_right (one_line line (IfElse (Binary AtMost range (Number (pos grain))) (leaf_block line x b') (node_block line name ints over)) fs' (call bound depth fs') (last_of arrays) left
        ∙ then_taken (Binary AtMost range (Number (pos grain))) (leaf_block line x b') (node_block line name ints over) (pos 1) 5 line left fs' (call bound depth fs') (last_of arrays)
        (grain_gives lo n grain cs arrays small ∙ ap (λ b. Gives (pos (if b then 1 else 0)) 5) few) refl) _
        (whole_right (then_then (pay 6 left) _ _)
        (whole_left (sym (pay_pay 6 2 left _))
        (whole_pay 6 left _ _ (λ enough.
        whole_right (then_then (scoped (last_of arrays) (run_all (leaf_block line x b') fs' (call bound depth fs') (last_of arrays)) (left - 6)) _ _)
        (whole_right (then_then (run_all (leaf_block line x b') fs' (call bound depth fs') (last_of arrays) (left - 6)) _ _)
        (first_right (and_rest line (Declare x (Variable low)) (on_line line (While (leaf_test x) (leaf_turn line x b'))) fs' (call bound depth fs')
        (last_of arrays) (new_int x lo (last_of arrays)) 2 (left - 6)
        (declare_runs x (Variable low) lo 1 line (left - 6) fs' (call bound depth fs') (last_of arrays) refl)) _
        (whole_right (then_then (pay 2 (left - 6)) _ _)
        (whole_pay 2 (left - 6) _ _ (λ enough'.
        whole_left (split_end (leaf_turns n lo (for_body x over b fs calls) frame (left - 6 - 2)))
        (first_right (one_line line (While (leaf_test x) (leaf_turn line x b')) fs' (call bound depth fs') (new_int x lo (last_of arrays)) (left - 6 - 2)) _
        (turns_call lo (sym (+ℤ_idr lo)) frame arrays (left - 6 - 2) (suc (left - 6 - 2)) bound (omega arith) (omega arith) (omega arith) near))))))))))))
