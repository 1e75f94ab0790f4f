-- The iterations of a leaf, as the `while` of its function executes them.
use Rattle.std.proofs.Common.{◌≡◌, ℕ, zero, suc, ◌+◌, ◌-◌, ◌≤◌, ◌<◌, true, false, ℤ, pos, ◌+ℤ◌, List, [], ◌∷◌, ◌++◌, length, take, arith, refl, sym, ◌∙◌, ap, subst}
use Rattle.std.specs.Prelude.{int_lt, if◌then◌else◌}
use Rattle.std.proofs.Math.Seq.{take-length}
use Rattle.std.proofs.lemmas.List.{length-append}
use Rattle.cw_model.specs.Ints.{Value, Fails, fits}
use Rattle.cw_model.specs.declared.trap.Trap.TheVariants as trap
use Rattle.cw_model.specs.declared.syntax.Operator.TheVariants.{Less, Plus}
use Rattle.cw_model.specs.Trees.{Series}
use Rattle.cw_model.specs.Syntax.{Name, Expr, Number, Variable, Binary, Assign, Scope, Block, Function}
use Rattle.cw_model.specs.Names.{is_among}
use Rattle.cw_model.specs.Frames.{Frame, new_int, set_int, int_of, leave, inside_loop}
use Rattle.cw_model.specs.Expressions.{Gives, evaluate, also, done_at, apply}
use Rattle.cw_model.specs.Outcome.{Outcome, Done, then_do, Piece, ◌>>=◌, quiet, pay, as_one}
use Rattle.cw_model.specs.Loops.{leaf_turns, turn_end}
use Rattle.cw_model.specs.LoopLaws.{for_body}
use Rattle.cw_model.specs.Meaning.{Completion, Normal, onward, going, scoped, frame_of, Calls, turns, run, run_all, call}
use Rattle.cw_loops.specs.Lowered.{is_plain, low, high, on_line, leaf_turn}
use Rattle.cw_loops.specs.lemmas.Apart.{plain_apart}
use Rattle.cw_loops.proofs.Alike.{Alike, as_whole, then_then, after_quiet, pay_pay}
use Rattle.cw_loops.proofs.Chained.{Chained, chained_then, chained_pay, chained_series, chained_gives}
use Rattle.cw_loops.proofs.Runs.{one_line, assign_runs, one_more_turn, no_more_turn}
use Rattle.cw_loops.proofs.Numbers.{between, lt_more, lt_same, add_range}
use Rattle.cw_loops.proofs.Tables.{keys, find_last, put_last}

pub from_left : {A B : Type 0} {R : A → B → Type 0} {given : ℕ} {o p : Outcome A} {o' : Outcome B} → o ≡ p → Chained R given p o' → Chained R given o o'
from_left {R = R} {given = given} {o' = o'} e h = subst (λ x. Chained R given x o') (sym e) h

pub from_right : {A B : Type 0} {R : A → B → Type 0} {given : ℕ} {o : Outcome A} {o' p : Outcome B} → o' ≡ p → Chained R given o p → Chained R given o o'
from_right {R = R} {given = given} {o = o} e h = subst (λ x. Chained R given o x) (sym e) h

-- the frame of a generated function
abbrev pub entry : ℤ → ℤ → List (Name × ℤ) → List (Name × List ℤ) → Frame
entry lo hi cs arrays = record { ints = (low, lo) ∷ (high, hi) ∷ cs; arrays = arrays; sliced = [] }

-- the frame of a leaf at an iteration
abbrev pub at_turn : ℤ → ℤ → List (Name × ℤ) → List (Name × List ℤ) → Name → ℤ → Frame
at_turn lo hi cs arrays x i = new_int x i (entry lo hi cs arrays)

abbrev pub leaf_test : Name → Expr
leaf_test x = Binary Less (Variable x) (Variable high)

module _ (x : Name) (plain : is_plain x ≡ true) (lo hi : ℤ) (cs : List (Name × ℤ)) (away : is_among x (keys cs) ≡ false) where
  variable_away : is_among x (keys ((low, lo) ∷ (high, hi) ∷ cs)) ≡ false
  variable_away = rw (plain_apart x (108 ∷ []) plain, plain_apart x (104 ∷ []) plain) away

  pub variable_is : (arrays : List (Name × List ℤ)) (i : ℤ) → int_of (at_turn lo hi cs arrays x i) x ≡ i
  variable_is arrays i = find_last (pos 0) x i ((low, lo) ∷ (high, hi) ∷ cs) variable_away

  pub next_variable : (arrays : List (Name × List ℤ)) (i j : ℤ) → set_int x j (at_turn lo hi cs arrays x i) ≡ at_turn lo hi cs arrays x j
  next_variable arrays i j = ap (λ t. record { ints = t; arrays = arrays; sliced = [] }) (put_last x i j ((low, lo) ∷ (high, hi) ∷ cs) variable_away)

  pub leave_turn : (arrays arrays' : List (Name × List ℤ)) (i j : ℤ) → length arrays ≡ length arrays'
      → leave (at_turn lo hi cs arrays x i) (at_turn lo hi cs arrays' x j) ≡ at_turn lo hi cs arrays' x j
  leave_turn arrays arrays' i j e =
      let is : List (Name × ℤ) = (low, lo) ∷ (high, hi) ∷ cs in
      let p : take (length (is ++ (x, i) ∷ [])) (is ++ (x, j) ∷ []) ≡ is ++ (x, j) ∷ [] =
      ap (λ n. take n (is ++ (x, j) ∷ [])) (length-append is ((x, i) ∷ []) ∙ sym (length-append is ((x, j) ∷ []))) ∙ take-length (is ++ (x, j) ∷ []) in
      let q : take (length arrays) arrays' ≡ arrays' = ap (λ n. take n arrays') e ∙ take-length arrays' in
      rw (p, q) refl

  pub test_gives : (arrays : List (Name × List ℤ)) (i : ℤ) → evaluate (leaf_test x) (at_turn lo hi cs arrays x i) ≡ Gives (pos (if int_lt i hi then 1 else 0)) 3
  test_gives arrays i = ap (λ v. also (Gives v 1) (Gives hi 1) (apply Less)) (variable_is arrays i)

  pub step_gives : (arrays : List (Name × List ℤ)) (i : ℤ) → fits (i +ℤ pos 1) ≡ true → evaluate (Binary Plus (Variable x) (Number (pos 1))) (at_turn lo hi cs arrays x i) ≡ Gives (i +ℤ pos 1) 3
  step_gives arrays i e = ap (λ v. also (Gives v 1) (Gives (pos 1) 1) (apply Plus)) (variable_is arrays i) ∙ ap (λ b. done_at 3 (if b then Value (i +ℤ pos 1) else Fails trap.Overflow)) e

-- the end of an iteration in the source and in the function
pub record NextIteration (Near : Frame → List (Name × List ℤ) → Type 0) (turn : List (Name × List ℤ) → Frame) (frame : Frame) (way way' : Completion) : Type 0 where
  pub arrays : List (Name × List ℤ)
  pub goes_on : way' ≡ Normal (turn arrays)
  pub near : Near (leave frame (frame_of way)) arrays

-- the end of the last iteration of the loop
pub record AtLast (Near : Frame → List (Name × List ℤ) → Type 0) (last : List (Name × List ℤ) → Frame) (frame : Frame) (way : Completion) : Type 0 where
  pub arrays : List (Name × List ℤ)
  pub goes_on : way ≡ Normal (last arrays)
  pub near : Near frame arrays

module _ (line : ℕ) (x : Name) (over : List Name) (b b' : Block) (fs fs' : List Function) (calls : Calls) (depth : ℕ) (plain : is_plain x ≡ true)
    (lo : ℤ) (n : ℕ) (cs : List (Name × ℤ)) (away : is_among x (keys cs) ≡ false) (lo_fits : fits lo ≡ true) (hi_fits : fits (lo +ℤ pos n) ≡ true)
    (Near : Frame → List (Name × List ℤ) → Type 0) (q : ℕ) (counted : (frame : Frame) (arrays : List (Name × List ℤ)) → Near frame arrays → length arrays ≡ q) (limit : ℕ) where
  abbrev turn_of : ℕ → List (Name × List ℤ) → Frame
  turn_of j arrays = at_turn lo (lo +ℤ pos n) cs arrays x (lo +ℤ pos j)

  -- an iteration behaves in the same way in the source and in the function
  abbrev pub Turns : Type 0
  Turns = (j : ℕ) → j < n → (frame : Frame) (arrays : List (Name × List ℤ)) (given bound : ℕ) → given ≤ limit → given < bound → Near frame arrays →
      Alike (NextIteration Near (turn_of j) frame) given (run_all b fs calls (inside_loop over (new_int x (lo +ℤ pos j) frame)) given)
      (scoped (turn_of j arrays) (run_all b' fs' (call bound depth fs') (turn_of j arrays)) given)

  module _ (each : Turns) where
    abbrev pub leaf_body : ℕ → Frame → Piece Completion
    leaf_body bound g = scoped g (run_all (leaf_turn line x b') fs' (call bound depth fs') g)

    -- the iterations from here on, and the last test
    abbrev LeafRuns : ℕ → Type 0
    LeafRuns t = (j : ℕ) → j + t ≡ n → (frame : Frame) (arrays : List (Name × List ℤ)) (left wb bound : ℕ) → left ≤ limit → left < wb → left < bound → Near frame arrays →
        Chained (AtLast Near (turn_of n)) left
        (then_do (leaf_turns t (lo +ℤ pos j) (for_body x over b fs calls) frame left) (λ frame' l. then_do (pay 4 l) (λ _ l. Done frame' l quiet)))
        (turns wb (evaluate (leaf_test x)) line (leaf_body bound) (turn_of j arrays) left)

    left_turn : (j : ℕ) (arrays arrays' : List (Name × List ℤ)) → length arrays ≡ length arrays' → lo +ℤ pos j +ℤ pos 1 ≡ lo +ℤ pos (suc j) →
        leave (turn_of j arrays) (set_int x (lo +ℤ pos j +ℤ pos 1) (turn_of j arrays')) ≡ turn_of (suc j) arrays'
    left_turn j arrays arrays' same next =
        ap (λ g. leave (turn_of j arrays) g) (next_variable x plain lo (lo +ℤ pos n) cs away arrays' (lo +ℤ pos j) (lo +ℤ pos j +ℤ pos 1))
        ∙ leave_turn x plain lo (lo +ℤ pos n) cs away arrays arrays' (lo +ℤ pos j) (lo +ℤ pos j +ℤ pos 1) same
        ∙ ap (λ i. at_turn lo (lo +ℤ pos n) cs arrays' x i) next

    -- the end of an iteration's body, and the remaining iterations
    after_body : (t : ℕ) → LeafRuns t → (j : ℕ) → j + suc t ≡ n → (frame : Frame) (arrays : List (Name × List ℤ)) (left wb bound : ℕ) → left ≤ limit → left < wb → left < bound → Near frame arrays →
        lo +ℤ pos j +ℤ pos 1 ≡ lo +ℤ pos (suc j) → fits (lo +ℤ pos j +ℤ pos 1) ≡ true →
        Chained (AtLast Near (turn_of n)) left
        (then_do (◌>>=◌ (for_body x over b fs calls (lo +ℤ pos j) frame) (λ frame'. ◌>>=◌ (pay turn_end) (λ _. leaf_turns t (lo +ℤ pos j +ℤ pos 1) (for_body x over b fs calls) frame')) left)
        (λ frame' l. then_do (pay 4 l) (λ _ l. Done frame' l quiet)))
        (then_do (◌>>=◌ (as_one Series (scoped (turn_of j arrays) (run_all b' fs' (call bound depth fs') (turn_of j arrays)))) (λ way. onward way (λ frame'. ◌>>=◌ (pay 1) (λ _. going frame'))) left)
        (λ way l. then_do (onward way (λ frame'. run_all (on_line line (Assign x (Binary Plus (Variable x) (Number (pos 1))))) fs' (call bound depth fs') frame') l)
        (λ way l. then_do (onward way (λ frame'. going (leave (turn_of j arrays) frame')) l)
        (λ way l. onward way (λ frame' l. then_do (pay 1 l) (λ _ l. turns wb (evaluate (leaf_test x)) line (leaf_body bound) frame' l)) l))))
    after_body t more j e frame arrays left wb bound h1 h2 h3 near next next_fits =
        from_left (then_then (for_body x over b fs calls (lo +ℤ pos j) frame left) _ _)
        (from_left (then_then (as_one Series (run_all b fs calls (inside_loop over (new_int x (lo +ℤ pos j) frame))) left) _ _)
        (from_right (then_then (as_one Series (scoped (turn_of j arrays) (run_all b' fs' (call bound depth fs') (turn_of j arrays))) left) _ _)
        (chained_then (chained_series (as_whole (each j (omega arith) frame arrays left bound h1 h3 near)))
        (λ way way' l r le. rw r.goes_on
        (from_left (after_quiet _)
        (from_left (then_then (pay 6 l) _ _)
        (from_left (sym (pay_pay 1 5 l _))
        (from_right (then_then (pay 1 l) _ _)
        (chained_pay 1 l _ _ (λ enough.
        from_left (sym (pay_pay 4 1 (l - 1) _))
        (from_right (after_quiet _)
        (from_right (ap (λ o. then_do o (λ way l. then_do (onward way (λ frame'. going (leave (turn_of j arrays) frame')) l)
        (λ way l. onward way (λ frame' l. then_do (pay 1 l) (λ _ l. turns wb (evaluate (leaf_test x)) line (leaf_body bound) frame' l)) l)))
        (one_line line (Assign x (Binary Plus (Variable x) (Number (pos 1)))) fs' (call bound depth fs') (turn_of j r.arrays) (l - 1)
        ∙ assign_runs x (Binary Plus (Variable x) (Number (pos 1))) (lo +ℤ pos j +ℤ pos 1) 3 line (l - 1) fs' (call bound depth fs')
        (turn_of j r.arrays) (step_gives x plain lo (lo +ℤ pos n) cs away r.arrays (lo +ℤ pos j) next_fits)))
        (from_right (then_then (pay 4 (l - 1)) _ _)
        (chained_pay 4 (l - 1) _ _ (λ enough'.
        from_right (after_quiet _)
        (from_right (after_quiet _)
        (chained_pay 1 (l - 1 - 4) _ _ (λ enough''.
        from_left (ap (λ i. then_do (leaf_turns t i (for_body x over b fs calls) (leave frame (frame_of way)) (l - 1 - 4 - 1)) (λ frame' l. then_do (pay 4 l) (λ _ l. Done frame' l quiet))) next)
        (from_right (ap (λ g. turns wb (evaluate (leaf_test x)) line (leaf_body bound) g (l - 1 - 4 - 1))
        (left_turn j arrays r.arrays (counted frame arrays near ∙ sym (counted (leave frame (frame_of way)) r.arrays r.near)) next))
        (more (suc j) (omega arith) (leave frame (frame_of way)) r.arrays (l - 1 - 4 - 1) wb bound (omega arith) (omega arith) (omega arith) r.near))))))))))))))))))))

    pub leaf_chained : (t : ℕ) → LeafRuns t
    leaf_chained t j e frame arrays left zero bound h1 h2 h3 near = absurd (omega arith)
    leaf_chained zero j e frame arrays left (suc wb) bound h1 h2 h3 near =
        let same : j ≡ n = omega arith in
        let last : int_lt (lo +ℤ pos j) (lo +ℤ pos n) ≡ false = rw same (lt_same (lo +ℤ pos n)) in
        from_left (after_quiet _)
        (from_right (no_more_turn wb (evaluate (leaf_test x)) line (leaf_body bound) (turn_of j arrays) left 3 (pos 0)
        (test_gives x plain lo (lo +ℤ pos n) cs away arrays (lo +ℤ pos j) ∙ rw last refl) refl)
        (chained_pay 4 left _ _ (λ enough. chained_gives (record { arrays = arrays; goes_on = ap (λ m. Normal (turn_of m arrays)) same; near = near }))))
    leaf_chained (suc t) j e frame arrays left (suc wb) bound h1 h2 h3 near =
        let more : int_lt (lo +ℤ pos j) (lo +ℤ pos n) ≡ true =
        let s : lo +ℤ pos n ≡ lo +ℤ pos j +ℤ pos (suc t) = ap (λ m. lo +ℤ pos m) (sym e) ∙ sym (add_range lo j (suc t)) in rw s (lt_more (lo +ℤ pos j) t) in
        let next : lo +ℤ pos j +ℤ pos 1 ≡ lo +ℤ pos (suc j) = add_range lo j 1 ∙ ap (λ m. lo +ℤ pos m) (omega arith) in
        let next_fits : fits (lo +ℤ pos j +ℤ pos 1) ≡ true = rw next (between lo n (suc j) lo_fits hi_fits (omega arith)) in
        from_left (then_then (pay 5 left) _ _)
        (from_left (sym (pay_pay 4 1 left _))
        (from_right (one_more_turn wb (evaluate (leaf_test x)) line (leaf_body bound) (turn_of j arrays) left 3 (pos 1)
        (test_gives x plain lo (lo +ℤ pos n) cs away arrays (lo +ℤ pos j) ∙ rw more refl) refl)
        (chained_pay 4 left _ _ (λ enough.
        from_right (then_then (run_all (leaf_turn line x b') fs' (call bound depth fs') (turn_of j arrays) (left - 4)) _ _)
        (from_right (then_then (run (Scope b') line fs' (call bound depth fs') (turn_of j arrays) (left - 4)) _ _)
        (from_right (then_then (pay 1 (left - 4)) _ _)
        (chained_pay 1 (left - 4) _ _ (λ enough'.
        after_body t (leaf_chained t) j e frame arrays (left - 4 - 1) wb bound (omega arith) (omega arith) (omega arith) near next next_fits))))))))
