-- The code of an expression computes its value, and the code of arguments computes the frame of a call.
use Rattle.std.proofs.Common.{◌≡◌, ℕ, suc, ◌+◌, ◌≤◌, List, [], ◌∷◌, ◌++◌, length, Bool, true, false, if◌then◌else◌, refl, sym, ap, ◌∙◌, subst, arith, length-append, ℤ, pos}
use Rattle.std.specs.Prelude.{map, neg_ℤ, slice_get, Some}
use Rattle.std.proofs.Common.{not, cond, filter}
use Rattle.std.proofs.lemmas.List.{map-append}
use mathlib.Core.List.{reverse_aux}
use Rattle.cw_model.specs.Ints.{Result, exact, truth, is_zero}
use Rattle.cw_model.specs.Syntax.{Expr, Number, Variable, Element, Length, Negative, Not, Binary, Param, is_array_param}
use Rattle.cw_model.specs.Frames.{Frame, int_of, array_of, new_int, new_array}
use Rattle.cw_model.specs.Expressions.{evaluate, and_then, done_at, apply, element, in_bounds}
use Rattle.cw_model.specs.Outcome.{Outcome, Trace, then_do, pay_for}
use Rattle.cw_model.specs.Meaning.{given_array, arguments}
use Rattle.cw_model.specs.Ownership.{Taken}
use Rattle.cw_model.specs.Ownership as ownership
use Rattle.cw_tree.specs.Resolved.{Locals, slot_of, locals_of}
use Rattle.cw_loops.specs.Slotted.{slotted_argument}
use Rattle.cw_code.specs.declared.code.UnaryOperator.TheVariants as unary
use Rattle.cw_code.specs.declared.code.Instr.{Instr}
use Rattle.cw_code.specs.declared.code.Instr.TheVariants as instr
use Rattle.cw_code.specs.declared.code.Loan.{Loan}
use Rattle.cw_code.specs.Code.{Code}
use Rattle.cw_code.specs.Run.{Around, State, Transition, RunOutcome, ticked, on_slot, onto, operated, act, go_on, steps}
use Rattle.cw_code.specs.lemmas.Runs.{joined_quiet}
use Rattle.cw_gen.specs.Emit.{emitted_arg, element_at, length_at}
use Rattle.cw_gen.specs.Marks.{Marks, place_of}
use Rattle.cw_gen.proofs.Marked.{is_read, place_own, place_read, get_owned, get_read}
use Rattle.cw_gen.proofs.Fine.{ExprFine, ArrayAlone, ArgKept, arg_kept, ArgsFine}
use Rattle.cw_gen.proofs.Traces.{resume, resume_then}
use Rattle.cw_gen.proofs.Places.{HasAt, has_front, has_back}
use Rattle.cw_gen.proofs.Costs.{value_and_then, value_also, not_dearer}
use Rattle.cw_gen.proofs.Stores.{Store, Outside, Agrees, loads, finds}
use Rattle.cw_gen.proofs.Codes.{arrays_named, Bound, bound_none, bound_int, bound_array, arg_code, array_code, here}
use Rattle.cw_gen.proofs.Texts.{expr_code, args_code}
use Rattle.cw_gen.proofs.Steps.{one, pays, operates}

module _ (code : Code) (marks : Marks) (depth : ℕ) where
  abbrev at : List Around → ℕ → List ℤ → Store → Trace → State
  at around pc ops store t = here marks depth around pc ops store t

  -- the length of an array and an element of it, whether or not its slot is only read
  length_acts : (s : ℕ) (xs : List ℤ) (around : List Around) (pc : ℕ) (ops : List ℤ) (store : Store) (t : Trace) → slice_get store.arrays s ≡ Some (Some xs) →
      act code (at around pc ops store t) (Some (length_at (place_of marks s))) ≡ onto (at around pc (pos (length xs) ∷ ops) store t)
  length_acts s xs around pc ops store t is = test (is_read marks s) refl
    where
      w : Loan → Transition
      w place = act code (at around pc ops store t) (Some (length_at place))

      go : List ℤ → Transition
      go ys = onto (at around pc (pos (length ys) ∷ ops) store t)

      test : (b : Bool) → is_read marks s ≡ b → w (place_of marks s) ≡ go xs
      test true e = ap w (place_read marks s e) ∙ ap (λ o. on_slot o go) (get_read marks s store.arrays xs e is)
      test false e = ap w (place_own marks s e) ∙ ap (λ o. on_slot o go) (get_owned marks s store.arrays e ∙ is)

  element_acts : (s : ℕ) (xs : List ℤ) (around : List Around) (pc : ℕ) (v : ℤ) (ops : List ℤ) (store : Store) (t : Trace) (line : ℕ) → slice_get store.arrays s ≡ Some (Some xs) →
      act code (at around pc (v ∷ ops) store t) (Some (element_at (place_of marks s) line)) ≡ operated (at around pc (v ∷ ops) store t) line ops (in_bounds (element xs v))
  element_acts s xs around pc v ops store t line is = test (is_read marks s) refl
    where
      w : Loan → Transition
      w place = act code (at around pc (v ∷ ops) store t) (Some (element_at place line))

      go : List ℤ → Transition
      go ys = operated (at around pc (v ∷ ops) store t) line ops (in_bounds (element ys v))

      test : (b : Bool) → is_read marks s ≡ b → w (place_of marks s) ≡ go xs
      test true e = ap w (place_read marks s e) ∙ ap (λ o. on_slot o go) (get_read marks s store.arrays xs e is)
      test false e = ap w (place_own marks s e) ∙ ap (λ o. on_slot o go) (get_owned marks s store.arrays e ∙ is)

  -- the code of an expression computes its value, or traps as the expression does
  pub expr_runs : (around : List Around) (locals : Locals) (taken' : Taken) (e : Expr) (line pc : ℕ) (ops : List ℤ) (store : Store) (outer : Outside)
      (frame : Frame) (t : Trace) (left : ℕ) (next : ℤ → ℕ → Trace → RunOutcome) →
      HasAt code.instrs pc (expr_code marks locals line e) → ExprFine locals taken' e → Agrees locals taken' frame store outer →
      ((v : ℤ) (l : ℕ) (u : Trace) → l ≤ left → steps code l (at around (pc + length (expr_code marks locals line e)) (v ∷ ops) store u) ≡ next v l u) →
      steps code left (at around pc ops store t) ≡ resume t (pay_for (evaluate e frame) line left) next
  expr_runs around locals taken' (Number n) line pc ops store outer frame t left next has fine a k =
      pays code n (at around pc ops store t) t left next (λ l below. one code (at around pc ops store t) (instr.Push n) has.0 l ∙ k n l (ticked t) (omega arith))
  expr_runs around locals taken' (Variable x) line pc ops store outer frame t left next has fine a k =
      pays code (int_of frame x) (at around pc ops store t) t left next (λ l below.
      one code (at around pc ops store t) (instr.Load (slot_of x locals.ints)) has.0 l
      ∙ ap (λ o. go_on (on_slot o (λ v. onto (at around pc (v ∷ ops) store t))) l (λ s'. steps code l s')) (loads locals taken' x frame store outer fine a)
      ∙ k (int_of frame x) l (ticked t) (omega arith))
  expr_runs around locals taken' (Length x) line pc ops store outer frame t left next has fine a k =
      pays code (pos (length (array_of frame x))) (at around pc ops store t) t left next (λ l below.
      one code (at around pc ops store t) (length_at (place_of marks (slot_of x locals.arrays))) has.0 l
      ∙ ap (λ w. go_on w l (λ s'. steps code l s')) (length_acts (slot_of x locals.arrays) (array_of frame x) around pc ops store t (finds locals taken' x frame store outer fine a))
      ∙ k (pos (length (array_of frame x))) l (ticked t) (omega arith))
  expr_runs around locals taken' (Element x e) line pc ops store outer frame t left next has fine a k =
      let ce = expr_code marks locals line e in
      let i = element_at (place_of marks (slot_of x locals.arrays)) line in
      let xs = array_of frame x in
      let place : pc + length ce + 1 ≡ pc + length (ce ++ i ∷ []) = omega (arith, length-append ce (i ∷ [])) in
      let op : ℤ → Result = λ v. in_bounds (element xs v) in
      expr_runs around locals taken' e line pc ops store outer frame t left (λ v l u. resume u (pay_for (done_at 1 (op v)) line l) next)
      (has_front code.instrs pc ce (i ∷ []) has) fine.1 a
      (λ v l u le. operates code (at around (pc + length ce) (v ∷ ops) store u) line ops (op v) i l next (has_back code.instrs pc ce (i ∷ []) has).0
      (element_acts (slot_of x locals.arrays) xs around (pc + length ce) v ops store u line (finds locals taken' x frame store outer fine.0 a))
      (λ w l' below. ap (λ m. steps code l' (at around m (w ∷ ops) store (ticked u))) place ∙ k w l' (ticked u) (omega arith)))
      ∙ sym (resume_then t (pay_for (evaluate e frame) line left) (λ v l. pay_for (done_at 1 (op v)) line l) next)
      ∙ sym (ap (λ o. resume t o next) (value_and_then (evaluate e frame) op line left))
      ∙ sym (ap (λ q. resume t (pay_for (and_then q op) line left) next) (not_dearer x e frame a.whole))
  expr_runs around locals taken' (Negative e) line pc ops store outer frame t left next has fine a k =
      let ce = expr_code marks locals line e in
      let i = instr.Unary unary.Negative line in
      let place : pc + length ce + 1 ≡ pc + length (ce ++ i ∷ []) = omega (arith, length-append ce (i ∷ [])) in
      let op : ℤ → Result = λ v. exact (neg_ℤ v) in
      expr_runs around locals taken' e line pc ops store outer frame t left (λ v l u. resume u (pay_for (done_at 1 (op v)) line l) next)
      (has_front code.instrs pc ce (i ∷ []) has) fine a
      (λ v l u le. operates code (at around (pc + length ce) (v ∷ ops) store u) line ops (op v) i l next (has_back code.instrs pc ce (i ∷ []) has).0 refl
      (λ w l' below. ap (λ m. steps code l' (at around m (w ∷ ops) store (ticked u))) place ∙ k w l' (ticked u) (omega arith)))
      ∙ sym (resume_then t (pay_for (evaluate e frame) line left) (λ v l. pay_for (done_at 1 (op v)) line l) next)
      ∙ sym (ap (λ o. resume t o next) (value_and_then (evaluate e frame) op line left))
  expr_runs around locals taken' (Not e) line pc ops store outer frame t left next has fine a k =
      let ce = expr_code marks locals line e in
      let i = instr.Unary unary.Not line in
      let place : pc + length ce + 1 ≡ pc + length (ce ++ i ∷ []) = omega (arith, length-append ce (i ∷ [])) in
      let op : ℤ → Result = λ v. truth (is_zero v) in
      expr_runs around locals taken' e line pc ops store outer frame t left (λ v l u. resume u (pay_for (done_at 1 (op v)) line l) next)
      (has_front code.instrs pc ce (i ∷ []) has) fine a
      (λ v l u le. operates code (at around (pc + length ce) (v ∷ ops) store u) line ops (op v) i l next (has_back code.instrs pc ce (i ∷ []) has).0 refl
      (λ w l' below. ap (λ m. steps code l' (at around m (w ∷ ops) store (ticked u))) place ∙ k w l' (ticked u) (omega arith)))
      ∙ sym (resume_then t (pay_for (evaluate e frame) line left) (λ v l. pay_for (done_at 1 (op v)) line l) next)
      ∙ sym (ap (λ o. resume t o next) (value_and_then (evaluate e frame) op line left))
  expr_runs around locals taken' (Binary operator d e) line pc ops store outer frame t left next has fine a k =
      let cd = expr_code marks locals line d in
      let ce = expr_code marks locals line e in
      let i = instr.Binary operator line in
      let at_e = has_back code.instrs pc cd (ce ++ i ∷ []) has in
      let at_i = (has_back code.instrs (pc + length cd) ce (i ∷ []) at_e).0 in
      let place : pc + length cd + length ce + 1 ≡ pc + length (cd ++ (ce ++ i ∷ [])) = omega (arith, length-append cd (ce ++ i ∷ []), length-append ce (i ∷ [])) in
      expr_runs around locals taken' d line pc ops store outer frame t left
      (λ v l u. resume u (then_do (pay_for (evaluate e frame) line l) (λ w l'. pay_for (done_at 1 (apply operator v w)) line l')) next)
      (has_front code.instrs pc cd (ce ++ i ∷ []) has) fine.0 a
      (λ v l u le.
      expr_runs around locals taken' e line (pc + length cd) (v ∷ ops) store outer frame u l (λ w l' u'. resume u' (pay_for (done_at 1 (apply operator v w)) line l') next)
      (has_front code.instrs (pc + length cd) ce (i ∷ []) at_e) fine.1 a
      (λ w l' u' le'. operates code (at around (pc + length cd + length ce) (w ∷ v ∷ ops) store u') line ops (apply operator v w) i l' next at_i refl
      (λ z l2 below. ap (λ m. steps code l2 (at around m (z ∷ ops) store (ticked u'))) place ∙ k z l2 (ticked u') (omega arith)))
      ∙ sym (resume_then u (pay_for (evaluate e frame) line l) (λ w l'. pay_for (done_at 1 (apply operator v w)) line l') next))
      ∙ sym (resume_then t (pay_for (evaluate d frame) line left) (λ v l. then_do (pay_for (evaluate e frame) line l) (λ w l'. pay_for (done_at 1 (apply operator v w)) line l')) next)
      ∙ sym (ap (λ o. resume t o next) (value_also (evaluate d frame) (evaluate e frame) (apply operator) line left))

  -- the code of arguments executes them, from any place
  abbrev ArgsRun : (around : List Around) (locals : Locals) (ps : List Param) (es : List Expr) (line : ℕ) (store : Store) (frame : Frame) → Type 0
  ArgsRun around locals ps es line store frame =
      (pc : ℕ) (ops : List ℤ) (given : Frame) (t : Trace) (left : ℕ) (next : Frame → ℕ → Trace → RunOutcome) → HasAt code.instrs pc (args_code marks locals line ps es) →
      ((vs : List ℤ) (after_it : Frame) (l : ℕ) (u : Trace) → length vs ≡ length (locals_of ps).ints → Bound ps vs (map (λ a. array_of frame a) (arrays_named ps es)) given after_it → l ≤ left →
      steps code l (at around (pc + length (args_code marks locals line ps es)) (reverse_aux vs ops) store u) ≡ next after_it l u) →
      steps code left (at around pc ops store t) ≡ resume t (arguments ps es frame line given left) next

  -- the code of arguments computes the frame of a call, whose integers are operands
  pub args_run : (around : List Around) (locals : Locals) (taken' : Taken) (ps : List Param) (es : List Expr) (line pc : ℕ) (ops : List ℤ)
      (store : Store) (outer : Outside) (frame given : Frame) (t : Trace) (left : ℕ) (next : Frame → ℕ → Trace → RunOutcome) →
      HasAt code.instrs pc (args_code marks locals line ps es) → ArgsFine marks locals taken' ps es → Agrees locals taken' frame store outer →
      ((vs : List ℤ) (after_it : Frame) (l : ℕ) (u : Trace) → length vs ≡ length (locals_of ps).ints → Bound ps vs (map (λ a. array_of frame a) (arrays_named ps es)) given after_it → l ≤ left →
      steps code l (at around (pc + length (args_code marks locals line ps es)) (reverse_aux vs ops) store u) ≡ next after_it l u) →
      steps code left (at around pc ops store t) ≡ resume t (arguments ps es frame line given left) next
  args_run around locals taken' [] [] line pc ops store outer frame given t left next has fine a k =
      let e : pc ≡ pc + 0 = omega arith in
      ap (λ n. steps code left (at around n ops store t)) e ∙ k [] given left t refl (bound_none given) (omega arith) ∙ ap (next given left) (sym (joined_quiet t))
  args_run around locals taken' [] (e ∷ es) line pc ops store outer frame given t left next has fine a k = absurd fine
  args_run around locals taken' (p ∷ ps) [] line pc ops store outer frame given t left next has fine a k = absurd fine
  args_run around locals taken' (p ∷ ps) (e ∷ es) line pc ops store outer frame given t left next has fine a k =
      cases (λ pc' ops' given' t' left' next' has' k'. args_run around locals taken' ps es line pc' ops' store outer frame given' t' left' next' has'
      fine.1 a k') (is_array_param p) refl (arg_kept p.kind marks locals taken' e fine.0)
    where
      ces : List Instr
      ces = args_code marks locals line ps es

      array_now : (e : Expr) → ArrayAlone locals e → map (λ x. array_of frame x) (ownership.names_in e) ≡ given_array e frame ∷ []
      array_now (Variable x) h = refl
      array_now _ h = absurd h

      go : ℕ → Outcome Frame
      go l = (if (is_array_param p) then arguments ps es frame line (new_array p.name (given_array e frame) given)
          else (λ left'. then_do (pay_for (evaluate e frame) line left') (λ v. arguments ps es frame line (new_int p.name v given)))) l

      cases : ArgsRun around locals ps es line store frame → (b : Bool) → (is_array_param p) ≡ b → ArgKept b locals taken' e → steps code left (at around pc ops store t) ≡ resume t (go left) next
      cases again true is fine' =
          let none = array_code marks locals line (p ∷ ps) e fine' in
          let has' : HasAt code.instrs pc ces = subst (λ is. HasAt code.instrs pc (is ++ ces)) none has in
          let place : length (emitted_arg marks line (slotted_argument locals (p ∷ ps) e) ++ ces) ≡ length ces = ap (λ is. length (is ++ ces)) none in
          again pc ops (new_array p.name (given_array e frame) given) t left next has'
          (λ vs g l u n b le.
          ap (λ m. steps code l (at around (pc + m) (reverse_aux vs ops) store u)) (sym place)
          ∙ k vs g l u (n ∙ sym (no_int (not (is_array_param p)) (ap not is)))
          (subst (λ xss. Bound (p ∷ ps) vs xss given g) (sym (ap (λ c. map (λ x. array_of frame x)
          ((if c then ownership.names_in e else []) ++ arrays_named ps es)) is ∙ one_more (array_now e fine')))
          (bound_array p ps (given_array e frame) vs (map (λ x. array_of frame x) (arrays_named ps es)) given g is b)) le)
          ∙ sym (ap (λ c. resume t ((if c then arguments ps es frame line (new_array p.name (given_array e frame) given)
          else (λ left'. then_do (pay_for (evaluate e frame) line left') (λ v. arguments ps es frame line (new_int p.name v given)))) left) next) is)
        where
          no_int : (c : Bool) → c ≡ false → length (map (λ (q : Param). q.name) (cond c (p ∷ filter (λ q. not (is_array_param q)) ps) (filter (λ q. not (is_array_param q)) ps))) ≡ length (locals_of ps).ints
          no_int true e' = cc
          no_int false e' = refl

          one_more : map (λ x. array_of frame x) (ownership.names_in e) ≡ given_array e frame ∷ []
              → map (λ x. array_of frame x) (ownership.names_in e ++ arrays_named ps es) ≡ given_array e frame ∷ map (λ x. array_of frame x) (arrays_named ps es)
          one_more h = map-append (λ x. array_of frame x) (ownership.names_in e) (arrays_named ps es) ∙ ap (λ l. l ++ map (λ x. array_of frame x) (arrays_named ps es)) h
      cases again false is fine' =
          let ce = expr_code marks locals line e in
          let same : emitted_arg marks line (slotted_argument locals (p ∷ ps) e) ≡ ce = arg_code marks locals line (p ∷ ps) e fine'.1 in
          let has' : HasAt code.instrs pc (ce ++ ces) = subst (λ is. HasAt code.instrs pc (is ++ ces)) same has in
          expr_runs around locals taken' e line pc ops store outer frame t left (λ v l u. resume u (arguments ps es frame line (new_int p.name v given) l) next)
          (has_front code.instrs pc ce ces has') fine'.0 a
          (λ v l u le. again (pc + length ce) (v ∷ ops) (new_int p.name v given) u l next
          (has_back code.instrs pc ce ces has')
          (λ vs g l' u' n b le'.
          let place : pc + length ce + length ces ≡ pc + length (emitted_arg marks line (slotted_argument locals (p ∷ ps) e) ++ ces) =
          omega (arith, length-append (emitted_arg marks line (slotted_argument locals (p ∷ ps) e)) ces, ap length same) in
          ap (λ m. steps code l' (at around m (reverse_aux vs (v ∷ ops)) store u')) place
          ∙ k (v ∷ vs) g l' u' (ap suc n ∙ sym (one_int (not (is_array_param p)) (ap not is)))
          (subst (λ xss. Bound (p ∷ ps) (v ∷ vs) xss given g) (sym (ap (λ c. map (λ x. array_of frame x)
          ((if c then ownership.names_in e else []) ++ arrays_named ps es)) is))
          (bound_int p ps v vs (map (λ x. array_of frame x) (arrays_named ps es)) given g is b)) (omega arith)))
          ∙ sym (resume_then t (pay_for (evaluate e frame) line left) (λ v. arguments ps es frame line (new_int p.name v given)) next)
          ∙ sym (ap (λ c. resume t ((if c then arguments ps es frame line (new_array p.name (given_array e frame) given)
          else (λ left'. then_do (pay_for (evaluate e frame) line left') (λ v. arguments ps es frame line (new_int p.name v given)))) left) next) is)
        where
          one_int : (c : Bool) → c ≡ true → length (map (λ (q : Param). q.name)
              (cond c (p ∷ filter (λ q. not (is_array_param q)) ps) (filter (λ q. not (is_array_param q)) ps))) ≡ suc (length (locals_of ps).ints)
          one_int true e' = refl
          one_int false e' = cc
