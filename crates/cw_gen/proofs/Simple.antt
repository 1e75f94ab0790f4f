-- The code of statements without inner blocks and calls.
use Rattle.std.proofs.Common.{◌≡◌, ℕ, ◌+◌, ◌≤◌, List, [], ◌∷◌, ◌++◌, length, Bool, true, false, if◌then◌else◌, Option, Some, sym, ap, ◌∙◌, arith, length-append, ℤ}
use Rattle.std.specs.Prelude.{slice_get, slice_set}
use Rattle.cw_facts.specs.Tests.{taken}
use Rattle.cw_model.specs.Ints.{Result, is_zero}
use Rattle.cw_model.specs.Syntax.{Expr}
use Rattle.cw_model.specs.Frames.{Frame}
use Rattle.cw_model.specs.Expressions.{evaluate, and_then, done_at}
use Rattle.cw_model.specs.Outcome.{Outcome, Trace, joined, then_do, pay, show, pay_for}
use Rattle.cw_model.specs.Meaning.{Completion, Normal, ByReturn, going}
use Rattle.cw_model.specs.Typing.{Returns}
use Rattle.cw_model.specs.Ownership.{Taken}
use Rattle.cw_tree.specs.Resolved.{Locals}
use Rattle.cw_code.specs.declared.code.Instr.{Instr}
use Rattle.cw_code.specs.declared.code.Instr.TheVariants as instr
use Rattle.cw_code.specs.Code.{Code}
use Rattle.cw_code.specs.Run.{Slots, Around, State, On, Stuck, RunOutcome, ticked, is_full, set_array, back, act, go_on, steps}
use Rattle.cw_code.specs.lemmas.Runs.{joined_quiet}
use Rattle.cw_gen.specs.Emit.{returns}
use Rattle.cw_gen.specs.Marks.{Marks, array_at}
use Rattle.cw_gen.proofs.Marked.{IsOwn, owned, set_owned, set_read}
use Rattle.cw_gen.proofs.Fine.{ExprFine, Room}
use Rattle.cw_gen.proofs.Traces.{resume, resume_then}
use Rattle.cw_gen.proofs.Places.{HasAt, has_front, has_back}
use Rattle.cw_gen.proofs.Costs.{value_and_then}
use Rattle.cw_gen.proofs.Stores.{Store, Outside, Agrees, Fills, with_slot, with_array_slot, fills_slot, fills_array}
use Rattle.cw_gen.proofs.Codes.{here, GivesBack, MayGive}
use Rattle.cw_gen.proofs.Texts.{expr_code}
use Rattle.cw_gen.proofs.Steps.{one, pays, pays_last, does}
use Rattle.cw_gen.proofs.Values.{expr_runs}

module _ (code : Code) (marks : Marks) (depth : ℕ) where
  abbrev at : List Around → ℕ → List ℤ → Store → Trace → State
  at around pc ops store t = here marks depth around pc ops store t

  -- the continuation from a place on, with these names
  abbrev pub Onwards : List Around → Locals → Taken → ℕ → Outside → (size : Room) (left : ℕ) → (Completion → ℕ → Trace → RunOutcome) → Type 0
  Onwards around locals taken' pc outer size left next =
      (frame : Frame) (store : Store) (l : ℕ) (u : Trace) → Agrees locals taken' frame store outer → Fills marks store size → l ≤ left
      → steps code l (at around pc [] store u) ≡ next (Normal frame) l u

  -- the continuation of the caller after the call returns
  abbrev pub Backs : Returns → Room → List Around → (left : ℕ) → (Completion → ℕ → Trace → RunOutcome) → Type 0
  Backs returns size around left next =
      (v : Option ℤ) (frame : Frame) (arrays : Slots (List ℤ)) (l : ℕ) (u : Trace) → MayGive returns v → GivesBack marks size.given frame arrays
      → l ≤ left → go_on (back around v arrays u) l (λ s. steps code l s) ≡ next (ByReturn v frame) l u

  -- the code of an expression and a store executes both
  pub store_runs : (around : List Around) (locals locals' : Locals) (taken' : Taken) (e : Expr) (line pc a : ℕ) (size : Room) (store : Store)
      (outer : Outside) (frame : Frame) (made : ℤ → Frame) (t : Trace) (left : ℕ) (next : Completion → ℕ → Trace → RunOutcome) →
      HasAt code.instrs pc (expr_code marks locals line e ++ instr.Store a ∷ []) → ExprFine locals taken' e → Agrees locals taken' frame store outer → Fills marks store size →
      is_full (slice_get store.slots a) ≡ true →
      ((v : ℤ) → Agrees locals' taken' (made v) (with_slot a (Some v) store) outer) →
      Onwards around locals' taken' (pc + length (expr_code marks locals line e ++ instr.Store a ∷ [])) outer size left next →
      steps code left (at around pc [] store t) ≡ resume t (then_do (pay_for (evaluate e frame) line left) (λ v left'. then_do (pay 1 left') (λ _. going (made v)))) next
  store_runs around locals locals' taken' e line pc a size store outer frame made t left next has fine agrees n there_is made_agrees on =
      let ce = expr_code marks locals line e in
      let place : pc + length ce + 1 ≡ pc + length (ce ++ instr.Store a ∷ []) = omega (arith, length-append ce (instr.Store a ∷ [])) in
      let there = (has_back code.instrs pc ce (instr.Store a ∷ []) has).0 in
      expr_runs code marks depth around locals taken' e line pc [] store outer frame t left (λ v l u. resume u (then_do (pay 1 l) (λ _. going (made v))) next)
      (has_front code.instrs pc ce (instr.Store a ∷ []) has) fine agrees
      (λ v l u le. pays_last code (Normal (made v)) (at around (pc + length ce) (v ∷ []) store u) u l next (λ l' below.
      one code (at around (pc + length ce) (v ∷ []) store u) (instr.Store a) there l'
      ∙ ap (λ w. go_on w l' (λ s'. steps code l' s')) (taken (is_full (slice_get store.slots a)) (On (at around (pc + length ce + 1) [] (with_slot a (Some v) store) (ticked u))) Stuck there_is)
      ∙ ap (λ m. steps code l' (at around m [] (with_slot a (Some v) store) (ticked u))) place
      ∙ on (made v) (with_slot a (Some v) store) l' (ticked u) (made_agrees v) (fills_slot marks a (Some v) store size n) (omega arith)))
      ∙ sym (resume_then t (pay_for (evaluate e frame) line left) (λ v left'. then_do (pay 1 left') (λ _. going (made v))) next)

  -- the code of an expression and an instruction that records its value executes both
  pub tells_runs : (around : List Around) (locals : Locals) (taken' : Taken) (e : Expr) (line pc : ℕ) (size : Room) (i : Instr) (store : Store)
      (outer : Outside) (frame : Frame) (told : ℤ → Trace) (t : Trace) (left : ℕ) (next : Completion → ℕ → Trace → RunOutcome) →
      HasAt code.instrs pc (expr_code marks locals line e ++ i ∷ []) → ExprFine locals taken' e → Agrees locals taken' frame store outer → Fills marks store size →
      ((v : ℤ) (place : ℕ) (u : Trace) → act code (at around place (v ∷ []) store u) (Some i) ≡ On (at around (place + 1) [] store (joined (ticked u) (told v)))) →
      Onwards around locals taken' (pc + length (expr_code marks locals line e ++ i ∷ [])) outer size left next →
      steps code left (at around pc [] store t) ≡ resume t (then_do (pay_for (evaluate e frame) line left)
      (λ v left'. then_do (pay 1 left') (λ _ l. then_do (show (told v) l) (λ _. going frame)))) next
  tells_runs around locals taken' e line pc size i store outer frame told t left next has fine agrees n acts on =
      let ce = expr_code marks locals line e in
      let place : pc + length ce + 1 ≡ pc + length (ce ++ i ∷ []) = omega (arith, length-append ce (i ∷ [])) in
      let there = (has_back code.instrs pc ce (i ∷ []) has).0 in
      expr_runs code marks depth around locals taken' e line pc [] store outer frame t left (λ v l u. resume u (then_do (pay 1 l) (λ _ l'. then_do (show (told v) l') (λ _. going frame))) next)
      (has_front code.instrs pc ce (i ∷ []) has) fine agrees
      (λ v l u le.
      pays code tt (at around (pc + length ce) (v ∷ []) store u) u l (λ _ l' u'. resume u' (then_do (show (told v) l') (λ _. going frame)) next) (λ l' below.
      one code (at around (pc + length ce) (v ∷ []) store u) i there l'
      ∙ ap (λ w. go_on w l' (λ s'. steps code l' s')) (acts v (pc + length ce) u)
      ∙ ap (λ m. steps code l' (at around m [] store (joined (ticked u) (told v)))) place
      ∙ on frame store l' (joined (ticked u) (told v)) agrees n (omega arith)
      ∙ ap (next (Normal frame) l') (sym (joined_quiet (joined (ticked u) (told v))))
      ∙ sym (resume_then (ticked u) (show (told v) l') (λ _. going frame) next))
      ∙ sym (resume_then u (pay 1 l) (λ _ l'. then_do (show (told v) l') (λ _. going frame)) next))
      ∙ sym (resume_then t (pay_for (evaluate e frame) line left) (λ v left'. then_do (pay 1 left') (λ _ l. then_do (show (told v) l) (λ _. going frame))) next)

  -- an array that is written to its slot
  written : (around : List Around) (pc a : ℕ) (xs : List ℤ) (store : Store) (t : Trace) → IsOwn marks a →
      On (record (at around pc [] store t) { arrays = slice_set (owned marks store.arrays) (array_at marks a) (Some xs) }) ≡ On (at around pc [] (with_array_slot a (Some xs) store) t)
  written around pc a xs store t own =
      ap (λ l. On (record (at around pc [] store t) { arrays = l })) (sym (set_owned marks a (Some xs) store.arrays own))
      ∙ ap (λ l. On (record (at around pc [] store t) { arrays = owned marks (slice_set store.arrays a (Some xs)); readers = l })) (sym (set_read marks a (Some xs) store.arrays own))

  -- the code of an expression and an instruction that sets an array from its value executes both
  pub value_runs : (around : List Around) (locals locals' : Locals) (taken' : Taken) (e : Expr) (line pc a : ℕ) (ops : List ℤ) (size : Room)
      (i : Instr) (store : Store) (outer : Outside) (frame : Frame) (make : ℤ → List ℤ) (op : ℤ → Result) (made : ℤ → Frame) (t : Trace) (left : ℕ)
      (next : Completion → ℕ → Trace → RunOutcome) →
      HasAt code.instrs pc (expr_code marks locals line e ++ i ∷ []) → ExprFine locals taken' e → Agrees locals taken' frame store outer → Fills marks store size →
      IsOwn marks a → ((v : ℤ) (place : ℕ) (u : Trace) → act code (at around place (v ∷ ops) store u) (Some i) ≡ set_array (at around place (v ∷ ops) store u) (array_at marks a) line [] make (op v)) →
      ((v : ℤ) → Agrees locals' taken' (made v) (with_array_slot a (Some (make v)) store) outer) →
      Onwards around locals' taken' (pc + length (expr_code marks locals line e ++ i ∷ [])) outer size left next →
      steps code left (at around pc ops store t) ≡ resume t (then_do (pay_for (and_then (evaluate e frame) op) line left) (λ v. going (made v))) next
  value_runs around locals locals' taken' e line pc a ops size i store outer frame make op made t left next has fine agrees n own acts made_agrees on =
      let ce = expr_code marks locals line e in
      let place : pc + length ce + 1 ≡ pc + length (ce ++ i ∷ []) = omega (arith, length-append ce (i ∷ [])) in
      let there = (has_back code.instrs pc ce (i ∷ []) has).0 in
      let next' : ℤ → ℕ → Trace → RunOutcome = λ v l u. resume u (going (made v) l) next in
      expr_runs code marks depth around locals taken' e line pc ops store outer frame t left (λ v l u. resume u (pay_for (done_at 1 (op v)) line l) next')
      (has_front code.instrs pc ce (i ∷ []) has) fine agrees
      (λ v l u le.
      let s = at around (pc + length ce) (v ∷ ops) store u in
      does code s line (op v) i l next' (λ w. On (at around (pc + length ce + 1) [] (with_array_slot a (Some (make w)) store) (ticked u))) there
      (λ w is. acts v (pc + length ce) u ∙ ap (set_array s (array_at marks a) line [] make) is ∙ written around (pc + length ce + 1) a (make w) store (ticked u) own)
      (λ trap' is. acts v (pc + length ce) u ∙ ap (set_array s (array_at marks a) line [] make) is)
      (λ w l' below.
      ap (λ m. steps code l' (at around m [] (with_array_slot a (Some (make w)) store) (ticked u))) place
      ∙ on (made w) (with_array_slot a (Some (make w)) store) l' (ticked u) (made_agrees w) (fills_array marks a (Some (make w)) store size n) (omega arith)
      ∙ ap (next (Normal (made w)) l') (sym (joined_quiet (ticked u)))))
      ∙ sym (resume_then t (pay_for (evaluate e frame) line left) (λ v l. pay_for (done_at 1 (op v)) line l) next')
      ∙ sym (ap (λ o. resume t o next') (value_and_then (evaluate e frame) op line left))
      ∙ sym (resume_then t (pay_for (and_then (evaluate e frame) op) line left) (λ v. going (made v)) next)

  -- two branches with the same continuation
  pub either : (around : List Around) (z : Bool) (far near : ℕ) (store : Store) (zero_way other_way : ℕ → Outcome Completion) (l : ℕ) (u : Trace) (next : Completion → ℕ → Trace → RunOutcome) →
      steps code l (at around far [] store u) ≡ resume u (zero_way l) next → steps code l (at around near [] store u) ≡ resume u (other_way l) next →
      steps code l (at around (if z then far else near) [] store u) ≡ resume u ((if z then zero_way else other_way) l) next
  either around true far near store zero_way other_way l u next h k = h
  either around false far near store zero_way other_way l u next h k = k

  -- the code of an expression and a test executes both
  pub test_runs : (around : List Around) (locals : Locals) (taken' : Taken) (e : Expr) (line pc n : ℕ) (store : Store) (outer : Outside)
      (frame : Frame) (go : ℤ → ℕ → Outcome Completion) (t : Trace) (left : ℕ) (next : Completion → ℕ → Trace → RunOutcome) →
      HasAt code.instrs pc (expr_code marks locals line e ++ instr.SkipIfZero n ∷ []) → ExprFine locals taken' e → Agrees locals taken' frame store outer →
      ((v : ℤ) (l : ℕ) (u : Trace) → l ≤ left → steps code l (at around
      (if is_zero v then pc + length (expr_code marks locals line e) + 1 + n else pc + length (expr_code marks locals line e) + 1) [] store u)
      ≡ resume u (go v l) next) →
      steps code left (at around pc [] store t) ≡ resume t (then_do (pay_for (evaluate e frame) line left) (λ v left'. then_do (pay 1 left') (λ _ l. go v l))) next
  test_runs around locals taken' e line pc n store outer frame go t left next has fine a k =
      let ce = expr_code marks locals line e in
      let there = (has_back code.instrs pc ce (instr.SkipIfZero n ∷ []) has).0 in
      expr_runs code marks depth around locals taken' e line pc [] store outer frame t left (λ v l u. resume u (then_do (pay 1 l) (λ _ l'. go v l')) next)
      (has_front code.instrs pc ce (instr.SkipIfZero n ∷ []) has) fine a
      (λ v l u le.
      pays code tt (at around (pc + length ce) (v ∷ []) store u) u l (λ _ l' u'. resume u' (go v l') next) (λ l' below.
      one code (at around (pc + length ce) (v ∷ []) store u) (instr.SkipIfZero n) there l' ∙ k v l' (ticked u) (omega arith))
      ∙ sym (resume_then u (pay 1 l) (λ _ l'. go v l') next))
      ∙ sym (resume_then t (pay_for (evaluate e frame) line left) (λ v left'. then_do (pay 1 left') (λ _ l. go v l)) next)
