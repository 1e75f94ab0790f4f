-- The effect of one instruction on a run: it pays, joins, traps, or continues.
use Rattle.std.proofs.Common.{◌≡◌, ℕ, zero, suc, ◌+◌, ◌-◌, ◌<◌, List, [], ◌∷◌, if◌then◌else◌, nat_lt, Some, refl, sym, ap, ◌∙◌, arith, ℤ}
use Rattle.std.specs.Prelude.{slice_get}
use Rattle.cw_facts.specs.Tests.{not_below}
use Rattle.cw_model.specs.declared.trap.Trap.{Trap}
use Rattle.std.proofs.lemmas.List.{append-nil}
use Rattle.cw_model.specs.Ints.{Result, Value, Fails}
use Rattle.cw_model.specs.Trees.{Join, works}
use Rattle.cw_model.specs.Expressions.{done_at}
use Rattle.cw_model.specs.Outcome.{Outcome, Done, Trapped, Over, Trace, shows, after, then_do, pay, gives, pay_for}
use Rattle.cw_code.specs.declared.code.Instr.{Instr}
use Rattle.cw_code.specs.Code.{Code}
use Rattle.cw_code.specs.Run.{State, Transition, Stops, RunOutcome, ticked, synced, operated, act, go_on, steps}
use Rattle.cw_code.specs.lemmas.Runs.{joined_quiet}
use Rattle.cw_gen.proofs.Traces.{resume, resume_then, paid_one}

module _ (code : Code) where
  -- one step executes the instruction at the current place
  pub one : (s : State) (i : Instr) → slice_get code.instrs s.place ≡ Some i → (l : ℕ) → steps code (suc l) s ≡ go_on (act code s (Some i)) l (λ s'. steps code l s')
  one s i h l = ap (λ o. go_on (act code s o) l (λ s'. steps code l s')) h

  -- an instruction that pays needs one unit of fuel
  pub pays : {A : Type 0} (a : A) (s : State) (u : Trace) (left : ℕ) (next : A → ℕ → Trace → RunOutcome) →
      ((l : ℕ) → l < left → steps code (suc l) s ≡ next a l (ticked u)) →
      steps code left s ≡ resume u (if nat_lt left 1 then Over else Done a (left - 1) (shows (works 1))) next
  pays a s u zero next h = refl
  pays a s u (suc l) next h = h l (omega arith) ∙ sym (ap (λ o. resume u o next) (paid_one a l (shows (works 1))))

  -- an instruction that pays and has no continuation needs one unit of fuel
  pub pays_last : {A : Type 0} (a : A) (s : State) (u : Trace) (left : ℕ) (next : A → ℕ → Trace → RunOutcome) →
      ((l : ℕ) → l < left → steps code (suc l) s ≡ next a l (ticked u)) →
      steps code left s ≡ resume u (then_do (pay 1 left) (λ _. gives a)) next
  pays_last a s u left next h =
      pays tt s u left (λ _ l u'. resume u' (gives a l) next) (λ l below. h l below ∙ ap (next a l) (sym (joined_quiet (ticked u))))
      ∙ sym (resume_then u (pay 1 left) (λ _. gives a) next)

  -- a join and its instruction
  pub syncs : {A : Type 0} (a : A) (s : State) (u : Trace) (left : ℕ) (next : A → ℕ → Trace → RunOutcome) →
      ((l : ℕ) → l < left → steps code (suc l) s ≡ next a l (synced u)) →
      steps code left s ≡ resume u (after (shows (Join ∷ [])) (then_do (pay 1 left) (λ _. gives a))) next
  syncs a s u zero next h = refl
  syncs a s u (suc l) next h =
      h l (omega arith) ∙ sym (ap (λ o. resume u (after (shows (Join ∷ [])) (then_do o (λ _. gives a))) next) (paid_one tt l (shows (works 1))))

  -- the instruction of an operator computes its result or traps
  pub operates : (s : State) (line : ℕ) (rest : List ℤ) (r : Result) (i : Instr) (left : ℕ) (next : ℤ → ℕ → Trace → RunOutcome) →
      slice_get code.instrs s.place ≡ Some i → act code s (Some i) ≡ operated s line rest r →
      ((v : ℤ) (l : ℕ) → l < left → steps code l (record s { place = s.place + 1; operands = v ∷ rest; trace = ticked s.trace }) ≡ next v l (ticked s.trace)) →
      steps code left s ≡ resume s.trace (pay_for (done_at 1 r) line left) next
  operates s line rest (Value v) i left next has acts k =
      pays v s s.trace left next (λ l below. one s i has l ∙ ap (λ w. go_on w l (λ s'. steps code l s')) acts ∙ k v l below)
  operates s line rest (Fails trap) i zero next has acts k = refl
  operates s line rest (Fails trap) i (suc l) next has acts k =
      one s i has l
      ∙ ap (λ w. go_on w l (λ s'. steps code l s')) acts
      ∙ ap (λ ls. Some (Trapped trap line ls)) (sym (append-nil s.trace.lines))
      ∙ sym (ap (λ b. resume s.trace (if b then over_int else Trapped trap line []) next) (not_below (suc l) 1 (omega arith)))
    where
      over_int : Outcome ℤ
      over_int = Over

  -- an instruction computes a value or traps
  pub does : (s : State) (line : ℕ) (r : Result) (i : Instr) (left : ℕ) (next : ℤ → ℕ → Trace → RunOutcome) (go : ℤ → Transition) →
      slice_get code.instrs s.place ≡ Some i → ((v : ℤ) → r ≡ Value v → act code s (Some i) ≡ go v) → ((trap' : Trap) → r ≡ Fails trap' → act code s (Some i) ≡ Stops trap' line s.trace.lines) →
      ((v : ℤ) (l : ℕ) → l < left → go_on (go v) l (λ s'. steps code l s') ≡ next v l (ticked s.trace)) →
      steps code left s ≡ resume s.trace (pay_for (done_at 1 r) line left) next
  does s line (Value v) i left next go has acts stops k = pays v s s.trace left next (λ l below. one s i has l ∙ ap (λ w. go_on w l (λ s'. steps code l s')) (acts v refl) ∙ k v l below)
  does s line (Fails trap') i zero next go has acts stops k = refl
  does s line (Fails trap') i (suc l) next go has acts stops k =
      one s i has l
      ∙ ap (λ w. go_on w l (λ s'. steps code l s')) (stops trap' refl)
      ∙ ap (λ ls. Some (Trapped trap' line ls)) (sym (append-nil s.trace.lines))
      ∙ sym (ap (λ b. resume s.trace (if b then over_int else Trapped trap' line []) next) (not_below (suc l) 1 (omega arith)))
    where
      over_int : Outcome ℤ
      over_int = Over
