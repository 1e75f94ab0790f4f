-- A run that ends within a budget ends in the same way within each sufficient budget, after the same number of
-- instructions.
use Rattle.std.proofs.Common.{◌≡◌, ℕ, zero, suc, ◌+◌, ◌-◌, ◌≤◌, Bool, true, false, refl, sym, ap, ◌∙◌, subst, inl}
use Rattle.std.proofs.Common.{inr, arith}
use Rattle.std.proofs.lemmas.Bool.{cases_lt}
use Rattle.cw_facts.specs.Tests.{taken, not_taken}
use Rattle.cw_code.specs.Code.{Code}
use Rattle.cw_code.specs.Run.{State, Transition, On, Ends, Stops, Stuck, step}
use Rattle.cw_code.specs.Jobs.{Extent, has_come, standing, Came, Arrives, Returns, Falls, Beyond, Lost, moved}
use Rattle.cw_code.specs.Jobs.{travel, Job, course, Effect, Ended, Joined, TrapIn, OverLimit, Memory, IsOf}
use Rattle.cw_code.specs.Jobs.{JobMeaning, Same, Passed, Short}
use Rattle.cw_code.specs.Strands.{cost_of}
use Rattle.cw_code.specs.Promises.{Takes, RepresentsRun}

pub takes_none : (cost : ℕ) (run later : ℕ → Came) → cost ≡ 0 → ((n : ℕ) → run n ≡ later n) → Takes cost run later
takes_none cost run later e same = record {
  next = λ n. ap run (omega (arith, e)) ∙ same n;
  short = λ m lt. absurd (omega (arith, e, lt));
}

pub takes_one : (cost : ℕ) (run later : ℕ → Came) → cost ≡ 1 → run 0 ≡ Beyond → ((n : ℕ) → run (suc n) ≡ later n) →
    Takes cost run later
takes_one cost run later e none same = record {
  next = λ n. ap run (omega (arith, e)) ∙ same n;
  short = λ m lt. ap run (omega (arith, e, lt)) ∙ none;
}

pub takes_then : (a c : ℕ) (f g h : ℕ → Came) → Takes a f g → Takes c g h → Takes (a + c) f h
takes_then a c f g h p q = record {
  next = λ n. ap f (omega arith) ∙ p.next (c + n) ∙ q.next n;
  short = λ m lt. elim (cases_lt m a) [
    | inl less ↦ p.short m less
    | inr more ↦ ap f (let e : m ≡ a + (m - a) = omega (arith, more) in e) ∙ p.next (m - a) ∙ q.short (m - a)
        (omega (arith, more, lt))
  ];
}

pub takes_cost : (a b : ℕ) (f g : ℕ → Came) → a ≡ b → Takes a f g → Takes b f g
takes_cost a b f g e t = subst (λ c. Takes c f g) e t

-- the run within one budget determines the run within every other budget
abbrev pub Exact : (budget : ℕ) → (ℕ → Came) → Came → Type 0
Exact budget run (Arrives frame t left) = (left ≤ budget) × Takes (budget - left) run (λ n. Arrives frame t n)
Exact budget run (Returns v arrays t left) = (left ≤ budget) × Takes (budget - left) run (λ n. Returns v arrays t n)
Exact budget run (Falls trap line lines left) =
    (left ≤ budget) × Takes (budget - left) run (λ n. Falls trap line lines n)
Exact budget run Beyond = (m : ℕ) → m ≤ budget → run m ≡ Beyond
Exact budget run Lost = Unit {0}

after_one : (budget left : ℕ) (run run' later : ℕ → Came) → run' 0 ≡ Beyond → ((n : ℕ) → run' (suc n) ≡ run n) →
    (left ≤ budget) × Takes (budget - left) run later → (left ≤ suc budget) × Takes (suc budget - left) run' later
after_one budget left run run' later none same p =
    let le : left ≤ budget = p.0 in (
      omega (arith, le),
      takes_cost (1 + (budget - left)) (suc budget - left) run' later (omega (arith, le))
          (takes_then 1 (budget - left) run' run later (takes_one 1 run' run refl none same) p.1),
    )

one_more : (budget : ℕ) (run run' : ℕ → Came) (c : Came) → run' 0 ≡ Beyond → ((n : ℕ) → run' (suc n) ≡ run n) →
    Exact budget run c → Exact (suc budget) run' c
one_more budget run run' (Arrives frame t left) none same p =
    after_one budget left run run' (λ n. Arrives frame t n) none same p
one_more budget run run' (Returns v arrays t left) none same p =
    after_one budget left run run' (λ n. Returns v arrays t n) none same p
one_more budget run run' (Falls trap line lines left) none same p =
    after_one budget left run run' (λ n. Falls trap line lines n) none same p
one_more budget run run' Beyond none same p = within
  where
    within : (m : ℕ) → m ≤ suc budget → run' m ≡ Beyond
    within zero le = none
    within (suc m) le = same m ∙ p m (omega (arith, le))
one_more budget run run' Lost none same p = tt

module _ (x : Extent) (code : Code) where
  pub come_at : (n : ℕ) (s : State) → has_come x code s ≡ true → travel x code n s ≡ Arrives (standing s) s.trace n
  come_at zero s e = taken (has_come x code s) (Arrives (standing s) s.trace zero) Beyond e
  come_at (suc n) s e =
      taken (has_come x code s) (Arrives (standing s) s.trace (suc n))
      (moved (step code s) n (λ s'. travel x code n s')) e

  pub none_left : (s : State) → has_come x code s ≡ false → travel x code 0 s ≡ Beyond
  none_left s e = not_taken (has_come x code s) (Arrives (standing s) s.trace zero) Beyond e

  pub go_one : (n : ℕ) (s : State) → has_come x code s ≡ false →
      travel x code (suc n) s ≡ moved (step code s) n (λ s'. travel x code n s')
  go_one n s e =
      not_taken (has_come x code s) (Arrives (standing s) s.trace (suc n))
      (moved (step code s) n (λ s'. travel x code n s')) e

  -- one instruction
  pub takes_step : (s : State) (w : Transition) → has_come x code s ≡ false → step code s ≡ w →
      Takes 1 (λ n. travel x code n s) (λ n. moved w n (λ s'. travel x code n s'))
  takes_step s w e same =
      takes_one 1 (λ n. travel x code n s) (λ n. moved w n (λ s'. travel x code n s')) refl (none_left s e)
      (λ n. go_one n s e ∙ ap (λ w'. moved w' n (λ s'. travel x code n s')) same)

  pub exact : (budget : ℕ) (s : State) → Exact budget (λ n. travel x code n s) (travel x code budget s)
  exact zero s = cases (has_come x code s) refl
    where
      cases : (c : Bool) → has_come x code s ≡ c → Exact zero (λ n. travel x code n s) (travel x code zero s)
      cases true e =
          subst (λ c. Exact zero (λ n. travel x code n s) c) (sym (come_at zero s e)) (
            omega arith,
            takes_none (zero - zero) (λ n. travel x code n s) (λ n. Arrives (standing s) s.trace n)
                (omega arith) (λ n. come_at n s e),
          )
      cases false e =
          subst (λ c. Exact zero (λ n. travel x code n s) c) (sym (none_left s e))
          (λ m le. ap (λ k. travel x code k s) (let z : m ≡ 0 = omega (arith, le) in z) ∙ none_left s e)
  exact (suc n) s = cases (has_come x code s) refl (λ s'. exact n s')
    where
      cases : (c : Bool) → has_come x code s ≡ c →
          ((s' : State) → Exact n (λ k. travel x code k s') (travel x code n s')) →
          Exact (suc n) (λ k. travel x code k s) (travel x code (suc n) s)
      cases true e more =
          subst (λ c. Exact (suc n) (λ k. travel x code k s) c) (sym (come_at (suc n) s e)) (
            omega arith,
            takes_none (suc n - suc n) (λ k. travel x code k s) (λ k. Arrives (standing s) s.trace k)
                (omega arith) (λ k. come_at k s e),
          )
      cases false e more =
          subst (λ c. Exact (suc n) (λ k. travel x code k s) c) (sym (go_one n s e)) (went (step code s) refl)
        where
          went : (w : Transition) → step code s ≡ w →
              Exact (suc n) (λ k. travel x code k s) (moved w n (λ s'. travel x code n s'))
          went (On s') same =
              one_more n (λ k. travel x code k s') (λ k. travel x code k s) (travel x code n s') (none_left s e)
              (λ k. go_one k s e ∙ ap (λ w'. moved w' k (λ s2. travel x code k s2)) same) (more s')
          went (Ends v arrays t) same = (
            omega arith,
            takes_cost 1 (suc n - n) (λ k. travel x code k s) (λ k. Returns v arrays t k) (omega arith)
                (takes_step s (Ends v arrays t) e same),
          )
          went (Stops trap line lines) same = (
            omega arith,
            takes_cost 1 (suc n - n) (λ k. travel x code k s) (λ k. Falls trap line lines k)
                (omega arith) (takes_step s (Stops trap line lines) e same),
          )
          went Stuck same = tt

module _ (code : Code) (job : Job) where
  came_so : (cost : ℕ) (later : ℕ → Came) → cost ≤ job.limit → Takes cost (course code job) later →
      course code job job.limit ≡ later (job.limit - cost)
  came_so cost later le t =
      ap (course code job) (let e : job.limit ≡ cost + (job.limit - cost) = omega (arith, le) in e) ∙ t.next
      (job.limit - cost)

  back_again : (cost limit : ℕ) → cost ≤ limit → cost ≡ limit - (limit - cost)
  back_again cost limit le = omega (arith, le)

  pub stands_meaning : (e : Effect) → job.before + cost_of e ≤ job.limit → RepresentsRun code job e → JobMeaning code job e
  stands_meaning (Ended v arrays t cost) le h =
      let fits : cost ≤ job.limit = omega (arith, le) in
      Same (subst (λ c. IsOf c job.limit (Ended v arrays t cost))
      (sym (came_so cost (λ n. Returns v arrays t n) fits h))
      (ap (λ c. Ended v arrays t c) (back_again cost job.limit fits)))
  stands_meaning (Joined frame t cost) le h =
      let fits : cost ≤ job.limit = omega (arith, le) in
      Same (subst (λ c. IsOf c job.limit (Joined frame t cost)) (sym (came_so cost (λ n. Arrives frame t n) fits h))
      (ap (λ c. Joined frame t c) (back_again cost job.limit fits)))
  stands_meaning (TrapIn trap line lines cost) le h =
      let fits : cost ≤ job.limit = omega (arith, le) in
      Same (subst (λ c. IsOf c job.limit (TrapIn trap line lines cost))
      (sym (came_so cost (λ n. Falls trap line lines n) fits h))
      (ap (λ c. TrapIn trap line lines c) (back_again cost job.limit fits)))
  stands_meaning OverLimit le h = Passed refl (h (job.limit - job.before) (omega (arith, le)))
  stands_meaning Memory le h = Short refl
