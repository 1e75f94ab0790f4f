-- A run that ends does no more work than its limit.
use Rattle.std.proofs.Common.{◌≡◌, ◌≤◌, ℕ, zero, suc, ◌-◌, ℤ, Bool, true, false, if◌then◌else◌, Option, Some, None, List, [], arith, refl, sym, subst}
use Rattle.std.specs.Prelude.{◌&&◌, nat_eq, nat_le, length, option_map, slice_get}
use Rattle.std.proofs.lemmas.Option.{none-some}
use Rattle.cw_model.specs.declared.total.Total.{Total}
use Rattle.cw_model.specs.Trees.{Tree, Marked, Invocation, work, tree_of, normal}
use Rattle.cw_model.specs.TreeLaws.{ReadSame}
use Rattle.cw_model.specs.Outcome.{Trace, Done, Trapped, Over}
use Rattle.cw_model.specs.Meaning.{Returned}
use Rattle.cw_model.specs.Answers.{Ended, answer_of}
use Rattle.cw_code.specs.declared.code.Func.{Func}
use Rattle.cw_code.specs.Code.{Code}
use Rattle.cw_code.specs.Run.{Slots, State, Transition, On, Ends, Stops, Stuck, step, steps, go_on, RunOutcome, first_state, first_transition, reducers_of, code_serial}
use Rattle.cw_code.specs.Jobs.{WholeCall, Came, Returns, moved, travel, root_job, Same, IsOf}
use Rattle.cw_code.specs.Jobs as jobs
use Rattle.cw_code.specs.Costs.{CostsAreWork}
use Rattle.cw_greedy_schedule.specs.Schedules as schedules

module _ (code : Code) where
  -- a run that is done reaches its end as a job does
  abbrev Comes : RunOutcome → Came → Type 0
  Comes (Some (Done returned left t)) c = (v : Option ℤ) × ((arrays : Slots (List ℤ)) × (c ≡ Returns v arrays t left))
  Comes (Some (Trapped trap line lines)) c = Unit {0}
  Comes (Some Over) c = Unit {0}
  Comes None c = Unit {0}

  comes : (n : ℕ) (s : State) → Comes (steps code n s) (travel WholeCall code n s)
  comes zero s = tt
  comes (suc n) s = cases (step code s) (λ s'. comes n s')
    where
      cases : (w : Transition) → ((s' : State) → Comes (steps code n s') (travel WholeCall code n s'))
          → Comes (go_on w n (λ s'. steps code n s')) (moved w n (λ s'. travel WholeCall code n s'))
      cases (On s') more = more s'
      cases (Ends v arrays t) more = (v, (arrays, refl))
      cases (Stops trap line lines) more = tt
      cases Stuck more = tt

  module _ (costs : CostsAreWork) (alike : (t : Tree) → ReadSame (normal t) t) (args : List ℤ) (n : ℕ) where
    -- the cost of a run is the work of its tree
    done_within : (f : Func) (returned : Returned) (left : ℕ) (t : Trace)
        → Comes (Some (Done returned left t)) (travel WholeCall code n (first_state f args [] []))
        → work (normal (Marked (Invocation 0) (tree_of t.events))) ≤ n
    done_within f returned left t c =
        let e = jobs.Ended c.0 c.1.0 t (n - left) in
        let of : IsOf (travel WholeCall code n (first_state f args [] [])) n e = subst (λ x. IsOf x n e) (sym c.1.1) refl in
        let cost : work (tree_of t.events) ≡ n - left = costs code (root_job f args n) e (Same of) in
        omega (arith, cost, (alike (Marked (Invocation 0) (tree_of t.events))).same_work)

    module _ (v : ℤ) (lines : List ℤ) (totals : List Total) (tree : Tree) where
      ran : (f : Func) (r : RunOutcome) → steps code n (first_state f args [] []) ≡ r
          → option_map (λ o. answer_of (reducers_of code) o) r ≡ Some (Ended v lines totals tree) → work tree ≤ n
      ran f None is e = absurd (none-some (Ended v lines totals tree) e)
      ran f (Some (Trapped trap line shown)) is e = absurd (differ e)
        where
          differ : option_map (λ o. answer_of (reducers_of code) o) (Some (Trapped trap line shown)) ≡ Some (Ended v lines totals tree) → ⊥
          differ e = cc
      ran f (Some Over) is e = absurd (differ e)
        where
          differ : option_map (λ o. answer_of (reducers_of code) o) (Some Over) ≡ Some (Ended v lines totals tree) → ⊥
          differ e = cc
      ran f (Some (Done returned left t)) is e =
          let c = subst (λ r. Comes r (travel WholeCall code n (first_state f args [] []))) is (comes n (first_state f args [] [])) in
          subst (λ u. work u ≤ n) (same e) (done_within f returned left t c)
        where
          same : option_map (λ o. answer_of (reducers_of code) o) (Some (Done returned left t)) ≡ Some (Ended v lines totals tree)
              → normal (Marked (Invocation 0) (tree_of t.events)) ≡ tree
          same e = cc

      begun : (o : Option Func) → option_map (λ o. answer_of (reducers_of code) o) (go_on (first_transition o args) n (λ s. steps code n s)) ≡ Some (Ended v lines totals tree) → work tree ≤ n
      begun None e = absurd (none-some (Ended v lines totals tree) e)
      begun (Some f) e = by_test (nat_eq (length args) f.params && (nat_le f.params f.slots && (nat_eq f.array_params 0 && nat_eq f.readers 0))) e
        where
          by_test : (b : Bool) → option_map (λ o. answer_of (reducers_of code) o)
              (go_on (if b then On (first_state f args [] []) else Stuck) n (λ s. steps code n s)) ≡ Some (Ended v lines totals tree)
              → work tree ≤ n
          by_test true e = ran f (steps code n (first_state f args [] [])) refl e
          by_test false e = absurd (none-some (Ended v lines totals tree) e)

      answered : code_serial code args n ≡ Some (Ended v lines totals tree) → work tree ≤ n
      unfolding code_serial
      answered e = begun (slice_get code.funcs code.main) e

    pub within : (tree : Tree) → schedules.Ends code args n tree → work tree ≤ n
    within tree h = answered h.value h.lines h.totals tree h.answer
