-- A run of well-formed code calls only at its sites.
use Rattle.std.proofs.Common.{◌≡◌, ℕ, zero, suc, ◌+◌, ◌-◌, ◌<◌, ℤ, Bool, true, false, ◌&&◌, if◌then◌else◌, nat_lt}
use Rattle.std.proofs.Common.{Option, Some, None, List, [], ◌∷◌, ◌++◌, length, refl, sym, ◌∙◌, subst, arith}
use Rattle.std.specs.Prelude.{slice_get, option_map, nat_eq, nat_le}
use Rattle.std.proofs.Math.Bool.{and-true, and_assoc}
use Rattle.std.proofs.lemmas.Option.{slice_get_within}
use Rattle.cw_facts.specs.Tests.{both_true, first_true, second_true, below, lt_of, eq_of}
use Rattle.cw_model.specs.declared.syntax.CallKind.{CallKind}
use Rattle.cw_model.specs.declared.syntax.CallKind.TheVariants.{Plain, Spawned}
use Rattle.cw_model.specs.declared.total.Total.{Total}
use Rattle.cw_model.specs.Syntax.{Name, Reducer}
use Rattle.cw_model.specs.Trees.{Invocation, Tree, Marked, Event, Work, Series, Fork, Join, works, parts_of, tree_of, normal}
use Rattle.cw_model.specs.TreeLaws.{Regrouped, same, back, further, to_the_right, as_one_strand, nothing_before, nothing_after, in_series, in_fork, in_mark}
use Rattle.cw_model.specs.Rows.{sites_below}
use Rattle.cw_model.specs.Outcome.{Done, Trapped, Over}
use Rattle.cw_model.specs.Answers.{Ended, answer_of}
use Rattle.cw_model.specs.lemmas.Regrouping.{normal_is_regrouped}
use Rattle.cw_code.specs.declared.code.Callee.{Callee}
use Rattle.cw_code.specs.declared.code.Func.{Func}
use Rattle.cw_code.specs.declared.code.Instr.{Instr}
use Rattle.cw_code.specs.declared.code.Instr.TheVariants as instr
use Rattle.cw_code.specs.Code.{CodeSite, Code}
use Rattle.cw_code.specs.Run.{Opened, Around, Caller, Block, State, Transition, On, Ends, Stops, Stuck, synced, settled, event_of, block_event}
use Rattle.cw_code.specs.Run.{passed_by, lent_by, act, step, RunOutcome, go_on, steps, first_state, first_transition, reducers_of, code_serial}
use Rattle.cw_code.specs.Run as run
use Rattle.cw_code.specs.Fits.{is_site, names_passed, names_target, names_callee, names_lent, names_well, Fits}
use Rattle.cw_code.specs.Good.{GoodState, GoodTransition}
use Rattle.cw_code.specs.Sited.{CallsAtItsSites}
use Rattle.cw_code.specs.lemmas.Acts.{acts_both, closing, uncutting, returning}
use Rattle.cw_code.proofs.Unstuck.{facts, first_good, fit_steps}

-- trees, events and runs whose invocations are all of sites below a number
module _ (count : ℕ) where
  -- trees that differ only in grouping have the same sites
  same_sites : {t u : Tree} → Regrouped t u → sites_below count t ≡ sites_below count u
  same_sites (same t) = refl
  same_sites (back r) = sym (same_sites r)
  same_sites (further r s) = same_sites r ∙ same_sites s
  same_sites (to_the_right a b c) = and_assoc (sites_below count a) (sites_below count b) (sites_below count c)
  same_sites (as_one_strand j k) = refl
  same_sites (nothing_before t) = refl
  same_sites (nothing_after t) = and-true (sites_below count t)
  same_sites (in_series r s) = rw (same_sites r, same_sites s) refl
  same_sites (in_fork r s) = rw (same_sites r, same_sites s) refl
  same_sites (in_mark mark r) = rw (same_sites r) refl

  -- all invocations in the tree of an event, if it has one, are of sites below the number
  abbrev IsSited : Event → Type 0
  IsSited (Work k) = Unit {0}
  IsSited (Series t) = sites_below count t ≡ true
  IsSited (Fork t) = sites_below count t ≡ true
  IsSited Join = Unit {0}

  abbrev AreSited : List Event → Type 0
  AreSited [] = Unit {0}
  AreSited (e ∷ events) = IsSited e × AreSited events

  sited_both : (events more : List Event) → AreSited events → AreSited more → AreSited (events ++ more)
  sited_both [] more h k = k
  sited_both (e ∷ events) more h k = (h.0, sited_both events more h.1 k)

  -- all invocations in both trees of a list of events are of sites below the number, if they are in each event
  parts_sited : (events : List Event) → AreSited events
      → (sites_below count (parts_of events).0 ≡ true) × (sites_below count (parts_of events).1 ≡ true)
  parts_sited [] h = (refl, refl)
  parts_sited (Work k ∷ events) h = parts_sited events h.1
  parts_sited (Series t ∷ events) h =
      let later = parts_sited events h.1 in (both_true (sites_below count t) (sites_below count (parts_of events).0) h.0 later.0, later.1)
  parts_sited (Fork t ∷ events) h =
      let later = parts_sited events h.1 in (both_true (sites_below count t) (sites_below count (parts_of events).0) h.0 later.0, later.1)
  parts_sited (Join ∷ events) h =
      let later = parts_sited events h.1 in
      (refl, both_true (sites_below count (parts_of events).0) (sites_below count (parts_of events).1) later.0 later.1)

  tree_sited : (events : List Event) → AreSited events → sites_below count (tree_of events) ≡ true
  tree_sited events h =
      let parts = parts_sited events h in
      both_true (sites_below count (parts_of events).0) (sites_below count (parts_of events).1) parts.0 parts.1

  -- the site of a call is below the number, or the call has no site
  abbrev IsSite : Option ℕ → Type 0
  IsSite None = Unit {0}
  IsSite (Some site) = nat_lt site count ≡ true

  call_sited : (kind : CallKind) (site : Option ℕ) (t : Tree) → IsSite site → sites_below count t ≡ true → IsSited (event_of kind site t)
  call_sited Plain None t s h = h
  call_sited Spawned None t s h = h
  call_sited Plain (Some site) t s h = both_true (nat_lt site count) (sites_below count t) s h
  call_sited Spawned (Some site) t s h = both_true (nat_lt site count) (sites_below count t) s h

  block_sited : (tag : Option Name) (t : Tree) → sites_below count t ≡ true → IsSited (block_event tag t)
  block_sited None t h = h
  block_sited (Some tag) t h = h

  -- in all enclosing blocks and callers, invocations and calls are of sites below the number
  abbrev RoundSited : List Around → Type 0
  RoundSited [] = Unit {0}
  RoundSited (Caller w ∷ around) = (IsSite w.site × AreSited w.events) × RoundSited around
  RoundSited (Block o ∷ around) = AreSited o.events × RoundSited around

  -- after a step, all invocations in the events of the state, or of the end, are of sites below the number
  abbrev Keeps : Transition → Type 0
  Keeps (On s) = AreSited s.trace.events × RoundSited s.around
  Keeps (Ends v arrays t) = AreSited t.events
  Keeps (Stops trap line lines) = Unit {0}
  Keeps Stuck = Unit {0}

  -- if the instruction is a call, its site is below the number
  abbrev CallsAtSite : Option Instr → Type 0
  CallsAtSite (Some (instr.Call kind c)) = IsSite (Some c.site)
  CallsAtSite _ = Unit {0}

  module _ (code : Code) (s : State) (shown : AreSited s.trace.events) (round : RoundSited s.around) where
    ticks : AreSited (s.trace.events ++ works 1)
    ticks = sited_both s.trace.events (works 1) shown (tt, tt)

    syncs : AreSited (s.trace.events ++ (Join ∷ works 1))
    syncs = sited_both s.trace.events (Join ∷ works 1) shown (tt, (tt, tt))

    -- the end of a block, which becomes one event of the enclosing block
    resumes : (o : Opened) (around : List Around) → s.around ≡ Block o ∷ around
        → AreSited ((o.events ++ block_event o.tag (tree_of s.trace.events) ∷ []) ++ works 1) × RoundSited around
    resumes o around e =
        let there = subst RoundSited e round in (
          sited_both (o.events ++ block_event o.tag (tree_of s.trace.events) ∷ []) (works 1)
              (sited_both o.events (block_event o.tag (tree_of s.trace.events) ∷ []) there.0 (block_sited o.tag (tree_of s.trace.events) (tree_sited s.trace.events shown), tt))
              (tt, tt),
          there.1,
        )

    -- the end of a call, which becomes one event of the caller
    goes_back : (v : Option ℤ) → Keeps (run.back s.around v (settled s.arrived s.arrays) (synced s.trace))
    goes_back v = returning Keeps tt s.around v (settled s.arrived s.arrays) (synced s.trace) (λ e. syncs)
        (λ w others e slots homes results arrived.
        let there = subst RoundSited e round in
        let ended = tree_of (synced s.trace).events in (
          sited_both w.events (event_of w.kind w.site ended ∷ []) there.0.1 (call_sited w.kind w.site ended there.0.0 (tree_sited (synced s.trace).events syncs), tt),
          there.1,
        ))

    acts_sited : (o : Option Instr) → CallsAtSite o → Keeps (act code s o)
    acts_sited o = acts_both code s s.results s.arrived s.around s.trace (λ o w w'. CallsAtSite o → Keeps w) (record {
      stuck = λ o n. tt;
      stops = λ o trap line n. tt;
      local = λ i place operands slots lines updates here next few n. (ticks, round);
      makes = λ a line rest xs n. (ticks, round);
      sets = λ a line rest xs n. (ticks, round);
      calls = λ kind c f given lent n. (tt, ((n, ticks), round));
      recurs = λ kind c f given n. (tt, ((tt, ticks), round));
      starts = λ c line f given low captured turns n. (tt, ((tt, ticks), round));
      scopes = λ n. (tt, (ticks, round));
      regions = λ k tag e n. (tt, (ticks, round));
      cuts = λ h line xs rest at n. (tt, (ticks, round));
      uncuts = uncutting (λ w. CallsAtSite (Some instr.EndCut) → Keeps w) (λ n. tt) s (λ o around h left right e q n. resumes o around e);
      syncs = λ n. (syncs, round);
      closes = closing (λ w. CallsAtSite (Some instr.Close) → Keeps w) (λ n. tt) s (λ o around e n. resumes o around e);
      gives = λ v n. goes_back (Some v);
      returns = λ n. goes_back None;
    }) o

-- all invocations in the events of a run that ends are of sites below the number
abbrev EndsSited : ℕ → RunOutcome → Type 0
EndsSited count None = Unit {0}
EndsSited count (Some (Done returned left t)) = AreSited count t.events
EndsSited count (Some (Trapped trap line lines)) = Unit {0}
EndsSited count (Some Over) = Unit {0}

-- all invocations in the tree of the answer are of sites below the number
answer_sited : (count : ℕ) → 0 < count → (reducers : List Reducer) (r : RunOutcome) → EndsSited count r → (value : ℤ) (lines : List ℤ) (totals : List Total) (tree : Tree)
    → option_map (λ o. answer_of reducers o) r ≡ Some (Ended value lines totals tree) → sites_below count tree ≡ true
answer_sited count some reducers None h value lines totals tree e = cc
answer_sited count some reducers (Some (Trapped trap line before)) h value lines totals tree e = cc
answer_sited count some reducers (Some Over) h value lines totals tree e = cc
answer_sited count some reducers (Some (Done returned left t)) h value lines totals tree e =
    let whole = Marked (Invocation 0) (tree_of t.events) in
    let is : normal whole ≡ tree = cc in
    subst (λ u. sites_below count u ≡ true) is
    (same_sites count (normal_is_regrouped whole)
    ∙ both_true (nat_lt 0 count) (sites_below count (tree_of t.events)) (below 0 count some) (tree_sited count t.events h))

module _ (code : Code) (fits : Fits code) where
  abbrev count : ℕ
  count = length code.sites + 1

  -- the site of a call in well-formed code exists
  site_there : (kind : CallKind) (c : Callee) → nat_lt 0 c.site ≡ true → is_site kind c (slice_get code.sites (c.site - 1)) ≡ true → nat_lt c.site count ≡ true
  site_there kind c some h = let within = cases (slice_get code.sites (c.site - 1)) refl h in below c.site count (omega (arith, lt_of 0 c.site some, within))
    where
      cases : (o : Option CodeSite) → slice_get code.sites (c.site - 1) ≡ o → is_site kind c o ≡ true → c.site - 1 < length code.sites
      cases None e h = cc
      cases (Some site) e h = slice_get_within code.sites (c.site - 1) site e

  named_sited : (f : Func) (place : ℕ) (i : Instr) → names_well code f place i ≡ true → CallsAtSite count (Some i)
  named_sited f place (instr.Call kind c) n =
      let callee = first_true (names_callee code f kind c) (names_lent code f c.function (passed_by code c.passed) (lent_by code c.lent)) n in
      let site = is_site kind c (slice_get code.sites (c.site - 1)) in
      let target = names_target code f c c.target in
      let rest = second_true (names_passed code f c.function (passed_by code c.passed)) (nat_lt 0 c.site && (site && target)) callee in
      site_there kind c (first_true (nat_lt 0 c.site) (site && target) rest) (first_true site target (second_true (nat_lt 0 c.site) (site && target) rest))
  named_sited f place _ n = tt

  step_sited : (s : State) → GoodState code fits s → Keeps count (On s) → Keeps count (step code s)
  step_sited s good here =
      let h = facts code fits s good in
      subst (λ o. Keeps count (act code s o)) (sym h.is) (acts_sited count code s here.0 here.1 (Some h.instr) (named_sited good.seat.func s.place h.instr h.named))

  steps_sited : (n : ℕ) (s : State) → GoodState code fits s → Keeps count (On s) → EndsSited count (steps code n s)
  steps_sited zero s good here = tt
  steps_sited (suc n) s good here = cases (λ s' good' here'. steps_sited n s' good' here') (step code s) (fit_steps code fits s good) (step_sited s good here)
    where
      cases : ((s' : State) → GoodState code fits s' → Keeps count (On s') → EndsSited count (steps code n s'))
          → (w : Transition) → GoodTransition code fits w → Keeps count w → EndsSited count (go_on w n (λ s'. steps code n s'))
      cases more (On s') good' here' = more s' good' here'
      cases more (Ends v arrays t) good' here' = here'
      cases more (Stops trap line lines) good' here' = tt
      cases more Stuck good' here' = tt

  main_sited : (o : Option Func) → slice_get code.funcs code.main ≡ o → (args : List ℤ) (n : ℕ) → EndsSited count (go_on (first_transition o args) n (λ s. steps code n s))
  main_sited None e args n = tt
  main_sited (Some f) e args n = cases (nat_eq (length args) f.params && (nat_le f.params f.slots && (nat_eq f.array_params 0 && nat_eq f.readers 0))) refl
    where
      cases : (b : Bool) → (nat_eq (length args) f.params && (nat_le f.params f.slots && (nat_eq f.array_params 0 && nat_eq f.readers 0))) ≡ b
          → EndsSited count (go_on (if b then On (first_state f args [] []) else Stuck) n (λ s. steps code n s))
      cases false is = tt
      cases true is =
          let rest = second_true (nat_eq (length args) f.params) (nat_le f.params f.slots && (nat_eq f.array_params 0 && nat_eq f.readers 0)) is in
          let none = second_true (nat_le f.params f.slots) (nat_eq f.array_params 0 && nat_eq f.readers 0) rest in
          steps_sited n (first_state f args [] [])
          (first_good code fits code.main f args [] [] e
          (eq_of (length args) f.params (first_true (nat_eq (length args) f.params) (nat_le f.params f.slots && (nat_eq f.array_params 0 && nat_eq f.readers 0)) is))
          (sym (eq_of f.array_params 0 (first_true (nat_eq f.array_params 0) (nat_eq f.readers 0) none)))
          (sym (eq_of f.readers 0 (second_true (nat_eq f.array_params 0) (nat_eq f.readers 0) none))))
          (tt, tt)

pub calls_at_sites : (code : Code) → Fits code → CallsAtItsSites code
unfolding code_serial
calls_at_sites code fits args n value lines totals tree e =
    answer_sited (length code.sites + 1) (omega arith) (reducers_of code) (go_on (first_transition (slice_get code.funcs code.main) args) n (λ s. steps code n s))
    (main_sited code fits (slice_get code.funcs code.main) refl args n) value lines totals tree e
