-- Each instruction adds 1 to the work of the trace.
use Rattle.std.proofs.Common.{◌≡◌, ℕ, zero, suc, ◌+◌, ℤ, Bool, true, false, Option, Some, None, List, [], ◌∷◌, ◌++◌, refl, sym, ◌∙◌, subst, arith}
use Rattle.std.specs.Prelude.{slice_get}
use Rattle.cw_model.specs.declared.syntax.CallKind.{CallKind}
use Rattle.cw_model.specs.declared.syntax.CallKind.TheVariants.{Plain, Spawned}
use Rattle.cw_model.specs.Trees.{Event, Work, Series, Fork, Join, work, parts_of, tree_of}
use Rattle.cw_model.specs.Outcome.{Trace}
use Rattle.cw_code.specs.declared.code.Instr.{Instr}
use Rattle.cw_code.specs.Code.{Code}
use Rattle.cw_code.specs.Run.{Slots, Opened, Around, Caller, Block, State, Transition, On, Ends, Stops, Stuck, synced, settled, put_in, event_of, back, block_event, resumes, act, step}
use Rattle.cw_code.specs.Jobs.{Extent, WholeCall, ToJoin, has_come, Came, Arrives, Returns, Falls, Beyond, Lost, moved, travel, job_start, Effect, Ended, Joined, TrapIn, OverLimit, Memory}
use Rattle.cw_code.specs.Promises.{RepresentsRun}
use Rattle.cw_code.specs.Costs.{CostIsWork, CostsAreWork}
use Rattle.cw_code.specs.lemmas.Acts.{returning}
use Rattle.cw_code.specs.lemmas.StrandActs.{acts_by}
use Rattle.cw_code.specs.lemmas.Budgets.{come_at, none_left, go_one}
use Rattle.cw_code.proofs.Budgets.{meaning_stands}

abbrev work_in : List Event → ℕ
work_in [] = 0
work_in (Work k ∷ events) = k + work_in events
work_in (Series t ∷ events) = work t + work_in events
work_in (Fork t ∷ events) = work t + work_in events
work_in (Join ∷ events) = work_in events

work_parts : (events : List Event) → work (parts_of events).0 + work (parts_of events).1 ≡ work_in events
work_parts [] = refl
work_parts (Work k ∷ events) = let e = work_parts events in omega (arith, e)
work_parts (Series t ∷ events) = let e = work_parts events in omega (arith, e)
work_parts (Fork t ∷ events) = let e = work_parts events in omega (arith, e)
work_parts (Join ∷ events) = let e = work_parts events in omega (arith, e)

work_more : (a b : List Event) → work_in (a ++ b) ≡ work_in a + work_in b
work_more [] b = omega arith
work_more (Work k ∷ a) b = let e = work_more a b in omega (arith, e)
work_more (Series t ∷ a) b = let e = work_more a b in omega (arith, e)
work_more (Fork t ∷ a) b = let e = work_more a b in omega (arith, e)
work_more (Join ∷ a) b = work_more a b

-- the work in the traces of the enclosing blocks
abbrev outside : List Around → ℕ
outside [] = 0
outside (Caller w ∷ around) = work_in w.events + outside around
outside (Block o ∷ around) = work_in o.events + outside around

abbrev Shows : ℕ → Transition → Type 0
Shows n (On s) = work_in s.trace.events + outside s.around ≡ n
Shows n (Ends v arrays t) = work_in t.events ≡ n
Shows n (Stops trap line lines) = Unit {0}
Shows n Stuck = Unit {0}

one_more : (events : List Event) → work_in (events ++ Work 1 ∷ []) ≡ work_in events + 1
one_more events = work_more events (Work 1 ∷ []) ∙ omega arith

join_more : (events : List Event) → work_in (events ++ Join ∷ Work 1 ∷ []) ≡ work_in events + 1
join_more events = work_more events (Join ∷ Work 1 ∷ []) ∙ omega arith

part_work : (events inner : List Event) → work_in (events ++ Series (tree_of inner) ∷ []) ≡ work_in events + work_in inner
part_work events inner = let e = work_more events (Series (tree_of inner) ∷ []) in let f = work_parts inner in omega (arith, e, f)

call_work : (kind : CallKind) (site : Option ℕ) (events inner : List Event) → work_in (events ++ event_of kind site (tree_of inner) ∷ []) ≡ work_in events + work_in inner
call_work Plain (Some site) events inner = let e = work_more events (event_of Plain (Some site) (tree_of inner) ∷ []) in let f = work_parts inner in omega (arith, e, f)
call_work Spawned (Some site) events inner = let e = work_more events (event_of Spawned (Some site) (tree_of inner) ∷ []) in let f = work_parts inner in omega (arith, e, f)
call_work Plain None events inner = let e = work_more events (event_of Plain None (tree_of inner) ∷ []) in let f = work_parts inner in omega (arith, e, f)
call_work Spawned None events inner = let e = work_more events (event_of Spawned None (tree_of inner) ∷ []) in let f = work_parts inner in omega (arith, e, f)

block_work : (tag : _) (events inner : List Event) → work_in (events ++ block_event tag (tree_of inner) ∷ []) ≡ work_in events + work_in inner
block_work None events inner = part_work events inner
block_work (Some tag) events inner = let e = work_more events (block_event (Some tag) (tree_of inner) ∷ []) in let f = work_parts inner in omega (arith, e, f)

back_shows : (n : ℕ) (around : List Around) (v : Option ℤ) (arrays : Slots (List ℤ)) (t : Trace) → work_in t.events + outside around ≡ n → Shows n (back around v arrays t)
back_shows n around v arrays t h = returning (Shows n) tt around v arrays t
    (λ e. (let g = subst (λ a. work_in t.events + outside a ≡ n) e h in omega (arith, g)))
    (λ w others e slots homes results arrived.
    let g = subst (λ a. work_in t.events + outside a ≡ n) e h in
    let f = call_work w.kind w.site w.events t.events in
    omega (arith, f, g))

resume_shows : (n : ℕ) (s : State) (o : Opened) (around : List Around) → work_in s.trace.events + (work_in o.events + outside around) + 1 ≡ n → Shows n (resumes s o around)
resume_shows n s o around h =
    let e = block_work o.tag o.events s.trace.events in
    let f = one_more (o.events ++ block_event o.tag (tree_of s.trace.events) ∷ []) in
    omega (arith, e, f, h)

act_shows : (n : ℕ) (code : Code) (s : State) (o : Option Instr) → work_in s.trace.events + outside s.around + 1 ≡ n → Shows n (act code s o)
act_shows n code s o h =
    let one = one_more s.trace.events in
    let join = join_more s.trace.events in
    acts_by code s (λ j turn w. Shows n w) (record {
      stuck = λ j turn. tt;
      stops = λ j turn trap line lines. tt;
      local = λ place operands slots arrays lines updates. omega (arith, one, h);
      enters = λ e. omega (arith, one, h);
      opens = λ operands arrays tag cut. omega (arith, one, h);
      syncs = omega (arith, join, h);
      leaves = λ arrays o around e. resume_shows n (record (put_in s) { arrays = arrays }) o around (subst (λ a. work_in s.trace.events + outside a + 1 ≡ n) e h);
      returns = λ v. back_shows n s.around v (settled s.arrived s.arrays) (synced s.trace) (omega (arith, join, h));
    }) o

-- the work in the trace of a run within a budget at its end
abbrev Paid : (before budget : ℕ) → Came → Type 0
Paid before budget (Arrives frame t left) = work_in t.events + left ≡ before + budget
Paid before budget (Returns v arrays t left) = work_in t.events + left ≡ before + budget
Paid before budget (Falls trap line lines left) = Unit {0}
Paid before budget Beyond = Unit {0}
Paid before budget Lost = Unit {0}

module _ (x : Extent) (code : Code) where
  first_alone : (s : State) → has_come x code s ≡ true → outside s.around ≡ 0
  first_alone s h = cases x s.around h
    where
      cases : (x' : Extent) (around : List Around) → has_come x' code (record s { around = around }) ≡ true → outside around ≡ 0
      cases WholeCall around k = cc
      cases ToJoin [] k = refl
      cases ToJoin (a ∷ around) k = cc

  pays : (budget : ℕ) (s : State) → Paid (work_in s.trace.events + outside s.around) budget (travel x code budget s)
  pays zero s = cases (has_come x code s) refl
    where
      cases : (c : Bool) → has_come x code s ≡ c → Paid (work_in s.trace.events + outside s.around) zero (travel x code zero s)
      cases true e = subst (Paid (work_in s.trace.events + outside s.around) zero) (sym (come_at x code zero s e)) (let f = first_alone s e in omega (arith, f))
      cases false e = subst (Paid (work_in s.trace.events + outside s.around) zero) (sym (none_left x code s e)) tt
  pays (suc n) s = cases (has_come x code s) refl (λ s'. pays n s')
    where
      later : (c : Came) (b d : ℕ) → d ≡ b + 1 → Paid d n c → Paid b (suc n) c
      later (Arrives frame t left) b d e h = omega (arith, e, h)
      later (Returns v arrays t left) b d e h = omega (arith, e, h)
      later (Falls trap line lines left) b d e h = tt
      later Beyond b d e h = tt
      later Lost b d e h = tt

      went : (w : Transition) → Shows (work_in s.trace.events + outside s.around + 1) w → ((s' : State) → Paid (work_in s'.trace.events + outside s'.around) n (travel x code n s'))
          → Paid (work_in s.trace.events + outside s.around) (suc n) (moved w n (λ s'. travel x code n s'))
      went (On s') h more = later (travel x code n s') (work_in s.trace.events + outside s.around) (work_in s'.trace.events + outside s'.around) h (more s')
      went (Ends v arrays t) h more = omega (arith, h)
      went (Stops trap line lines) h more = tt
      went Stuck h more = tt

      cases : (c : Bool) → has_come x code s ≡ c → ((s' : State) → Paid (work_in s'.trace.events + outside s'.around) n (travel x code n s'))
          → Paid (work_in s.trace.events + outside s.around) (suc n) (travel x code (suc n) s)
      cases true e more = subst (Paid (work_in s.trace.events + outside s.around) (suc n)) (sym (come_at x code (suc n) s e)) (let f = first_alone s e in omega (arith, f))
      cases false e more = subst (Paid (work_in s.trace.events + outside s.around) (suc n)) (sym (go_one x code n s e))
          (went (step code s) (act_shows (work_in s.trace.events + outside s.around + 1) code s (slice_get code.instrs s.place) refl) more)

pub costs_are_work : CostsAreWork
costs_are_work code job e m = by_effect e (meaning_stands code job e m)
  where
    by_effect : (f : Effect) → RepresentsRun code job f → CostIsWork f
    by_effect (Ended v arrays t cost) h =
        let paid = subst (Paid 0 (cost + 0)) (h.next 0) (pays job.extent code (cost + 0) (job_start job)) in
        let same = work_parts t.events in
        omega (arith, paid, same)
    by_effect (Joined frame t cost) h =
        let paid = subst (Paid 0 (cost + 0)) (h.next 0) (pays job.extent code (cost + 0) (job_start job)) in
        let same = work_parts t.events in
        omega (arith, paid, same)
    by_effect (TrapIn trap line lines cost) h = tt
    by_effect OverLimit h = tt
    by_effect Memory h = tt
