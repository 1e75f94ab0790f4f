-- The continuation of a block stays in the function in which it begins.
use Rattle.std.proofs.Common.{◌≡◌, ℕ, zero, suc, ◌-◌, Bool, true, false, ◌&&◌, Some, List, [], ◌∷◌, refl, sym, ap, ◌∙◌, subst}
use Rattle.std.proofs.lemmas.Bool.{false≢true}
use Rattle.std.specs.Prelude.{slice_get}
use Rattle.cw_model.specs.Outcome.{Trace}
use Rattle.cw_code.specs.declared.code.Func.{Func}
use Rattle.cw_code.specs.Code.{Code}
use Rattle.cw_code.specs.Fits.{Fits}
use Rattle.cw_code.specs.Run.{Around, State, Transition, On, Ends, Stops, Stuck, step}
use Rattle.cw_code.specs.Good.{GoodState, GoodTransition, FitSteps}
use Rattle.cw_code.specs.Staying.{IsInside, outermost, FitStays}
use Rattle.cw_code.specs.Jobs.{ToJoin, joins, is_first, has_come, JoinFrame, standing, Came, Arrives, Returns, Falls, Beyond, Lost}
use Rattle.cw_code.specs.Jobs.{moved, travel, Job, job_start, course, Joined, IsOf, JobMeaning, Same, Passed, Short}
use Rattle.cw_code.specs.Over.{under, transition_under}
use Rattle.cw_code.specs.lemmas.Under.{act_under}
use Rattle.cw_code.specs.lemmas.Budgets.{come_at, none_left, go_one}
use Rattle.cw_code.specs.RestsStay.{RestsStayInside}

module _ (code : Code) (fits : Fits code) (steps_well : FitSteps code fits) (stays : FitStays code fits) (b : State) (k : ℕ)
    (f : Func) (is : slice_get code.funcs k ≡ Some f) where
  abbrev Here : State → Type 0
  Here s = GoodState code fits (under b s) × IsInside f (outermost s.place (under b s).around)

  -- if a run reaches its join, it is in the function
  abbrev Comes : Came → Type 0
  Comes (Arrives frame t left) = IsInside f (outermost frame.place b.around)
  Comes (Returns v arrays t left) = Unit {0}
  Comes (Falls trap line lines left) = Unit {0}
  Comes Beyond = Unit {0}
  Comes Lost = Unit {0}

  arrives : (s : State) → (is_first s.around && joins (slice_get code.instrs s.place)) ≡ true → Here s → Comes (Arrives (standing s) s.trace 0)
  arrives s h here = cases s.around refl
    where
      cases : (around : List Around) → s.around ≡ around → IsInside f (outermost s.place b.around)
      cases [] e = subst (λ a. IsInside f (outermost s.place (under b (record s { around = a })).around)) e here.1
      cases (a ∷ around) e = absurd (false≢true (sym (ap (λ x. is_first x && joins (slice_get code.instrs s.place)) e) ∙ h))

  goes : (s : State) (w : Transition) → step code s ≡ w → (is_first s.around && joins (slice_get code.instrs s.place)) ≡ false → Here s → (n : ℕ)
      → ((s' : State) → Here s' → Comes (travel ToJoin code n s')) → Comes (moved w n (λ s'. travel ToJoin code n s'))
  goes s (On s') e h here n more =
      let over : step code (under b s) ≡ On (under b s') = act_under b ToJoin code s (slice_get code.instrs s.place) h ∙ ap (transition_under b) e in
      more s' (subst (GoodTransition code fits) over (steps_well (under b s) here.0), stays k f (under b s) (under b s') is here.0 over here.1)
  goes s (Ends v arrays t) e h here n more = tt
  goes s (Stops trap line lines) e h here n more = tt
  goes s Stuck e h here n more = tt

  come_here : (n : ℕ) (s : State) → has_come ToJoin code s ≡ true → Here s → Comes (travel ToJoin code n s)
  come_here n s e here = subst Comes (sym (come_at ToJoin code n s e)) (arrives s e here)

  over_here : (s : State) → has_come ToJoin code s ≡ false → Comes (travel ToJoin code 0 s)
  over_here s e = subst Comes (sym (none_left ToJoin code s e)) tt

  further : (n : ℕ) (s : State) → has_come ToJoin code s ≡ false → Here s → ((s' : State) → Here s' → Comes (travel ToJoin code n s'))
      → Comes (travel ToJoin code (suc n) s)
  further n s e here more = subst Comes (sym (go_one ToJoin code n s e)) (goes s (step code s) refl e here n more)

  either : (n : ℕ) (s : State) (came : Bool) → has_come ToJoin code s ≡ came → Here s
      → (has_come ToJoin code s ≡ false → Comes (travel ToJoin code n s)) → Comes (travel ToJoin code n s)
  either n s true e here more = come_here n s e here
  either n s false e here more = more e

  comes : (n : ℕ) (s : State) → Here s → Comes (travel ToJoin code n s)
  comes zero s here = either zero s (has_come ToJoin code s) refl here (λ e. over_here s e)
  comes (suc n) s here =
      either (suc n) s (has_come ToJoin code s) refl here (λ e. further n s e here (λ s' there. comes n s' there))

  means : (job : Job) (frame : JoinFrame) (t : Trace) (cost : ℕ) → job.extent ≡ ToJoin → Here (job_start job) → JobMeaning code job (Joined frame t cost) → IsInside f (outermost frame.place b.around)
  means job frame t cost x here (Same h) = cases (course code job job.limit) (subst (λ y. Comes (travel y code job.limit (job_start job))) (sym x) (comes job.limit (job_start job) here)) h
    where
      cases : (c : Came) → Comes c → IsOf c job.limit (Joined frame t cost) → IsInside f (outermost frame.place b.around)
      cases (Arrives frame' t' left) i e = subst (λ (g : JoinFrame). IsInside f (outermost g.place b.around)) (same frame' t' left e) i
        where
          same : (frame' : JoinFrame) (t' : Trace) (left : ℕ) → Joined frame t cost ≡ Joined frame' t' (job.limit - left) → frame' ≡ frame
          same frame' t' left e = cc
      cases (Returns v arrays t' left) i e = cc
      cases (Falls trap line lines left) i e = cc
      cases Beyond i e = cc
      cases Lost i e = absurd e
  means job frame t cost x here (Passed e h) = cc
  means job frame t cost x here (Short e) = cc

pub rests_stay : ((code : Code) (fits : Fits code) → FitSteps code fits) → ((code : Code) (fits : Fits code) → FitStays code fits) → RestsStayInside
rests_stay steps_well stays code fits job b k f frame t cost x good is inside means' =
    means code fits (steps_well code fits) (stays code fits) b k f is job frame t cost x (good, inside) means'
