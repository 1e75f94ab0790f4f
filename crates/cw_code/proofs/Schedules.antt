-- For every schedule, the effect of the root has the answer of the serial run, or memory ran out.
use Rattle.std.proofs.Common.{◌≡◌, ◌⊎◌, ℕ, zero, suc, ◌-◌, ℤ, Some, None, List, [], ◌∷◌, refl, sym, ap, ◌∙◌, subst, inl, inr, arith}
use Rattle.std.specs.Prelude.{slice_get, option_map}
use Rattle.cw_model.specs.Frames.{no_frame}
use Rattle.cw_model.specs.Outcome.{Done, Trapped, Over}
use Rattle.cw_model.specs.Answers.{answer_of}
use Rattle.cw_code.specs.declared.code.Func.{Func}
use Rattle.cw_code.specs.Code.{Code}
use Rattle.cw_code.specs.Run.{State, Transition, On, Ends, Stops, Stuck, Entering, begun, step, RunOutcome, go_on, steps, first_state, first_transition, reducers_of, code_serial}
use Rattle.cw_code.specs.lemmas.Runs.{joined_quiet}
use Rattle.cw_code.specs.Jobs.{Extent, WholeCall, Came, Arrives, Returns, Falls, Beyond, Lost, moved, travel, Job, job_start, course}
use Rattle.cw_code.specs.Jobs.{root_job, Effect, Joined, Memory, IsOf, JobMeaning, Same, Passed, Short, answered}
use Rattle.cw_code.specs.Strands.{Strand, Going, Waits, Halted, outs_of, Reached, Started, Ran as Instruction, Fell, TooMuch, NoMemory, Given}
use Rattle.cw_code.specs.Strands.{GivenTooMuch, GivenStop, Skipped, Dropped, Makes, Arrived, Returned, Stopped, GivenUp}
use Rattle.cw_code.specs.Promises.{IsStrandOf}
use Rattle.cw_code.specs.RestLaws.{onwards, call_job, Cut, Kept, RootsAreSerial, SchedulesAreSerial}
use Rattle.cw_code.proofs.Travels.{travel_under}
use Rattle.cw_code.proofs.StrandLaws.{rest_under, starts, runs, falls, passes, wants_memory, gives, gives_over, gives_stop, drops, arrives, returns, stops}

module _ (code : Code) where
  mutual
    pub reached_ok : (job : Job) (strand : Strand) → Reached code job strand → IsStrandOf code job strand
    reached_ok job strand (Started _ le) = starts code job le
    reached_ok job strand (Instruction _ s s' count outs h e same le) = runs code job s s' count outs (reached_ok job (Going s count outs) h) e same le
    reached_ok job strand (Fell _ s count outs trap line lines h e same le) = falls code job s count outs trap line lines (reached_ok job (Going s count outs) h) e same le
    reached_ok job strand (TooMuch _ s count outs h e above) = passes code job s count outs (reached_ok job (Going s count outs) h) e above
    reached_ok job strand (NoMemory _ strand' h) = wants_memory code job strand' (outs_of strand') (reached_ok job strand' h)
    reached_ok job strand (Given _ out s count outs frame t cost h m le) =
        gives code job out s count outs frame t cost (reached_ok job (Waits s count (out ∷ outs)) h) (makes_ok out (Joined frame t cost) m) le
    reached_ok job strand (GivenTooMuch _ out s count outs e h m above) = gives_over code job out s count outs e (reached_ok job (Waits s count (out ∷ outs)) h) (makes_ok out e m) above
    reached_ok job strand (GivenStop _ out s count outs e h m stop le) = gives_stop code job out s count outs e (reached_ok job (Waits s count (out ∷ outs)) h) (makes_ok out e m) stop le
    reached_ok job strand (Skipped _ out e outs h) = reached_ok job (Halted e (out ∷ outs)) h
    reached_ok job strand (Dropped _ out e e' outs h m) = drops code job out e e' outs (reached_ok job (Halted e (out ∷ outs)) h)

    pub makes_ok : (job : Job) (e : Effect) → Makes code job e → JobMeaning code job e
    makes_ok job e (Arrived _ s count h come) = arrives code job s count [] (reached_ok job (Going s count []) h) come
    makes_ok job e (Returned _ s count v arrays t h come same le) = returns code job s count [] v arrays t (reached_ok job (Going s count []) h) come same le
    makes_ok job e (Stopped _ _ h) = stops code job e [] (reached_ok job (Halted e []) h)
    makes_ok job e (GivenUp _) = Short refl

  pub kept : Kept code
  kept = record { strand = reached_ok; effect = makes_ok }

  pub child_under : (y : Extent) (s : State) (e : Entering) (limit before n : ℕ) → travel y code n (begun s e) ≡ onwards code y (begun s e) (course code (call_job e limit before) n)
  child_under y s e limit before n =
      let b = begun s e in
      ap (λ t. travel y code n (record b { trace = t })) (sym (joined_quiet b.trace))
      ∙ travel_under code WholeCall y b n (job_start (call_job e limit before)) (record { none = refl; none_arrived = refl; caller = tt }) refl

  pub cut : Cut code
  cut = record { child = child_under; rest = λ y s limit before n none. rest_under code y s limit before n none }

  -- the result of a whole run, in the terms of the code's meaning
  abbrev told : Came → RunOutcome
  told (Arrives frame t left) = None
  told (Returns v arrays t left) = Some (Done (v, no_frame) left t)
  told (Falls trap line lines left) = Some (Trapped trap line lines)
  told Beyond = Some Over
  told Lost = None

  steps_told : (n : ℕ) (s : State) → steps code n s ≡ told (travel WholeCall code n s)
  steps_told zero s = refl
  steps_told (suc n) s = cases (step code s) (λ s'. steps_told n s')
    where
      cases : (w : Transition) → ((s' : State) → steps code n s' ≡ told (travel WholeCall code n s')) → go_on w n (λ s'. steps code n s') ≡ told (moved w n (λ s'. travel WholeCall code n s'))
      cases (On s') more = more s'
      cases (Ends v arrays t) more = refl
      cases (Stops trap line lines) more = refl
      cases Stuck more = refl

  answers : (budget : ℕ) (e : Effect) (c : Came) → IsOf c budget e → answered code e ≡ option_map (λ o. answer_of (reducers_of code) o) (told c)
  answers budget e (Arrives frame t left) h = ap (answered code) h
  answers budget e (Returns v arrays t left) h = ap (answered code) h
  answers budget e (Falls trap line lines left) h = ap (answered code) h
  answers budget e Beyond h = ap (answered code) h
  answers budget e Lost h = absurd h

  pub root_serial : (f : Func) (args : List ℤ) (limit : ℕ) (e : Effect) → first_transition (slice_get code.funcs code.main) args ≡ On (first_state f args [] [])
      → JobMeaning code (root_job f args limit) e → (e ≡ Memory) ⊎ (answered code e ≡ code_serial code args limit)
  unfolding code_serial
  root_serial f args limit e first (Same h) = inr (
      answers limit e (course code (root_job f args limit) limit) h
      ∙ ap (option_map (λ o. answer_of (reducers_of code) o)) (sym (steps_told limit (first_state f args [] [])))
      ∙ ap (λ w. option_map (λ o. answer_of (reducers_of code) o) (go_on w limit (λ s. steps code limit s))) (sym first))
  root_serial f args limit e first (Passed over h) = inr (
      answers limit e (course code (root_job f args limit) limit) (subst (λ c. IsOf c limit e) (sym (ap (course code (root_job f args limit)) (let z : limit ≡ limit - 0 = omega arith in z) ∙ h)) over)
      ∙ ap (option_map (λ o. answer_of (reducers_of code) o)) (sym (steps_told limit (first_state f args [] [])))
      ∙ ap (λ w. option_map (λ o. answer_of (reducers_of code) o) (go_on w limit (λ s. steps code limit s))) (sym first))
  root_serial f args limit e first (Short short) = inl short

pub roots_are_serial : RootsAreSerial
roots_are_serial code f args limit e first m = root_serial code f args limit e first m

pub schedules_are_serial : SchedulesAreSerial
schedules_are_serial code f args limit e first m = root_serial code f args limit e first (makes_ok code (root_job f args limit) e m)
