-- The facts that the effect of a whole run states about the run.
use Rattle.std.proofs.Common.{◌≡◌, ◌⊎◌, inl, inr, ℕ, ◌+◌, ◌≤◌, ℤ, true, Option, Some, List, [], length, sym, ap, ◌∙◌, subst, arith}
use Rattle.std.specs.Prelude.{slice_get}
use Rattle.std.specs.Coded.{le_prop}
use Rattle.std.proofs.Math.Bool.{Bool-set}
use Rattle.std.proofs.Math.Logic.{∥∥₁_elim}
use Rattle.cw_model.specs.declared.burden.Burden.{Burden}
use Rattle.cw_model.specs.declared.limits.TheConstants.{MOST_LIMIT}
use Rattle.cw_model.specs.declared.trap.Trap.{Trap}
use Rattle.cw_model.specs.Trees.{Marked, Invocation, tree_of, normal}
use Rattle.cw_model.specs.Answers.{int_given, Ended, TrappedAt, OverLimit}
use Rattle.cw_model.specs.Ints.{trap_number}
use Rattle.cw_code.specs.declared.code.Func.{Func}
use Rattle.cw_code.specs.Code.{Code, code_view}
use Rattle.cw_code.specs.Run.{On, first_state, first_transition, reducers_of, code_serial}
use Rattle.cw_code.specs.Jobs as jobs
use Rattle.cw_code.specs.Jobs.{Came, Arrives, Returns, Falls, Beyond, Lost, IsOf, JobMeaning, Same, Passed, Short, root_job, course}
use Rattle.cw_code.specs.RestLaws.{RootsAreSerial}
use Rattle.cw_meter.specs.Whole.{ReadsStrands}
use Rattle.cw_greedy.specs.Recorded.{Recorded}
use Rattle.cw_model.specs.Burdens.{no_burden}
use Rattle.cw_meter.specs.Origins.{Main as MainOrigin}
use Rattle.cw_meter.specs.Meters.{Meters}
use Rattle.cw_meter.specs.declared.detail.Detail.{Detail}
use Rattle.cw_meter.specs.declared.detail.Detail.TheVariants.{Measures as Measured, Strands as Recording}
use Rattle.cw_meter.specs.Details.{IsLight}
use Rattle.cw_jobs.specs.Opens.{whole}
use Rattle.cw_runnable.specs.declared.verified.Verified.{Verified}
use Rattle.cw_jobs.specs.declared.effect.Effect.{Effect}
use Rattle.cw_jobs.specs.declared.effect.Effect.TheVariants as effect
use Rattle.cw_jobs.specs.declared.effect.PieceOutput.{PieceOutput}
use Rattle.cw_jobs.specs.declared.call.Rest.{Rest}
use Rattle.cw_jobs.specs.declared.job.Job.{Job}
use Rattle.cw_jobs.specs.Jobs.{Ok, IsJob, IsRoot, IsRootOf}
use Rattle.cw_jobs.specs.Means.{IsMeaningOf, MeansIt, Tracks, Counts, HasOutput}
use Rattle.cw_machine.specs.declared.alone.Ended as alone
use Rattle.cw_machine.specs.Arrays.{IsFit}
use Rattle.cw_machine.specs.declared.values.Values.{Values}
use Rattle.cw_machine.specs.Metered.{Finishes}
use Rattle.cw_machine.specs.Recorded.{Records}
use Rattle.cw_machine.specs.Runs.{is_asked, is_request, IsEndOf, Gives, Runs}
use Rattle.cw_machine.proofs.Updates.{ReturnsWithin, travelled, totals_are, totals_of}
use Rattle.cw_machine.proofs.EndsAs.{EndsAs-prop, did_end, finishes_as}
use Rattle.cw_machine.proofs.Strands.{KeepsStrands, strands_prop, kept_is, kept_as}
use Rattle.cw_machine.proofs.MeterLaws.{gauge_of}
use Rattle.cw_machine.proofs.Given.{IsGiven, IsGiven-prop, is_given}
use Rattle.cw_machine.proofs.FromMain.{Main, main_of, asked_of, measured, told, IsEnded, IsEnded-prop, IsTrapped, IsTrapped-prop, was_trapped, is_over, was_over, same_as}
use Rattle.cw_machine.proofs.FromMain.{same_totals_as, first_is, asked_count, asked_limit, asked_burden, main_room, main_arrays, main_readers}

-- an effect that means the job of a whole run means the job that the definitions have for it
pub means_root : (v : Verified) (args : List ℤ) (n : ℕ) (burden : Burden) (d : Detail) (root : Job) (e : Effect) → IsRootOf v args n burden d root.parts.value → IsMeaningOf root e
    → (ok : Ok v) (f : Func) → slice_get (code_view v.code).funcs v.code.main ≡ Some f → ∥ MeansIt v ok root.parts.value e (root_job f args n) ∥₁
unfolding IsMeaningOf
means_root v args n burden d root e r means ok f found =
    subst (λ (w : Verified). (ok : Ok w) (j : jobs.Job) → IsJob w ok root.parts.value j → ∥ MeansIt w ok root.parts.value e j ∥₁) r.code means ok (root_job f args n) (r.is ok f found)

-- by its definition, the run of a whole call ends with a value only within the limit, and reaches no join
abbrev Few : ℕ → jobs.Effect → Type 0
Few n (jobs.Ended x arrays t cost) = (length t.updates ≤ n) × (cost ≤ n)
Few n (jobs.Joined frame t cost) = ⊥
Few n _ = Unit {0}

few : (code : Code) (f : Func) (args : List ℤ) (n : ℕ) (e : jobs.Effect) → JobMeaning code (root_job f args n) e → Few n e
few code f args n e (Same h) = cases (course code (root_job f args n) n) (travelled code n (first_state f args [] [])) h
  where
    cases : (c : Came) → ReturnsWithin (0 + n) c → IsOf c n e → Few n e
    cases (Arrives frame t left) w h = absurd w
    cases (Returns v arrays t left) w h = subst (Few n) (sym h) (omega (arith, w), omega arith)
    cases (Falls trap line lines left) w h = subst (Few n) (sym h) tt
    cases Beyond w h = subst (Few n) (sym h) tt
    cases Lost w h = absurd h
few code f args n e (Passed h k) = subst (Few n) (sym h) tt
few code f args n e (Short h) = subst (Few n) (sym h) tt

module _ (laws : RootsAreSerial) (v : Verified) (ok : IsFit v) (f : Func) (args : List ℤ) (n : ℕ) (burden : Burden) (d : Detail) (root : Job)
    (found : slice_get (code_view v.code).funcs v.code.main ≡ Some f) (asked : is_asked f.params (length args) n burden ≡ true)
    (r : IsRootOf v args n burden d root.parts.value) where
  begins : first_transition (slice_get (code_view v.code).funcs v.code.main) args ≡ On (first_state f args [] [])
  begins = first_is (code_view v.code) f args found (asked_count f args n burden asked) (main_room v f ok found) (main_arrays v f ok found) (main_readers v f ok found)

  -- the run answers what the code answers, except if memory ran out
  serial : (w : jobs.Effect) → JobMeaning (code_view v.code) (root_job f args n) w → (w ≡ jobs.Memory) ⊎ (jobs.answered (code_view v.code) w ≡ code_serial (code_view v.code) args n)
  serial w m = laws (code_view v.code) f args n w begins m

  pub trapped : (trap : Trap) (line : ℕ) (lines : _) (cost : ℕ) (back : _)
      → MeansIt v ok root.parts.value (effect.Trapped trap line lines cost back) (root_job f args n)
      → IsTrapped trap line lines.items (code_serial (code_view v.code) args n)
  trapped trap line lines cost back m = cases m.effect m.tells (serial m.effect m.means)
    where
      cases : (w : jobs.Effect) → Tracks (code_view v.code) (root_job f args n) root.parts.value.rest (effect.Trapped trap line lines cost back) w
          → (w ≡ jobs.Memory) ⊎ (jobs.answered (code_view v.code) w ≡ code_serial (code_view v.code) args n) → IsTrapped trap line lines.items (code_serial (code_view v.code) args n)
      cases (jobs.TrapIn t l ls c) h (inr e) = subst (λ o. IsTrapped trap line lines.items o) e (ap trap_number (sym h.0), sym h.1, same_as ls lines.items (sym h.2))
      cases (jobs.TrapIn t l ls c) h (inl e) = cc
      cases (jobs.Ended x arrays t c) h e = absurd h
      cases (jobs.Joined frame t c) h e = absurd h
      cases jobs.OverLimit h e = absurd h
      cases jobs.Memory h e = absurd h

  pub over : (back : _) → MeansIt v ok root.parts.value (effect.OverLimit back) (root_job f args n) → is_over (code_serial (code_view v.code) args n) ≡ true
  over back m = cases m.effect m.tells (serial m.effect m.means)
    where
      cases : (w : jobs.Effect) → Tracks (code_view v.code) (root_job f args n) root.parts.value.rest (effect.OverLimit back) w
          → (w ≡ jobs.Memory) ⊎ (jobs.answered (code_view v.code) w ≡ code_serial (code_view v.code) args n) → is_over (code_serial (code_view v.code) args n) ≡ true
      cases jobs.OverLimit h (inr e) = ap is_over (sym e)
      cases jobs.OverLimit h (inl e) = cc
      cases (jobs.TrapIn t l ls c) h e = absurd h
      cases (jobs.Ended x arrays t c) h e = absurd h
      cases (jobs.Joined frame t c) h e = absurd h
      cases jobs.Memory h e = absurd h

  pub never_joined : (frame : Rest) (replaced : _) (shown : PieceOutput) → MeansIt v ok root.parts.value (effect.Joined frame replaced shown) (root_job f args n) → ⊥
  never_joined frame replaced shown m = cases m.effect m.tells (few (code_view v.code) f args n m.effect m.means)
    where
      cases : (w : jobs.Effect) → Tracks (code_view v.code) (root_job f args n) root.parts.value.rest (effect.Joined frame replaced shown) w → Few n w → ⊥
      cases (jobs.Joined frame t c) h w = w
      cases _ h w = absurd h

  -- a run that ended is within the limit, and has the value of the code
  pub gave : (x : Option ℤ) (shown : PieceOutput) (e : Values) → e.value ≡ int_given x → e.lines.items ≡ shown.lines.items → e.totals ≡ shown.totals
      → MeansIt v ok root.parts.value (effect.Ended x shown) (root_job f args n)
      → IsGiven e (code_serial (code_view v.code) args n)
  gave x shown e value lines totals m = cases m.effect m.tells (few (code_view v.code) f args n m.effect m.means) (serial m.effect m.means)
    where
      most : n ≤ MOST_LIMIT
      most = asked_limit f args n burden asked

      cases : (w : jobs.Effect) → Tracks (code_view v.code) (root_job f args n) root.parts.value.rest (effect.Ended x shown) w → Few n w
          → (w ≡ jobs.Memory) ⊎ (jobs.answered (code_view v.code) w ≡ code_serial (code_view v.code) args n) → IsGiven e (code_serial (code_view v.code) args n)
      cases (jobs.Ended y arrays t cost) h w (inr s) =
          let has : HasOutput (code_view v.code) shown t cost = h.2 in
          subst (λ o. IsGiven e o) s (
            ap int_given (sym h.1) ∙ sym value,
            same_as t.lines e.lines.items (sym has.lines ∙ sym lines),
            same_totals_as _ e.totals.items (totals_are (code_view v.code) shown.totals.items t.updates has.totals (let le = w.0 in omega (arith, le, most)) ∙ sym (ap (λ l. l.items) totals)),
          )
      cases (jobs.Ended y arrays t cost) h w (inl s) = cc
      cases (jobs.Joined frame t c) h w s = absurd h
      cases (jobs.TrapIn t l ls c) h w s = absurd h
      cases jobs.OverLimit h w s = absurd h
      cases jobs.Memory h w s = absurd h

  -- a run that ended has the measures that its meter reads, if the charge is in its range
  pub finished : IsLight d → (x : Option ℤ) (shown : PieceOutput) → MeansIt v ok root.parts.value (effect.Ended x shown) (root_job f args n)
      → (shown.cost ≤ n) × Finishes (code_view v.code) args n d x shown
  finished light x shown m = cases m.effect m.tells m.counts (few (code_view v.code) f args n m.effect m.means) (serial m.effect m.means)
    where
      most : n ≤ MOST_LIMIT
      most = asked_limit f args n burden asked

      cases : (w : jobs.Effect) → Tracks (code_view v.code) (root_job f args n) root.parts.value.rest (effect.Ended x shown) w
          → Counts (code_view v.code) root.parts.value.detail root.parts.value.site (effect.Ended x shown) w → Few n w
          → (w ≡ jobs.Memory) ⊎ (jobs.answered (code_view v.code) w ≡ code_serial (code_view v.code) args n)
          → (shown.cost ≤ n) × Finishes (code_view v.code) args n d x shown
      cases (jobs.Ended y arrays t cost) h counts w (inr s) =
          let has : HasOutput (code_view v.code) shown t cost = h.2 in
          let g = gauge_of v ok d light in
          let tree = normal (Marked (Invocation 0) (tree_of t.events)) in
          let totals = totals_are (code_view v.code) shown.totals.items t.updates has.totals (let le = w.0 in omega (arith, le, most)) in (
            (let k = has.cost in let le = w.1 in omega (arith, k, le)),
            record {
              trace = t;
              answer = sym s ∙ ap (λ z. Some (Ended (int_given z) t.lines (totals_of t.updates (reducers_of (code_view v.code))) tree)) (sym h.1)
                  ∙ ap (λ l. Some (Ended (int_given x) l (totals_of t.updates (reducers_of (code_view v.code))) tree)) (sym has.lines)
                  ∙ ap (λ l. Some (Ended (int_given x) shown.lines.items l tree)) totals;
              tags = g.tags;
              named = g.named;
              meters = subst (λ k. Meters g.detail g.tags MainOrigin k [] (whole t) shown.meter) (sym has.cost) (counts g (sym r.detail));
            },
          )
      cases (jobs.Ended y arrays t cost) h counts w (inl s) = cc
      cases (jobs.Joined frame t c) h counts w s = absurd h
      cases (jobs.TrapIn t l ls c) h counts w s = absurd h
      cases jobs.OverLimit h counts w s = absurd h
      cases jobs.Memory h counts w s = absurd h

-- a proposition that holds for the job's meaning holds
on_root : {P : Type 0} → IsProp P → (v : Verified) (args : List ℤ) (n : ℕ) (burden : Burden) (d : Detail) (root : Job) (e : Effect) → IsRootOf v args n burden d root.parts.value → IsMeaningOf root e
    → ((ok : IsFit v) (main : Main v) → is_asked main.func.params (length args) n burden ≡ true → MeansIt v ok root.parts.value e (root_job main.func args n) → P) → P
on_root prop v args n burden d root e r means f = ∥∥₁_elim v.ok prop (λ ok.
    let main = main_of v ok in
    ∥∥₁_elim (means_root v args n burden d root e r means ok main.func main.found) prop (f ok main (asked_of v main args n burden r.asked)))

module _ (laws : RootsAreSerial) (v : Verified) (args : List ℤ) (n : ℕ) (burden : Burden) (d : Detail) (root : Job) (r : IsRootOf v args n burden d root.parts.value) where
  pub gave_as_code : (x : Option ℤ) (shown : PieceOutput) (e : Values) → IsMeaningOf root (effect.Ended x shown) → e.value ≡ int_given x
      → e.lines.items ≡ shown.lines.items → e.totals ≡ shown.totals → Gives (code_view v.code) args n burden e
  gave_as_code x shown e means value lines totals =
      let serial = code_serial (code_view v.code) args n in
      let is = is_given e serial (on_root (IsGiven-prop e serial) v args n burden d root (effect.Ended x shown) r means
      (λ ok main asked m. gave laws v ok main.func args n burden d root main.found asked r x shown e value lines totals m)) in
      record { asked = r.asked; tree = is.0; answer = is.1 }

  pub recorded_as_code : d ≡ Recording → burden ≡ no_burden → (x : Option ℤ) (shown : PieceOutput) (kept : Recorded) → IsMeaningOf root (effect.Ended x shown)
      → ReadsStrands shown.meter shown.cost kept → Records (code_view v.code) args n kept
  recorded_as_code records light x shown kept means reads =
      let serial = code_serial (code_view v.code) args n in
      let P = KeepsStrands kept in
      let e = did_end P serial (on_root (EndsAs-prop P (strands_prop kept) serial) v args n burden d root (effect.Ended x shown) r means
      (λ ok main asked m.
      let light : IsLight d = subst IsLight (sym records) tt in
      let ended = (finished laws v ok main.func args n burden d root main.found asked r light x shown m).1 in
      let h = subst (λ q. Finishes (code_view v.code) args n q x shown) records ended in
      finishes_as (code_view v.code) args n Recording x shown P h (kept_as kept (normal (Marked (Invocation 0) (tree_of h.trace.events))) (reads h.tags h.trace.events h.meters)))) in
      record {
        asked = subst (λ b. is_request (code_view v.code) args n b ≡ true) light r.asked;
        value = e.value;
        lines = e.lines;
        totals = e.totals;
        tree = e.tree;
        answer = e.answer;
        is_kept = kept_is kept e.tree e.has;
      }

  pub trapped_as_code : (trap : Trap) (line : ℕ) (lines : _) (cost : ℕ) (back : _) → IsMeaningOf root (effect.Trapped trap line lines cost back)
      → code_serial (code_view v.code) args n ≡ Some (TrappedAt trap line lines.items)
  trapped_as_code trap line lines cost back means =
      let serial = code_serial (code_view v.code) args n in
      was_trapped trap line lines.items serial (on_root (IsTrapped-prop trap line lines.items serial) v args n burden d root (effect.Trapped trap line lines cost back) r means
      (λ ok main asked m. trapped laws v ok main.func args n burden d root main.found asked r trap line lines cost back m))

  pub over_as_code : (back : _) → IsMeaningOf root (effect.OverLimit back) → code_serial (code_view v.code) args n ≡ Some OverLimit
  over_as_code back means =
      was_over (code_serial (code_view v.code) args n) (on_root (hlevel Bool-set) v args n burden d root (effect.OverLimit back) r means
      (λ ok main asked m. over laws v ok main.func args n burden d root main.found asked r back m))

  pub comes_to_no_join : (frame : Rest) (replaced : _) (shown : PieceOutput) → IsMeaningOf root (effect.Joined frame replaced shown) → ⊥
  comes_to_no_join frame replaced shown means =
      on_root (hlevel le_prop) v args n burden d root (effect.Joined frame replaced shown) r means
      (λ ok main asked m. never_joined laws v ok main.func args n burden d root main.found asked r frame replaced shown m)

module _ (laws : RootsAreSerial) (v : Verified) (args : List ℤ) (n : ℕ) (burden : Burden) (root : Job) (r : IsRoot v args n burden root.parts.value) where
  pub ended_as_code : (x : Option ℤ) (shown : PieceOutput) (e : alone.Ended) → IsMeaningOf root (effect.Ended x shown) → IsEndOf v.code x shown e → Runs (code_view v.code) args n burden e
  ended_as_code x shown e means end =
      let is_end = IsEnded-prop (code_view v.code) burden e end.all (code_serial (code_view v.code) args n) in
      let P : Type 0 = (shown.cost ≤ n) × IsEnded (code_view v.code) burden e end.all (code_serial (code_view v.code) args n) in
      let both = on_root {P = P} (hlevel (le_prop, is_end)) v args n burden (Measured burden) root (effect.Ended x shown) r means
      (λ ok main asked m.
      let light = asked_burden main.func args n burden asked in
      let h = finished laws v ok main.func args n burden (Measured burden) root main.found asked r light x shown m in
      (h.0, measured v args n burden x shown e r.asked h.0 end h.1)) in
      told v args n burden x shown e r.asked both.0 end both.1
