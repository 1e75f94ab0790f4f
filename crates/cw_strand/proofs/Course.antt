-- The steps of a strand of the definitions, one at a time and in stretches.
use Rattle.std.proofs.Common.{◌≡◌, ◌≢◌, ℕ, suc, ◌+◌, ◌≤◌, ◌<◌, ℤ, Bool, true, false, nat_lt, if◌then◌else◌, Option, List, [], ◌∷◌, refl, sym, ap, ◌∙◌, subst, inl, arith}
use Rattle.cw_facts.specs.Tests.{not_below, below}
use Rattle.cw_model.specs.declared.trap.Trap.{Trap}
use Rattle.cw_model.specs.Outcome.{Trace}
use Rattle.cw_code.specs.Code.{Code}
use Rattle.cw_code.specs.Run.{Slots, State, Transition, On, Ends, Stops, step}
use Rattle.cw_code.specs.Jobs.{Extent, ToJoin, WholeCall, joins, has_come, standing, Job, Effect, Ended, Joined, TrapIn, OverLimit, Memory, JobMeaning}
use Rattle.std.specs.Prelude.{slice_get}
use Rattle.cw_code.specs.Over.{beneath}
use Rattle.cw_code.specs.Strands.{Strand, Going, Waits, Halted, outs_of, spawn_job, Turn, Goes, HandsOut, ComesBack, turn, goes_on}
use Rattle.cw_code.specs.Promises.{IsStrandOf}
use Rattle.cw_code.specs.Steps.{CallsPreserveJob, AdvancePreservesJob, advance, finished, turned, went_on}
use Rattle.cw_code.specs.Steps as steps
use Rattle.cw_code.specs.lemmas.First.{first_is}
use Rattle.cw_runnable.specs.declared.verified.Verified.{Verified}
use Rattle.cw_jobs.specs.declared.call.Parts.{Parts}
use Rattle.cw_machine.specs.Arrays.{Out, IsFit}
use Rattle.cw_machine.specs.Segments.{calls_in, Setting, calls_round, GoesBy, Passes, Segment, Here, Further}
use Rattle.cw_machine.specs.lemmas.Rounds.{calls_caller}
use Rattle.cw_strand.specs.declared.strand.Lent.{Lent}
use Rattle.cw_strand.specs.Levels.{Level, levels_of}
use Rattle.cw_strand.specs.Holds.{floor_in, Lends, AreOut}
use Rattle.cw_strand.proofs.Levels.{HasReturned, LevelsAfter, levels_move}
use Rattle.cw_strand.proofs.WhichOut.{in_place}

module _ (code : Code) (keep : CallsPreserveJob code) (job : Job) where
  steps_to : (s : State) (count : ℕ) (outs : List Job) (w : Transition) → has_come job.extent code s ≡ false → step code s ≡ w → job.before + (count + 1) ≤ job.limit
      → advance code job (Going s count outs) ≡ went_on (turn code s) s w job.limit job.before (count + 1) outs
  steps_to s count outs w come e le =
      ap (λ b. if b then finished outs (Joined (standing s) s.trace count)
      else (if nat_lt job.limit (job.before + (count + 1)) then steps.Ran (Halted OverLimit outs)
      else went_on (turn code s) s (step code s) job.limit job.before (count + 1) outs)) come
      ∙ ap (λ b. if b then steps.Ran (Halted OverLimit outs) else went_on (turn code s) s (step code s) job.limit job.before (count + 1) outs) (not_below job.limit (job.before + (count + 1)) le)
      ∙ ap (λ x. went_on (turn code s) s x job.limit job.before (count + 1) outs) e

  kept_on : (old : Strand) (t : Turn) (s s' : State) (count : ℕ) (outs : List Job)
      → AdvancePreservesJob code job old (turned t s s' job.limit job.before count outs) → IsStrandOf code job (goes_on t s s' job.limit job.before count outs)
  kept_on old Goes s s' count outs h = h.0
  kept_on old (HandsOut target taken) s s' count outs h = h.0
  kept_on old ComesBack s s' count outs h = h.0

  -- an instruction after which the run continues
  pub ran : (s s' : State) (count : ℕ) (outs : List Job) (t : Turn) → turn code s ≡ t → has_come job.extent code s ≡ false → step code s ≡ On s'
      → job.before + (count + 1) ≤ job.limit → IsStrandOf code job (Going s count outs)
      → IsStrandOf code job (goes_on t s s' job.limit job.before (count + 1) outs)
  ran s s' count outs t same come e le h = subst (λ t. IsStrandOf code job (goes_on t s s' job.limit job.before (count + 1) outs)) same
      (kept_on (Going s count outs) (turn code s) s s' (count + 1) outs
      (subst (AdvancePreservesJob code job (Going s count outs)) (steps_to s count outs (On s') come e le) (keep.advancing job (Going s count outs) h)))

  -- an instruction that traps
  pub fell : (s : State) (count : ℕ) (outs : List Job) (trap : Trap) (line : ℕ) (lines : List ℤ) → has_come job.extent code s ≡ false
      → step code s ≡ Stops trap line lines → job.before + (count + 1) ≤ job.limit → IsStrandOf code job (Going s count outs)
      → IsStrandOf code job (Halted (TrapIn trap line lines (count + 1)) outs)
  fell s count outs trap line lines come e le h =
      (subst (AdvancePreservesJob code job (Going s count outs)) (steps_to s count outs (Stops trap line lines) come e le) (keep.advancing job (Going s count outs) h)).0

  -- the limit is exceeded
  pub passed : (s : State) (count : ℕ) (outs : List Job) → has_come job.extent code s ≡ false → job.limit < job.before + (count + 1) → IsStrandOf code job (Going s count outs)
      → IsStrandOf code job (Halted OverLimit outs)
  passed s count outs come lt h =
      let P : steps.Advanced → Type 0 = AdvancePreservesJob code job (Going s count outs) in
      (subst P
      (ap (λ b. if b then finished outs (Joined (standing s) s.trace count)
      else (if nat_lt job.limit (job.before + (count + 1)) then steps.Ran (Halted OverLimit outs)
      else went_on (turn code s) s (step code s) job.limit job.before (count + 1) outs)) come
      ∙ ap (λ b. if b then steps.Ran (Halted OverLimit outs) else went_on (turn code s) s (step code s) job.limit job.before (count + 1) outs) (below job.limit (job.before + (count + 1)) lt))
      (keep.advancing job (Going s count outs) h)).0

  pub wants : (strand : Strand) → IsStrandOf code job strand → IsStrandOf code job (Halted Memory (outs_of strand))
  wants strand h = keep.wanting job strand h

  -- the strand reaches the join
  pub arrived : (s : State) (count : ℕ) → has_come job.extent code s ≡ true → IsStrandOf code job (Going s count []) → JobMeaning code job (Joined (standing s) s.trace count)
  arrived s count come h =
      subst (AdvancePreservesJob code job (Going s count []))
      (ap (λ b. if b then finished [] (Joined (standing s) s.trace count)
      else (if nat_lt job.limit (job.before + (count + 1)) then steps.Ran (Halted OverLimit [])
      else went_on (turn code s) s (step code s) job.limit job.before (count + 1) [])) come)
      (keep.advancing job (Going s count []) h)

  -- the call of the strand ends
  pub ended : (s : State) (count : ℕ) (v : Option ℤ) (arrays : Slots (List ℤ)) (t : Trace) → has_come job.extent code s ≡ false
      → step code s ≡ Ends v arrays t → job.before + (count + 1) ≤ job.limit → IsStrandOf code job (Going s count [])
      → JobMeaning code job (Ended v arrays t (count + 1))
  ended s count v arrays t come e le h =
      subst (AdvancePreservesJob code job (Going s count [])) (steps_to s count [] (Ends v arrays t) come e le) (keep.advancing job (Going s count []) h)

  -- the strand has stopped
  pub halted : (e : Effect) (outs : List Job) → IsStrandOf code job (Halted e outs) → JobMeaning code job e
  halted e outs h = keep.advancing job (Halted e []) h

  -- a spawned call returned in place: as if its continuation had been out and was taken back
  took_back : (s : State) (count : ℕ) (out : Job) (outs : List Job) → IsStrandOf code job (Waits s count (out ∷ outs)) → IsStrandOf code job (Going s count outs)
  took_back s count out outs h = keep.taking_back job (Waits s count (out ∷ outs)) h

  -- A STRETCH IN WHICH NOTHING STOPS THE RUN, with these continuations out
  module _ (k : Setting) (same : k.extent ≡ job.extent) (v : Verified) (is : IsFit v) (p : Parts) (levels : List Level) (outs : List Out)
      (lent : List Lent) (lends : Lends v is p k.base levels outs lent) (stops : Bool) where
    pub record Led (s : State) (count : ℕ) : Type 0 where
      pub jobs_out : List Job
      pub is_of : IsStrandOf code job (Going s count jobs_out)
      pub are : AreOut p (levels_of s.around) jobs_out levels lent

    -- a spawned call returns that is not at the floor
    returned : (s1 s2 : State) (count : ℕ) (jobs_out : List Job) → HasReturned s1 s2 → calls_round k s1 ≢ floor_in lent
        → IsStrandOf code job (Waits s2 count jobs_out) → AreOut p (levels_of s1.around) jobs_out levels lent → Led s2 count
    returned s1 s2 count jobs_out r ne h are =
        let many : calls_round k s1 ≡ suc (calls_in (beneath k.base r.level.around)) = ap (λ a. calls_in (beneath k.base a)) r.around ∙ calls_caller k.base r.level.waiting r.level.around in
        let back : AreOut p (r.level ∷ levels_of r.level.around) jobs_out levels lent =
        subst (λ a. AreOut p (r.level ∷ levels_of a) jobs_out levels lent) r.back.around (subst (λ l. AreOut p l jobs_out levels lent) r.levels are) in
        let one = in_place v is p k.base r.level outs jobs_out levels lent lends (λ e. ne (many ∙ e)) back in
        record {
          jobs_out = one.others;
          is_of = took_back s2 count one.job one.others (subst (λ o. IsStrandOf code job (Waits s2 count o)) one.same h);
          are = subst (λ a. AreOut p (levels_of a) one.others levels lent) (sym r.back.around) one.are;
        }

    one_on : (s1 s2 : State) (count : ℕ) → Passes k code (floor_in lent) stops s1 s2 → job.before + (count + 1) ≤ job.limit → Led s1 count → Led s2 (count + 1)
    one_on s1 s2 count pass le one = cases (turn code s1) refl pass.goes (levels_move code s1 s2 pass.steps)
      where
        went : (t : Turn) → turn code s1 ≡ t → IsStrandOf code job (goes_on t s1 s2 job.limit job.before (count + 1) one.jobs_out)
        went t e = ran s1 s2 count one.jobs_out t e (subst (λ y. has_come y code s1 ≡ false) same pass.before) pass.steps le one.is_of

        cases : (t : Turn) → turn code s1 ≡ t → GoesBy (floor_in lent) stops (calls_round k s1) t → LevelsAfter t s1 s2 → Led s2 (count + 1)
        cases Goes e goes after = record {
          jobs_out = one.jobs_out;
          is_of = went Goes e;
          are = subst (λ l. AreOut p l one.jobs_out levels lent) (sym after) one.are;
        }
        cases (HandsOut target taken) e goes after = record {
          jobs_out = spawn_job s1 target taken job.limit (job.before + (count + 1)) ∷ one.jobs_out;
          is_of = went (HandsOut target taken) e;
          are = subst (λ l. AreOut p l (spawn_job s1 target taken job.limit (job.before + (count + 1)) ∷ one.jobs_out) levels lent) (sym after.levels) (inl one.are);
        }
        cases ComesBack e goes after = returned s1 s2 (count + 1) one.jobs_out after goes (went ComesBack e) one.are

    pub stretched : (count later : ℕ) (s s1 : State) → Segment k code (floor_in lent) stops count s later s1 → job.before + later ≤ job.limit → Led s count → Led s1 later
    stretched count _ s _ (Here _ _) le one = one
    stretched count _ s _ (Further _ later _ s1 s2 before pass) le one = one_on s1 s2 later pass le (stretched count later s s1 before (omega (arith, le)) one)

pub come_alone : (code : Code) (x : Extent) (s : State) → has_come x code s ≡ true → s.around ≡ []
come_alone code WholeCall s e = cc
come_alone code ToJoin s e = first_is s.around (joins (slice_get code.instrs s.place)) e

pub come_joins : (code : Code) (x : Extent) (s : State) → has_come x code s ≡ true → x ≡ ToJoin
come_joins code WholeCall s e = cc
come_joins code ToJoin s e = refl
