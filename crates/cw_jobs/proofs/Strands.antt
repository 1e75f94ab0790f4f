-- Whatever a strand hands out, takes back or is given, its meter represents the serial run so far.
use Rattle.std.proofs.Common.{◌≡◌, ℕ, zero, suc, ◌+◌, ◌≤◌, ◌<◌, ℤ, Bool, true, false, nat_lt, if◌then◌else◌, Option, Some, List, [], ◌∷◌, length, refl, sym, ap, ◌∙◌, subst, inl, inr, arith}
use Rattle.std.specs.Prelude.{slice_get}
use Rattle.cw_facts.specs.Tests.{not_below}
use Rattle.cw_model.specs.declared.burden.Burden.{Burden}
use Rattle.cw_model.specs.declared.limits.TheConstants.{MOST_LIMIT}
use Rattle.cw_model.specs.Frames.{no_frame}
use Rattle.cw_model.specs.Trees.{Event}
use Rattle.cw_model.specs.Outcome.{Trace, Done}
use Rattle.cw_model.specs.Answers.{answer_of}
use Rattle.cw_code.specs.declared.code.Func.{Func}
use Rattle.cw_code.specs.Code.{Code}
use Rattle.cw_code.specs.Run.{Slots, Around, State, Transition, On, Ends, Stops, Stuck, step, first_transition, first_state, reducers_of, code_serial}
use Rattle.cw_measure.specs.OpenParts.{no_joins}
use Rattle.cw_meter.specs.declared.detail.Detail.{Detail}
use Rattle.cw_meter.specs.declared.detail.Detail.TheVariants as details
use Rattle.cw_meter.specs.declared.meter.Meter.{Meter}
use Rattle.cw_meter.specs.Details.{IsLight}
use Rattle.cw_meter.specs.declared.meter.Measures.{Measures}
use Rattle.cw_meter.specs.Origins.{Origin, Main, Rest, first_open}
use Rattle.cw_meter.specs.Meters.{Meters, InstructionsNeedNoCall, Rests}
use Rattle.cw_meter.specs.Whole.{Reads}
use Rattle.cw_code.specs.Jobs.{Extent, WholeCall, ToJoin, joins, has_come, JoinFrame, standing, Came, Arrives, Returns, Falls, Beyond, Lost, moved, travel}
use Rattle.cw_code.specs.Jobs.{course, IsOf, Same, Passed, Short, Job, job_start, root_job, Effect, Ended, Joined, OverLimit, JobMeaning}
use Rattle.cw_code.specs.Strands.{Strand, Going, Waits, Halted, Turn, Goes, HandsOut, ComesBack, turn, goes_on, resumed}
use Rattle.cw_code.specs.Promises.{IsStrandOf}
use Rattle.cw_code.specs.RestLaws.{RootsAreSerial}
use Rattle.cw_code.specs.Steps.{AdvancePreservesJob, CallsPreserveJob, advance, finished, turned, went_on}
use Rattle.cw_code.specs.Steps as steps
use Rattle.cw_code.specs.lemmas.First.{first_is}
use Rattle.cw_jobs.specs.Opens.{opens_round, whole, Gauge, IsNotifiedOf}
use Rattle.cw_jobs.specs.Strands.{site_at, StartsFrom, Metered, Started, Ran, TakenBack, Given, TracksStrand, TracksAll, MeansMeasured, PreservesMeters}
use Rattle.cw_jobs.specs.Strands.{CallsPreserveMeters, StrandsTell, MetersTellStrands, IsMeasured, RootsAreMeasured, RestsHaveNoJoins}
use Rattle.cw_jobs.proofs.Joinless.{Joinless, stays_joinless}
use Rattle.cw_jobs.proofs.Joinless as joinless
use Rattle.cw_jobs.specs.lemmas.StepEvents.{After}
use Rattle.cw_jobs.specs.lemmas.Spawns.{HasSpawnedWhere, waiters_have_spawned}
use Rattle.cw_jobs.proofs.Telling.{Telling, acts_told, round_open}

-- up to the join, there is no join
at_bottom : (around : List Around) (es : List Event) → around ≡ [] → Joinless around es → no_joins es ≡ true
at_bottom around es e h = let P : List Around → Type 0 = λ x. Joinless x es in subst P e h

-- the trace of a run up to the join
abbrev NoneShown : Came → Type 0
NoneShown (Arrives frame t left) = no_joins t.events ≡ true
NoneShown _ = Unit {0}

module _ (code : Code) where
  come_to : (s : State) (b : Bool) → has_come ToJoin code s ≡ b → Joinless s.around s.trace.events → (n : ℕ) (other : Came)
      → (b ≡ false → NoneShown other) → NoneShown (if b then Arrives (standing s) s.trace n else other)
  come_to s true e h n other k = at_bottom s.around s.trace.events (first_is s.around (joins (slice_get code.instrs s.place)) e) h
  come_to s false e h n other k = k refl

  goes_to : (w : Transition) (left : ℕ) (next : State → Came) → joinless.After w → ((s : State) → Joinless s.around s.trace.events → NoneShown (next s)) → NoneShown (moved w left next)
  goes_to (On s) left next h k = k s h
  goes_to (Ends v arrays t) left next h k = tt
  goes_to (Stops trap line lines) left next h k = tt
  goes_to Stuck left next h k = tt

  travels : (n : ℕ) (s : State) → Joinless s.around s.trace.events → NoneShown (travel ToJoin code n s)
  travels zero s h = come_to s (has_come ToJoin code s) refl h zero Beyond (λ e. tt)
  travels (suc n) s h = come_to s (has_come ToJoin code s) refl h (suc n) (moved (step code s) n (λ s'. travel ToJoin code n s'))
      (λ e. goes_to (step code s) n (λ s'. travel ToJoin code n s') (stays_joinless code s (slice_get code.instrs s.place) h e) (λ s' k. travels n s' k))

  abbrev trace_of : Effect → List Event
  trace_of (Joined frame t cost) = t.events
  trace_of _ = []

  none_is : (c : Came) (n : ℕ) (frame : JoinFrame) (t : Trace) (cost : ℕ) → NoneShown c → IsOf c n (Joined frame t cost) → no_joins t.events ≡ true
  none_is (Arrives f u left) n frame t cost h e = let P : List Event → Type 0 = λ x. no_joins x ≡ true in subst P (sym (ap trace_of e)) h
  none_is (Returns v arrays u left) n frame t cost h e = cc
  none_is (Falls trap line lines left) n frame t cost h e = cc
  none_is Beyond n frame t cost h e = cc
  none_is Lost n frame t cost h e = absurd e

  pub no_joins_in : (job : Job) (frame : JoinFrame) (t : Trace) (cost : ℕ) → job.extent ≡ ToJoin → JobMeaning code job (Joined frame t cost) → no_joins t.events ≡ true
  no_joins_in job frame t cost x (Same e) =
      let P : Extent → Type 0 = λ y. NoneShown (travel y code job.limit (job_start job)) in
      none_is (course code job job.limit) job.limit frame t cost (subst P (sym x) (travels job.limit (job_start job) refl)) e
  no_joins_in job frame t cost x (Passed e h) = cc
  no_joins_in job frame t cost x (Short e) = cc

pub rests_have_no_joins : RestsHaveNoJoins
rests_have_no_joins = λ code job frame t cost x m. no_joins_in code job frame t cost x m

-- the meter of a strand after an instruction
goes_told : {code : Code} (g : Gauge code) (from : Origin) (t : Turn) (s s' : State) (limit before count : ℕ) (outs : List Job) (m : Meter)
    → HasSpawnedWhere t s' → Meters g.detail g.tags from count (opens_round from s'.around) s'.trace.events m
    → TracksStrand code g from (goes_on t s s' limit before count outs) m
goes_told g from Goes s s' limit before count outs m spawned h = h
goes_told g from (HandsOut target taken) s s' limit before count outs m spawned h = h
goes_told g from ComesBack s s' limit before count outs m spawned h = (h, spawned)

kept_on : (code : Code) (job : Job) (old : Strand) (t : Turn) (s s' : State) (limit before count : ℕ) (outs : List Job)
    → AdvancePreservesJob code job old (turned t s s' limit before count outs) → IsStrandOf code job (goes_on t s s' limit before count outs)
kept_on code job old Goes s s' limit before count outs h = h.0
kept_on code job old (HandsOut target taken) s s' limit before count outs h = h.0
kept_on code job old ComesBack s s' limit before count outs h = h.0

module _ (quiet : InstructionsNeedNoCall) (code : Code) (keep : CallsPreserveJob code) where
  steps_to : (job : Job) (s : State) (count : ℕ) (outs : List Job) (w : Transition) → has_come job.extent code s ≡ false → step code s ≡ w
      → job.before + (count + 1) ≤ job.limit → advance code job (Going s count outs) ≡ went_on (turn code s) s w job.limit job.before (count + 1) outs
  steps_to job s count outs w come e le =
      ap (λ b. if b then finished outs (Joined (standing s) s.trace count)
      else (if nat_lt job.limit (job.before + (count + 1)) then steps.Ran (Halted OverLimit outs)
      else went_on (turn code s) s (step code s) job.limit job.before (count + 1) outs)) come
      ∙ ap (λ b. if b then steps.Ran (Halted OverLimit outs) else went_on (turn code s) s (step code s) job.limit job.before (count + 1) outs) (not_below job.limit (job.before + (count + 1)) le)
      ∙ ap (λ x. went_on (turn code s) s x job.limit job.before (count + 1) outs) e

  ran : (job : Job) (s s' : State) (count : ℕ) (outs : List Job) → has_come job.extent code s ≡ false → step code s ≡ On s'
      → job.before + (count + 1) ≤ job.limit → IsStrandOf code job (Going s count outs)
      → IsStrandOf code job (goes_on (turn code s) s s' job.limit job.before (count + 1) outs)
  ran job s s' count outs come e le h =
      kept_on code job (Going s count outs) (turn code s) s s' job.limit job.before (count + 1) outs
      (subst (AdvancePreservesJob code job (Going s count outs)) (steps_to job s count outs (On s') come e le) (keep.advancing job (Going s count outs) h))

  arrived : (job : Job) (t : State) (cost : ℕ) → IsStrandOf code job (Going t cost []) → has_come job.extent code t ≡ true → JobMeaning code job (Joined (standing t) t.trace cost)
  arrived job t cost h come =
      subst (AdvancePreservesJob code job (Going t cost []))
      (ap (λ b. if b then finished [] (Joined (standing t) t.trace cost)
      else (if nat_lt job.limit (job.before + (cost + 1)) then steps.Ran (Halted OverLimit [])
      else went_on (turn code t) t (step code t) job.limit job.before (cost + 1) [])) come)
      (keep.advancing job (Going t cost []) h)

  given : (job out : Job) (s : State) (count : ℕ) (outs : List Job) (frame : JoinFrame) (t : Trace) (cost : ℕ)
      → job.before + (count + cost) ≤ job.limit → IsStrandOf code job (Waits s count (out ∷ outs)) → JobMeaning code out (Joined frame t cost)
      → IsStrandOf code job (Going (resumed s frame t) (count + cost) outs)
  given job out s count outs frame t cost le h m =
      subst (IsStrandOf code job)
      (ap (λ b. if b then Halted OverLimit outs else Going (resumed s frame t) (count + cost) outs) (not_below job.limit (job.before + (count + cost)) le))
      (keep.giving job (Waits s count (out ∷ outs)) out outs (Joined frame t cost) h refl m).0

  out_here : (job out : Job) (s : State) (count : ℕ) (outs : List Job) → IsStrandOf code job (Waits s count (out ∷ outs)) → out.extent ≡ ToJoin
  out_here job out s count outs h = ap (λ (j : Job). j.extent) h.2.0.same

  module _ (detail : Detail) where
    pub starting : (from : Origin) (job : Job) (m : Meter) → StartsFrom from detail m → TracksAll code detail from (Going (job_start job) 0 []) m
    starting from job m starts = λ g e. let P : Detail → Type 0 = λ x. Meters x g.tags from 0 (first_open from) [] m in subst P (sym e) (starts g.tags)

    pub advancing : (from : Origin) (job : Job) (s s' : State) (count : ℕ) (outs : List Job) (m m' : Meter) → job.before + (count + 1) ≤ job.limit
        → job.limit ≤ MOST_LIMIT → step code s ≡ On s' → IsNotifiedOf m m' count (slice_get code.instrs s.place)
        → TracksAll code detail from (Going s count outs) m → TracksAll code detail from (goes_on (turn code s) s s' job.limit job.before (count + 1) outs) m'
    advancing from job s s' count outs m m' le small e told h = λ g b.
        let less : count < MOST_LIMIT = omega (arith, le, small) in
        goes_told g from (turn code s) s s' job.limit job.before (count + 1) outs m' (waiters_have_spawned code s s' e)
        (subst (After (Telling quiet code g from count less m m') from) e (acts_told quiet code g from count less m m' s (slice_get code.instrs s.place) told (h g b)))

    pub giving : (from : Origin) (job out : Job) (s : State) (count cost : ℕ) (outs : List Job) (frame : JoinFrame) (t : Trace) (m r m' : Meter)
        → IsStrandOf code job (Waits s count (out ∷ outs)) → job.before + (count + cost) ≤ job.limit → job.limit ≤ MOST_LIMIT
        → MeansMeasured code out detail (site_at from s.around) (Joined frame t cost) r → Rests m r m' count cost
        → TracksAll code detail from (Waits s count (out ∷ outs)) m → TracksAll code detail from (Going (resumed s frame t) (count + cost) outs) m'
    giving from job out s count cost outs frame t m r m' is le small means rests h = λ g b.
        rests g.detail g.tags from (opens_round from s.around) s.trace.events t.events (omega (arith, le, small)) g.light
        (round_open from s.around) (h g b).1 (no_joins_in code out frame t cost (out_here job out s count outs is) means.means) (h g b).0 (means.counts g b)

    pub arriving : (job : Job) (site : ℕ) (t : State) (cost : ℕ) (m : Meter) → IsStrandOf code job (Going t cost [])
        → has_come job.extent code t ≡ true → TracksAll code detail (Rest site) (Going t cost []) m
        → MeansMeasured code job detail site (Joined (standing t) t.trace cost) m
    arriving job site t cost m is come h = record {
      means = arrived job t cost is come;
      counts = λ g b. let P : List Around → Type 0 = λ x. Meters g.detail g.tags (Rest site) cost (opens_round (Rest site) x) t.trace.events m in subst P (at_join job.extent come) (h g b);
    }
      where
        at_join : (x : Extent) → has_come x code t ≡ true → t.around ≡ []
        at_join WholeCall e = cc
        at_join ToJoin e = first_is t.around (joins (slice_get code.instrs t.place)) e

    pub ending : (g : Gauge code) → g.detail ≡ detail → (s : State) (count limit : ℕ) (outs : List Job) (v : Option ℤ) (arrays : Slots (List ℤ))
        (t : Trace) (m m' : Meter) → count + 1 ≤ limit → limit ≤ MOST_LIMIT → step code s ≡ Ends v arrays t
        → IsNotifiedOf m m' count (slice_get code.instrs s.place) → TracksAll code detail Main (Going s count outs) m
        → Meters g.detail g.tags Main (count + 1) [] (whole t) m'
    ending g b s count limit outs v arrays t m m' le small e told h =
        let less : count < MOST_LIMIT = omega (arith, le, small) in
        subst (After (Telling quiet code g Main count less m m') Main) e (acts_told quiet code g Main count less m m' s (slice_get code.instrs s.place) told (h g b))

    -- the limit of a job is in its range
    limited : (from : Origin) (job : Job) (strand : Strand) (m : Meter) → Metered code detail from job strand m → job.limit ≤ MOST_LIMIT
    limited from job strand m (Started _ _ _ is low small starts) = small
    limited from job strand m (Ran _ _ s s' count outs m0 _ h come e le told) = limited from job (Going s count outs) m0 h
    limited from job strand m (TakenBack _ _ out s count outs _ h) = limited from job (Waits s count (out ∷ outs)) m h
    limited from job strand m (Given _ _ out s t count cost outs m0 r _ h k come le rests) = limited from job (Waits s count (out ∷ outs)) m0 h

    serial : (from : Origin) (job : Job) (strand : Strand) (m : Meter) → Metered code detail from job strand m → IsStrandOf code job strand
    serial from job strand m (Started _ _ _ is low small starts) = keep.starting job low
    serial from job strand m (Ran _ _ s s' count outs m0 _ h come e le told) = ran job s s' count outs come e le (serial from job (Going s count outs) m0 h)
    serial from job strand m (TakenBack _ _ out s count outs _ h) = keep.taking_back job (Waits s count (out ∷ outs)) (serial from job (Waits s count (out ∷ outs)) m h)
    serial from job strand m (Given _ _ out s t count cost outs m0 r _ h k come le rests) =
        given job out s count outs (standing t) t.trace cost le (serial from job (Waits s count (out ∷ outs)) m0 h)
        (arrived out t cost (serial (Rest (site_at from s.around)) out (Going t cost []) r k) come)

    tells : (from : Origin) (job : Job) (strand : Strand) (m : Meter) → Metered code detail from job strand m → TracksAll code detail from strand m
    tells from job strand m (Started _ _ _ is low small starts) = starting from job m starts
    tells from job strand m (Ran _ _ s s' count outs m0 _ h come e le told) =
        advancing from job s s' count outs m0 m le (limited from job (Going s count outs) m0 h) e told (tells from job (Going s count outs) m0 h)
    tells from job strand m (TakenBack _ _ out s count outs _ h) = λ g b. (tells from job (Waits s count (out ∷ outs)) m h g b).0
    tells from job strand m (Given _ _ out s t count cost outs m0 r _ h k come le rests) =
        let site = site_at from s.around in
        giving from job out s count cost outs (standing t) t.trace m0 r m (serial from job (Waits s count (out ∷ outs)) m0 h) le (limited from job (Waits s count (out ∷ outs)) m0 h)
        (arriving out site t cost r (serial (Rest site) out (Going t cost []) r k) come (tells (Rest site) out (Going t cost []) r k)) rests (tells from job (Waits s count (out ∷ outs)) m0 h)

    pub strands_tell : StrandsTell code detail
    strands_tell = record { serial = serial; told = tells }

    pub meters_keep : PreservesMeters code detail
    meters_keep = record {
      starting = starting;
      advancing = advancing;
      taking_back = λ from out s count outs m h. λ g b. (h g b).0;
      giving = giving;
      arriving = arriving;
      ending = ending;
    }

  -- a whole run ends
  answers : RootsAreSerial → (f : Func) (args : List ℤ) (limit count : ℕ) (s : State) (v : Option ℤ) (arrays : Slots (List ℤ)) (t : Trace)
      → first_transition (slice_get code.funcs code.main) args ≡ On (first_state f args [] [])
      → IsStrandOf code (root_job f args limit) (Going s count []) → step code s ≡ Ends v arrays t → count + 1 ≤ limit
      → code_serial code args limit ≡ Some (answer_of (reducers_of code) (Done (v, no_frame) 0 t))
  answers roots f args limit count s v arrays t first is e le =
      let job = root_job f args limit in
      let m : JobMeaning code job (Ended v arrays t (count + 1)) =
      subst (AdvancePreservesJob code job (Going s count [])) (steps_to job s count [] (Ends v arrays t) refl e (omega (arith, le))) (keep.advancing job (Going s count []) is) in
      elim (roots code f args limit (Ended v arrays t (count + 1)) first m) [
        | inl short ↦ absurd (cc)
        | inr same ↦ sym same
      ]

  pub root_measured : RootsAreSerial → (g : Gauge code) (burden : Burden) (f : Func) (args : List ℤ) (limit count sites : ℕ) (s : State)
      (v : Option ℤ) (arrays : Slots (List ℤ)) (t : Trace) (m m' : Meter) (all : Measures) → g.detail ≡ details.Measures burden
      → first_transition (slice_get code.funcs code.main) args ≡ On (first_state f args [] [])
      → Metered code g.detail Main (root_job f args limit) (Going s count []) m → step code s ≡ Ends v arrays t → count + 1 ≤ limit
      → IsNotifiedOf m m' count (slice_get code.instrs s.place) → Reads m' (count + 1) sites (length code.tags) all → IsMeasured code burden args limit sites v t all
  root_measured roots g burden f args limit count sites s v arrays t m m' all counts first h e le told reads =
      let job = root_job f args limit in
      let small = limited g.detail Main job (Going s count []) m h in
      let M : Detail → Type 0 = λ x. Meters x g.tags Main (count + 1) [] (whole t) m' in
      let meters = ending g.detail g refl s count limit [] v arrays t m m' le small e told (tells g.detail Main job (Going s count []) m h) in
      record {
        answer = answers roots f args limit count s v arrays t first (serial g.detail Main job (Going s count []) m h) e le;
        measures = reads burden g.tags code.tags t.events (omega (arith, le, small)) (subst IsLight counts g.light) g.named refl (subst M counts meters);
      }

pub calls_keep_meters : InstructionsNeedNoCall → ((code : Code) → CallsPreserveJob code) → CallsPreserveMeters
calls_keep_meters quiet keep = λ code detail. meters_keep quiet code (keep code) detail

pub meters_tell : InstructionsNeedNoCall → ((code : Code) → CallsPreserveJob code) → MetersTellStrands
meters_tell quiet keep = λ code detail. strands_tell quiet code (keep code) detail

pub roots_measured : InstructionsNeedNoCall → ((code : Code) → CallsPreserveJob code) → RootsAreSerial → RootsAreMeasured
roots_measured quiet keep roots = λ code g burden f args limit count sites s v arrays t m m' all. root_measured quiet code (keep code) roots g burden f args limit count sites s v arrays t m m' all
