-- Strands with meters.
use Rattle.std.specs.Prelude.{◌≡◌, ℕ, ◌+◌, ◌≤◌, ℤ, Bool, true, false, List, [], ◌∷◌, length, Option, Some, slice_get}
use Rattle.cw_model.specs.declared.burden.Burden.{Burden}
use Rattle.cw_model.specs.declared.limits.TheConstants.{MOST_LIMIT}
use Rattle.cw_model.specs.Frames.{no_frame}
use Rattle.cw_model.specs.Trees.{Marked, Invocation, normal, tree_of}
use Rattle.cw_model.specs.Outcome.{Trace, Done}
use Rattle.cw_model.specs.Answers.{answer_of}
use Rattle.cw_code.specs.declared.code.Func.{Func}
use Rattle.cw_code.specs.Code.{Code}
use Rattle.cw_code.specs.Run.{Slots, Around, State, On, Ends, step, first_transition, first_state, reducers_of}
use Rattle.cw_code.specs.Run.{code_serial}
use Rattle.cw_measure.specs.OpenParts.{Open, has_spawned, no_joins}
use Rattle.cw_sites.specs.OpenPaths.{here_in}
use Rattle.cw_regions.specs.Regions.{Tags}
use Rattle.cw_meter.specs.declared.detail.Detail.{Detail}
use Rattle.cw_meter.specs.declared.detail.Detail.TheVariants as details
use Rattle.cw_meter.specs.declared.meter.Meter.{Meter}
use Rattle.cw_meter.specs.declared.meter.Measures.{Measures}
use Rattle.cw_meter.specs.Origins.{Origin, Main, Rest, base_of, first_open}
use Rattle.cw_meter.specs.Meters.{Meters, Rests}
use Rattle.cw_meter.specs.Whole.{AreMeasures, Reads}
use Rattle.cw_code.specs.Jobs.{Extent, WholeCall, ToJoin, has_come, JoinFrame, standing, Job, job_start, root_job}
use Rattle.cw_code.specs.Jobs.{Effect, Ended, Joined, TrapIn, OverLimit, Memory, JobMeaning}
use Rattle.cw_code.specs.Strands.{Strand, Going, Waits, Halted, Turn, Goes, HandsOut, ComesBack, turn, goes_on}
use Rattle.cw_code.specs.Strands.{resumed}
use Rattle.cw_code.specs.Promises.{IsStrandOf}
use Rattle.cw_jobs.specs.Opens.{opens_round, whole, Gauge, IsNotifiedOf}

-- a strand of a whole run has the meter of a run, and a strand of a continuation has the meter of a continuation
abbrev pub IsFrom : Origin → Extent → Type 0
IsFrom Main WholeCall = Unit {0}
IsFrom Main ToJoin = ⊥
IsFrom (Rest site) WholeCall = ⊥
IsFrom (Rest site) ToJoin = Unit {0}

-- a meter at its start
abbrev pub StartsFrom : Origin → Detail → Meter → Type 0
StartsFrom from detail m = (tags : Tags) → Meters detail tags from 0 (first_open from) [] m

-- the site of the innermost invocation at a state
abbrev pub site_at : Origin → List Around → ℕ
site_at from around = here_in (base_of from) (opens_round from around)

-- the meter of a strand represents the run up to the strand's state; if the strand waits, its block has spawned; the
-- meter of a strand that stopped is meaningless
abbrev pub TracksStrand : (code : Code) → Gauge code → Origin → Strand → Meter → Type 0
TracksStrand code g from (Going s count outs) m =
    Meters g.detail g.tags from count (opens_round from s.around) s.trace.events m
TracksStrand code g from (Waits s count outs) m =
    Meters g.detail g.tags from count (opens_round from s.around) s.trace.events m
    × (has_spawned s.trace.events ≡ true)
TracksStrand code g from (Halted e outs) m = Unit {0}

-- the meter represents the run for every numbering of the code's tags
abbrev pub TracksAll : (code : Code) → Detail → Origin → Strand → Meter → Type 0
TracksAll code detail from strand m = (g : Gauge code) → g.detail ≡ detail → TracksStrand code g from strand m

-- the effect of a continuation comes with a meter that represents the effect's trace
abbrev pub CountsEffect : (code : Code) → Detail → (site : ℕ) → Effect → Meter → Type 0
CountsEffect code detail site (Joined frame t cost) m =
    (g : Gauge code) → g.detail ≡ detail → Meters g.detail g.tags (Rest site) cost [] t.events m
CountsEffect code detail site (Ended v arrays t cost) m = Unit {0}
CountsEffect code detail site (TrapIn trap line lines cost) m = Unit {0}
CountsEffect code detail site OverLimit m = Unit {0}
CountsEffect code detail site Memory m = Unit {0}

-- an effect with a meter means a job that was handed out at a site, with this level of detail. The statement depends
-- only on these values, so that a value that carries them from worker to worker can keep it
pub record MeansMeasured (code : Code) (job : Job) (detail : Detail) (site : ℕ) (e : Effect) (m : Meter) : Type 0 where
  pub means : JobMeaning code job e
  pub counts : CountsEffect code detail site e m

-- the operations on a strand and on its meter preserve that the meter represents the run
pub record PreservesMeters (code : Code) (detail : Detail) : Type 0 where
  pub starting : (from : Origin) (job : Job) (m : Meter) → StartsFrom from detail m
      → TracksAll code detail from (Going (job_start job) 0 []) m
  -- an instruction, which the meter receives
  pub advancing : (from : Origin) (job : Job) (s s' : State) (count : ℕ) (outs : List Job) (m m' : Meter)
      → job.before + (count + 1) ≤ job.limit → job.limit ≤ MOST_LIMIT → step code s ≡ On s'
      → IsNotifiedOf m m' count (slice_get code.instrs s.place)
      → TracksAll code detail from (Going s count outs) m
      → TracksAll code detail from (goes_on (turn code s) s s' job.limit job.before (count + 1) outs) m'
  -- the continuation of a call that ended was taken back, and nobody had executed it: nothing happens
  pub taking_back : (from : Origin) (out : Job) (s : State) (count : ℕ) (outs : List Job) (m : Meter)
      → TracksAll code detail from (Waits s count (out ∷ outs)) m → TracksAll code detail from (Going s count outs) m
  -- a strand whose meter knew only the site executed the continuation up to its join
  pub giving : (from : Origin) (job out : Job) (s : State) (count cost : ℕ) (outs : List Job) (frame : JoinFrame)
      (t : Trace) (m r m' : Meter)
      → IsStrandOf code job (Waits s count (out ∷ outs)) → job.before + (count + cost) ≤ job.limit
      → job.limit ≤ MOST_LIMIT
      → MeansMeasured code out detail (site_at from s.around) (Joined frame t cost) r → Rests m r m' count cost
      → TracksAll code detail from (Waits s count (out ∷ outs)) m
      → TracksAll code detail from (Going (resumed s frame t) (count + cost) outs) m'
  -- a continuation reached its join
  pub arriving : (job : Job) (site : ℕ) (t : State) (cost : ℕ) (m : Meter) → IsStrandOf code job (Going t cost [])
      → has_come job.extent code t ≡ true
      → TracksAll code detail (Rest site) (Going t cost []) m
      → MeansMeasured code job detail site (Joined (standing t) t.trace cost) m
  -- a whole run ends with an instruction, which the meter receives
  pub ending : (g : Gauge code) → g.detail ≡ detail
      → (s : State) (count limit : ℕ) (outs : List Job) (v : Option ℤ) (arrays : Slots (List ℤ)) (t : Trace)
      (m m' : Meter)
      → count + 1 ≤ limit → limit ≤ MOST_LIMIT → step code s ≡ Ends v arrays t
      → IsNotifiedOf m m' count (slice_get code.instrs s.place)
      → TracksAll code detail Main (Going s count outs) m → Meters g.detail g.tags Main (count + 1) [] (whole t) m'

-- for all code and every level of detail, `PreservesMeters` holds
abbrev pub CallsPreserveMeters : Type 0
CallsPreserveMeters = (code : Code) (detail : Detail) → PreservesMeters code detail

-- the reachable states of a strand with a meter: one rule for each step
pub data Metered (code : Code) (detail : Detail) : (from : Origin) (job : Job) → Strand → Meter → Type 0 where
  Started : (from : Origin) (job : Job) (m : Meter) → IsFrom from job.extent → job.before ≤ job.limit
      → job.limit ≤ MOST_LIMIT → StartsFrom from detail m
      → Metered code detail from job (Going (job_start job) 0 []) m
  Ran : (from : Origin) (job : Job) (s s' : State) (count : ℕ) (outs : List Job) (m m' : Meter)
      → Metered code detail from job (Going s count outs) m → has_come job.extent code s ≡ false → step code s ≡ On s'
      → job.before + (count + 1) ≤ job.limit
      → IsNotifiedOf m m' count (slice_get code.instrs s.place)
      → Metered code detail from job (goes_on (turn code s) s s' job.limit job.before (count + 1) outs) m'
  TakenBack : (from : Origin) (job out : Job) (s : State) (count : ℕ) (outs : List Job) (m : Meter)
      → Metered code detail from job (Waits s count (out ∷ outs)) m
      → Metered code detail from job (Going s count outs) m
  Given : (from : Origin) (job out : Job) (s t : State) (count cost : ℕ) (outs : List Job) (m r m' : Meter)
      → Metered code detail from job (Waits s count (out ∷ outs)) m
      → Metered code detail (Rest (site_at from s.around)) out (Going t cost []) r
      → has_come out.extent code t ≡ true → job.before + (count + cost) ≤ job.limit → Rests m r m' count cost
      → Metered code detail from job (Going (resumed s (standing t) t.trace) (count + cost) outs) m'

-- for all continuations that are handed out, taken back, or executed elsewhere and given, in any order and at any
-- depth: the strand is a strand of the serial run, and its meter represents that run
pub record StrandsTell (code : Code) (detail : Detail) : Type 0 where
  pub serial : (from : Origin) (job : Job) (strand : Strand) (m : Meter) → Metered code detail from job strand m
      → IsStrandOf code job strand
  pub told : (from : Origin) (job : Job) (strand : Strand) (m : Meter) → Metered code detail from job strand m
      → TracksAll code detail from strand m

-- for all code and every level of detail, `StrandsTell` holds
abbrev pub MetersTellStrands : Type 0
MetersTellStrands = (code : Code) (detail : Detail) → StrandsTell code detail

-- the sites, with one more in front if the part was spawned
abbrev pub site_if : (spawned : Bool) → ℕ → List ℕ → List ℕ
site_if true site sites = site ∷ sites
site_if false site sites = sites

-- the sites of the continuations that are out at all open parts, the newest first
abbrev pub rest_sites : (base : ℕ) → List Open → List ℕ
rest_sites base [] = []
rest_sites base (o ∷ os) = site_if o.spawned (here_in base os) (rest_sites base os)

-- the sites of the continuations that are out at a state, the newest first
abbrev pub sites_at : Origin → List Around → List ℕ
sites_at from around = rest_sites (base_of from) (opens_round from around)

-- a spawn hands out a continuation with the current site; when the spawned call ends, this is the current site again;
-- no other instruction changes these sites
abbrev pub SitesAfter : Origin → Turn → (before after : List Around) → Type 0
SitesAfter from Goes around around' = sites_at from around' ≡ sites_at from around
SitesAfter from (HandsOut target taken) around around' =
    sites_at from around' ≡ site_at from around ∷ sites_at from around
SitesAfter from ComesBack around around' = site_at from around' ∷ sites_at from around' ≡ sites_at from around

-- each step changes the sites of the continuations that are out as `SitesAfter` states
abbrev pub RestsAreOut : Type 0
RestsAreOut =
    (code : Code) (from : Origin) (s s' : State) → step code s ≡ On s'
    → SitesAfter from (turn code s) s.around s'.around

-- the strand of a whole run with all measures has ended, with no continuation out: the answer of the run is the answer
-- of the code, and the meter, with the last instruction, returns the measures of the run's tree
pub record IsMeasured (code : Code) (burden : Burden) (args : List ℤ) (limit sites : ℕ) (v : Option ℤ) (t : Trace)
    (all : Measures) : Type 0 where
  pub answer : code_serial code args limit ≡ Some (answer_of (reducers_of code) (Done (v, no_frame) 0 t))
  pub measures : AreMeasures burden sites code.tags (normal (Marked (Invocation 0) (tree_of t.events))) all

-- at the end of every whole run that records all measures, `IsMeasured` holds
abbrev pub RootsAreMeasured : Type 0
RootsAreMeasured =
    (code : Code) (g : Gauge code) (burden : Burden) (f : Func) (args : List ℤ) (limit count sites : ℕ) (s : State)
    (v : Option ℤ) (arrays : Slots (List ℤ)) (t : Trace) (m m' : Meter) (all : Measures)
    → g.detail ≡ details.Measures burden
    → first_transition (slice_get code.funcs code.main) args ≡ On (first_state f args [] [])
    → Metered code g.detail Main (root_job f args limit) (Going s count []) m
    → step code s ≡ Ends v arrays t → count + 1 ≤ limit → IsNotifiedOf m m' count (slice_get code.instrs s.place)
    → Reads m' (count + 1) sites (length code.tags) all
    → IsMeasured code burden args limit sites v t all

-- up to its join, the block in which a continuation begins has no join
abbrev pub RestsHaveNoJoins : Type 0
RestsHaveNoJoins =
    (code : Code) (job : Job) (frame : JoinFrame) (t : Trace) (cost : ℕ) → job.extent ≡ ToJoin
    → JobMeaning code job (Joined frame t cost) → no_joins t.events ≡ true
