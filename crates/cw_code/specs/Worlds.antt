-- Any number of workers that share the jobs of one run: each job has a number and a place.
use Rattle.std.specs.Prelude.{◌≡◌, ◌≢◌, ◌⊎◌, ℕ, ◌<◌, ◌≤◌, ℤ, List, [], ◌∷◌, ◌++◌, length, Option, Some, None}
use Rattle.std.specs.Prelude.{slice_get, slice_set}
use Rattle.cw_code.specs.declared.code.Func.{Func}
use Rattle.cw_code.specs.Code.{Code}
use Rattle.cw_code.specs.Fits.{Fits}
use Rattle.cw_code.specs.Run.{On, first_state, first_transition, code_serial}
use Rattle.cw_code.specs.Jobs.{Job, root_job, Effect, Memory, JobMeaning, answered}
use Rattle.cw_code.specs.Strands.{Strand, Going, Waits, Halted}
use Rattle.cw_code.specs.Steps.{started, Ran, Handed, Finished, Unfit, advance, give, skip, take_back, out_of_memory}

-- the place of a job: at a spawn of this worker, to be offered or kept; kept by this worker; in its deque; executed
-- by a strand of this worker, with the numbers of the jobs that the strand has out, the newest first; its effect is
-- with this worker, or in a cell; or its effect was given, or it was skipped
pub data Place : Type 0 where
  Undecided : (worker : ℕ) → Place
  Kept : (worker : ℕ) → Place
  Offered : (worker : ℕ) → Place
  Runs : (worker : ℕ) → Strand → (outs : List ℕ) → Place
  Made : (worker : ℕ) → Effect → Place
  Settled : Effect → Place
  Spent : Place

-- the jobs by number, from 0, and the place of each
pub record World : Type 0 where
  pub jobs : List Job
  pub places : List Place

-- the job has not begun
abbrev pub IsUnrun : Place → Type 0
IsUnrun (Kept worker) = Unit {0}
IsUnrun (Offered worker) = Unit {0}
IsUnrun _ = ⊥

-- the effect of a job that was made and not yet given
abbrev pub effect_in : Place → Option Effect
effect_in (Made worker e) = Some e
effect_in (Settled e) = Some e
effect_in _ = None

-- the strand has stopped
abbrev pub HasStopped : Strand → Type 0
HasStopped (Halted e outs) = Unit {0}
HasStopped _ = ⊥

-- the strand waits for its newest job out
abbrev pub IsWaiting : Strand → Type 0
IsWaiting (Going s count outs) = ⊥
IsWaiting (Waits s count outs) = Unit {0}
IsWaiting (Halted e outs) = Unit {0}

-- a spawned call of the strand has ended, and the strand waits for its continuation
abbrev pub HasEnded : Strand → Type 0
HasEnded (Waits s count outs) = Unit {0}
HasEnded _ = ⊥

-- sets the place of a job
abbrev pub placed : World → ℕ → Place → World
placed world i place = record { jobs = world.jobs; places = slice_set world.places i place }

-- adds a job with its place
abbrev pub joined_by : World → Job → Place → World
joined_by world job place = record { jobs = world.jobs ++ job ∷ []; places = world.places ++ place ∷ [] }

-- the job with a number, and its place
pub record Has (world : World) (i : ℕ) (job : Job) (place : Place) : Type 0 where
  pub job_is : slice_get world.jobs i ≡ Some job
  pub place_is : slice_get world.places i ≡ Some place

-- one event. It is left open which strand of a worker moves, and from which end of a deque a job is taken: every rule
-- for this allows fewer events
pub data WorldStep (code : Code) : World → World → Type 0 where
  -- an instruction
  Run : (world : World) (i worker : ℕ) (job : Job) (strand new : Strand) (outs : List ℕ)
      → Has world i job (Runs worker strand outs) → advance code job strand ≡ Ran new
      → WorldStep code world (placed world i (Runs worker new outs))
  -- a spawn: the continuation of its block is the next job
  Spawn : (world : World) (i worker : ℕ) (job out : Job) (strand new : Strand) (outs : List ℕ)
      → Has world i job (Runs worker strand outs) → advance code job strand ≡ Handed out new
      → WorldStep code world (placed (joined_by world out (Undecided worker)) i (Runs worker new (length world.jobs ∷ outs)))
  Offer : (world : World) (i worker : ℕ) (job : Job) → Has world i job (Undecided worker) →
      WorldStep code world (placed world i (Offered worker))
  Inline : (world : World) (i worker : ℕ) (job : Job) → Has world i job (Undecided worker) →
      WorldStep code world (placed world i (Kept worker))
  -- retake or steal: this worker begins the job
  Begin : (world : World) (i worker : ℕ) (job : Job) (place : Place) → Has world i job place → IsUnrun place →
      WorldStep code world (placed world i (Runs worker (started job) []))
  -- retake after the spawned call stopped: the newest job out is skipped
  Skip : (world : World) (i n worker : ℕ) (job out : Job) (strand : Strand) (outs : List ℕ) (place : Place)
      → Has world i job (Runs worker strand (n ∷ outs)) → HasStopped strand → Has world n out place → IsUnrun place
      → WorldStep code world (placed (placed world n Spent) i (Runs worker (skip strand) outs))
  -- retake after the spawned call ended: the strand itself continues
  Resume : (world : World) (i n worker : ℕ) (job out : Job) (strand : Strand) (outs : List ℕ) (place : Place)
      → Has world i job (Runs worker strand (n ∷ outs)) → HasEnded strand → Has world n out place → IsUnrun place
      → WorldStep code world (placed (placed world n Spent) i (Runs worker (take_back strand) outs))
  -- a strand has ended
  End : (world : World) (i worker : ℕ) (job : Job) (strand : Strand) (outs : List ℕ) (e : Effect)
      → Has world i job (Runs worker strand outs) → advance code job strand ≡ Finished e
      → WorldStep code world (placed world i (Made worker e))
  Settle : (world : World) (i worker : ℕ) (job : Job) (e : Effect) → Has world i job (Made worker e) →
      WorldStep code world (placed world i (Settled e))
  -- collect, or the worker executed the continuation itself: the effect is given to the strand whose newest job out
  -- it is
  Give : (world : World) (i n worker : ℕ) (job out : Job) (strand : Strand) (outs : List ℕ) (place : Place) (e : Effect)
      → Has world i job (Runs worker strand (n ∷ outs)) → IsWaiting strand → Has world n out place
      → effect_in place ≡ Some e
      → WorldStep code world (placed (placed world n Spent) i (Runs worker (give job strand e) outs))
  -- memory ran out, in a strand or before one was made
  Want : (world : World) (i worker : ℕ) (job : Job) (strand : Strand) (outs : List ℕ)
      → Has world i job (Runs worker strand outs)
      → WorldStep code world (placed world i (Runs worker (out_of_memory strand) outs))
  GiveUp : (world : World) (i worker : ℕ) (job : Job) (place : Place) → Has world i job place → IsUnrun place →
      WorldStep code world (placed world i (Made worker Memory))

-- any list of events
pub data After (code : Code) (first : World) : World → Type 0 where
  Now : After code first first
  Later : (world next : World) → After code first world → WorldStep code world next → After code first next

-- the start of a run: worker 0 has begun the root job, number 0
abbrev pub world_of : Job → World
world_of job = record { jobs = job ∷ []; places = Runs 0 (started job) [] ∷ [] }

-- for all events, the effect of the root has the answer of the code, or memory ran out
abbrev pub WorldsAreSerial : Type 0
WorldsAreSerial =
    (code : Code) (f : Func) (args : List ℤ) (limit : ℕ) (world : World) (place : Place) (e : Effect)
    → first_transition (slice_get code.funcs code.main) args ≡ On (first_state f args [] [])
    → After code (world_of (root_job f args limit)) world → slice_get world.places 0 ≡ Some place
    → effect_in place ≡ Some e → (e ≡ Memory) ⊎ (answered code e ≡ code_serial code args limit)

-- for all events, each effect that was made and not yet given means its job
abbrev pub EffectsMean : Type 0
EffectsMean =
    (code : Code) (root : Job) (world : World) (i : ℕ) (job : Job) (place : Place) (e : Effect)
    → root.before ≤ root.limit
    → After code (world_of root) world → Has world i job place → effect_in place ≡ Some e → JobMeaning code job e

-- in well-formed code, no strand of any world gets stuck
abbrev pub NoneIsUnfit : Type 0
NoneIsUnfit =
    (code : Code) → Fits code
    → (f : Func) (args : List ℤ) (limit : ℕ) (world : World) (i worker : ℕ) (job : Job) (strand : Strand)
    (outs : List ℕ)
    → slice_get code.funcs code.main ≡ Some f → length args ≡ f.params
    → After code (world_of (root_job f args limit)) world → Has world i job (Runs worker strand outs)
    → advance code job strand ≢ Unfit

-- the number is in the list
abbrev pub IsAmong : ℕ → List ℕ → Type 0
IsAmong n [] = ⊥
IsAmong n (m ∷ numbers) = (n ≡ m) ⊎ IsAmong n numbers

-- the numbers are strictly decreasing
abbrev pub Falls : List ℕ → Type 0
Falls [] = Unit {0}
Falls (n ∷ []) = Unit {0}
Falls (n ∷ (m ∷ numbers)) = (m < n) × Falls (m ∷ numbers)

-- in a reachable world, a job is out at one strand at most, once, and it is neither given nor skipped
pub record OneOwner (world : World) : Type 0 where
  pub one : (i j n worker worker' : ℕ) (job job' : Job) (strand strand' : Strand) (outs outs' : List ℕ) →
      Has world i job (Runs worker strand outs) → Has world j job' (Runs worker' strand' outs') → IsAmong n outs →
      IsAmong n outs' → i ≡ j
  pub once : (i worker : ℕ) (job : Job) (strand : Strand) (outs : List ℕ) → Has world i job (Runs worker strand outs) →
      Falls outs
  pub still : (i n worker : ℕ) (job : Job) (strand : Strand) (outs : List ℕ) →
      Has world i job (Runs worker strand outs) → IsAmong n outs → slice_get world.places n ≢ Some Spent

-- after all events, the world satisfies `OneOwner`
abbrev pub OwnersAreSingle : Type 0
OwnersAreSingle = (code : Code) (root : Job) (world : World) → After code (world_of root) world → OneOwner world
