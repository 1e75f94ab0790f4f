-- The invariant of a strand for every schedule: the state of a strand is a state of the serial run of its job.
use Rattle.std.specs.Prelude.{◌≡◌, ℕ, ◌+◌, ◌≤◌, ◌<◌, List, [], ◌∷◌}
use Rattle.cw_model.specs.declared.syntax.CallKind.{CallKind}
use Rattle.cw_model.specs.declared.syntax.CallKind.TheVariants.{Plain, Spawned}
use Rattle.cw_code.specs.Code.{Code}
use Rattle.cw_code.specs.Run.{Waiting, Around, Caller, Block, State}
use Rattle.cw_code.specs.Jobs.{Came, Arrives, Returns, Falls, Beyond, travel, Job, course, Effect, Ended, Joined}
use Rattle.cw_code.specs.Jobs.{TrapIn, OverLimit, Memory}
use Rattle.cw_code.specs.Strands.{Strand, Going, Waits, Halted, rest_of, rest_at, cost_of}

-- a run takes `cost` instructions, and then continues as another run
pub record Takes (cost : ℕ) (run later : ℕ → Came) : Type 0 where
  pub next : (n : ℕ) → run (cost + n) ≡ later n
  pub short : (m : ℕ) → m < cost → run m ≡ Beyond

-- an effect represents the run of its job, for every budget
abbrev pub RepresentsRun : Code → Job → Effect → Type 0
RepresentsRun code job (Ended v arrays t cost) = Takes cost (course code job) (λ n. Returns v arrays t n)
RepresentsRun code job (Joined frame t cost) = Takes cost (course code job) (λ n. Arrives frame t n)
RepresentsRun code job (TrapIn trap line lines cost) = Takes cost (course code job) (λ n. Falls trap line lines n)
RepresentsRun code job OverLimit = (m : ℕ) → job.before + m ≤ job.limit → course code job m ≡ Beyond
RepresentsRun code job Memory = Unit {0}

-- the job out at a caller that waits for a spawned call: the caller has no operands, and the cost before the job is
-- at most `bound`
pub record IsOutAt (limit bound : ℕ) (w : Waiting) (out : Job) : Type 0 where
  pub same : out ≡ rest_of w limit out.before
  pub low : out.before ≤ bound
  pub none : w.operands ≡ []

-- the jobs out at a waiting caller: one more than below it if the call was spawned
abbrev pub OutAt : (limit bound : ℕ) → Waiting → CallKind → (List Job → Type 0) → List Job → Type 0
OutAt limit bound w Plain below outs = below outs
OutAt limit bound w Spawned below [] = ⊥
OutAt limit bound w Spawned below (out ∷ outs) = IsOutAt limit bound w out × below outs

-- there is a job out for each spawned call around the strand's block, and no other
abbrev pub Outs : (limit bound : ℕ) → List Around → List Job → Type 0
Outs limit bound [] [] = Unit {0}
Outs limit bound [] (out ∷ outs) = ⊥
Outs limit bound (Caller w ∷ around) outs = OutAt limit bound w w.kind (λ others. Outs limit bound around others) outs
Outs limit bound (Block o ∷ around) outs = Outs limit bound around outs

-- the job out of a strand whose spawned call has ended
pub record IsOutHere (limit bound : ℕ) (s : State) (out : Job) : Type 0 where
  pub same : out ≡ rest_at s limit out.before
  pub low : out.before ≤ bound
  pub none : s.operands ≡ []

-- the jobs out of a strand whose spawned call has ended
abbrev pub OutsHere : (limit bound : ℕ) → State → List Job → Type 0
OutsHere limit bound s [] = ⊥
OutsHere limit bound s (out ∷ outs) = IsOutHere limit bound s out × Outs limit bound s.around outs

-- the serial run of a job reaches this state after `count` instructions
abbrev pub ComesTo : Code → Job → ℕ → State → Type 0
ComesTo code job count s = Takes count (course code job) (λ n. travel job.extent code n s)

-- a strand of a job
abbrev pub IsStrandOf : Code → Job → Strand → Type 0
IsStrandOf code job (Going s count outs) =
    (job.before + count ≤ job.limit) × ComesTo code job count s × Outs job.limit (job.before + count) s.around outs
IsStrandOf code job (Waits s count outs) =
    (job.before + count ≤ job.limit) × ComesTo code job count s × OutsHere job.limit (job.before + count) s outs
IsStrandOf code job (Halted e outs) = (job.before + cost_of e ≤ job.limit) × RepresentsRun code job e
