-- What a post becomes.
use Rattle.std.specs.Prelude.{◌≡◌, ◌≢◌, ◌⊎◌, ℕ, ◌+◌, ◌<◌, true, false, List, [], ◌∷◌, length, Option, Some, None, Result}
use Rattle.std.specs.Prelude.{Ok, Err}
use Rattle.std.specs.Global.{Vec}
use Rattle.std.specs.Vec.{vec_len, vec_capacity}
use Rattle.std.specs.declared.alloc.AllocError.{AllocError}
use Rattle.std.specs.declared.snapshot.Snapshot.{Snapshot}
use Rattle.cw_jobs.specs.declared.call.Extent.TheVariants as extent
use Rattle.cw_jobs.specs.declared.effect.Effect.{Effect}
use Rattle.cw_jobs.specs.declared.job.Job.{Job}
use Rattle.cw_jobs.specs.Means.{IsMeaningOf}
use Rattle.cw_strand.specs.declared.strand.Strand.{Strand}
use Rattle.cw_strand.specs.Losing.{cost_in, TakesIn}
use Rattle.cw_strand.specs.Moves.{CountsIn, IsBefore, IsUnended}
use Rattle.cw_strand.specs.Holds.{its_job, its_end, outs, IsRunning, IsGoing, IsWaiting, IsAtSync, HasStopped}
use Rattle.cw_sched.specs.core.Board.{pushed}
use Rattle.cw_sched.specs.declared.post.Out.{Out}
use Rattle.cw_sched.specs.declared.post.Out.TheVariants as out
use Rattle.cw_sched.specs.declared.post.WorkerFrame.{WorkerFrame}
use Rattle.cw_sched.specs.Scenes.{jobs_of, posted, FrameView}

-- it begins this job, with nothing out
pub record Begins (number : ℕ) (job : Job) (p : WorkerFrame) : Type 0 where
  pub numbered : p.number ≡ number
  pub of : its_job p.strand ≡ job
  pub running : IsRunning p.strand
  pub none : outs p.strand ≡ []
  pub outs_are : p.outs.items ≡ []
  pub goes : p.at_join ≡ false
  pub fresh : IsGoing p.strand
  pub count : p.strand.count ≡ 0
  pub whole : job.parts.value.extent ≡ extent.WholeCall → IsBefore p.strand

-- it is at a join if and only if its strand does not go on, and then it has jobs out; a strand with nothing out has
-- not come to its end
abbrev pub AgreesWithJoin : FrameView → Type 0
AgreesWithJoin p =
    (p.at_join ≡ true → IsAtSync p.strand × (p.outs ≢ []))
    × (p.at_join ≡ false → IsGoing p.strand)
    × IsUnended p.strand

-- the same job goes on; its list has these jobs, and its strand has these jobs out
pub record Stays (old new : FrameView) (list : List Out) (left : List Job) : Type 0 where
  pub numbered : new.number ≡ old.number
  pub of : its_job new.strand ≡ its_job old.strand
  pub running : IsRunning new.strand
  pub outs_are : new.outs ≡ list
  pub left_are : outs new.strand ≡ left
  pub stands : AgreesWithJoin new

-- it goes on, or it has ended, with an effect that means its job, and nothing was out
abbrev pub Comes : Option Effect → (old new : FrameView) → (left : List Job) → Type 0
Comes None old new left = Stays old new old.outs left
Comes (Some e) old new left =
    (new.number ≡ old.number) × IsMeaningOf (its_job old.strand) e × (old.outs ≡ [])

-- there is room for one more
abbrev pub HasRoom : {A : Type 0} → Vec A → Type 0
HasRoom v = vec_len v < vec_capacity v

-- its list is as long as the list of jobs that its strand has out
abbrev pub IsEven : WorkerFrame → Type 0
IsEven p = length p.outs.items ≡ length (outs p.strand)

-- this is the newest job out, and the only one that is not in its list
pub record Lacks (p : WorkerFrame) (job : Job) : Type 0 where
  pub others : List Job
  pub are : outs p.strand ≡ job ∷ others
  pub even : length p.outs.items ≡ length others

-- for some job
abbrev pub LacksOne : WorkerFrame → Type 0
LacksOne p = (job : Job) × Lacks p job

-- it goes on, with one more job out, which has the next number
pub record HandsOut (old new : FrameView) (jobs jobs' : List Job) : Type 0 where
  pub job : Job
  pub stays : Stays old new
      (pushed old.outs (out.Undecided (length jobs) job)) (job ∷ outs old.strand)
  pub jobs_are : jobs' ≡ pushed jobs job
  pub goes : IsGoing new.strand
  pub one : new.strand.count ≡ old.strand.count + 1

-- a strand has executed this many instructions, or the effect by which it ended states this many
abbrev pub HasDone : Option Effect → Strand → (n : ℕ) → Type 0
HasDone None self n = self.count ≡ n
HasDone (Some e) self n = CountsIn e n

-- and no more than before it received an effect, except the instructions of that effect, if the strand takes it in
abbrev pub HasDoneWith : Option Effect → Effect → (old new : Strand) → Type 0
HasDoneWith ended e old new =
    HasDone ended new old.count ⊎ (TakesIn old e × HasDone ended new (old.count + cost_in e))

-- ONE MORE INSTRUCTION; or none, if the strand has executed as many as it may
abbrev pub DoesOneMore : Option Effect → (old new : Strand) → Type 0
DoesOneMore ended old new =
    HasDone ended new (old.count + 1) ⊎ ((old.count ≡ its_end old) × HasDone ended new old.count)

-- one instruction: it goes on, has handed out a job, or has ended; or memory was lacking, and nothing has changed
abbrev pub Steps : Result (Option Effect) AllocError → (old new : FrameView) (jobs jobs' : List Job)
    → Type 0
Steps (Err e) old new jobs jobs' = (new ≡ old) × (jobs' ≡ jobs)
Steps (Ok None) old new jobs jobs' =
    (Stays old new old.outs (outs old.strand) × (jobs' ≡ jobs) × DoesOneMore None old.strand new.strand)
    ⊎ HandsOut old new jobs jobs'
Steps (Ok (Some e)) old new jobs jobs' =
    Comes (Some e) old new [] × (jobs' ≡ jobs) × DoesOneMore (Some e) old.strand new.strand

-- its list has one more job, at a spawn, with the next number
abbrev pub ListsNext : (old : WorkerFrame) → (jobs : List Job) → Job → (new : WorkerFrame) → Type 0
ListsNext old jobs job new =
    new.outs.items ≡ pushed old.outs.items (out.Undecided (length jobs) job)

-- one instruction of a post, with the jobs by number
abbrev pub HasStepped : Result (Option Effect) AllocError → (old new : WorkerFrame)
    → (jobs jobs' : Vec (Snapshot Job)) → Type 0
HasStepped r old new jobs jobs' = Steps r (posted old) (posted new) (jobs_of jobs) (jobs_of jobs')

-- its newest job, this one, came back: it goes on without the job, or has ended
abbrev pub ComesBack : Option Effect → (old : WorkerFrame) → Job → (new : WorkerFrame) → Type 0
ComesBack ended old job new =
    (others : List Job) → outs old.strand ≡ job ∷ others
    → Comes ended (posted old) (posted new) others

-- a strand whose newest job came back goes on if it waited; a strand that has stopped stays so
abbrev pub IsBackIn : (old new : Strand) → Type 0
IsBackIn old new = (IsWaiting old × IsGoing new) ⊎ (HasStopped old × (new.mode ≡ old.mode))
