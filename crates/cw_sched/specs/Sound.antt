-- The invariant of worlds.
use Rattle.std.specs.Prelude.{◌≡◌, ℕ, ℤ, List, length, map, reverse, Some, Result, slice_get}
use Rattle.cw_model.specs.declared.burden.Burden.{Burden}
use Rattle.cw_text.specs.declared.fault.Fault.{Fault}
use Rattle.cw_code.specs.Code.{code_view}
use Rattle.cw_runnable.specs.declared.verified.Verified.{Verified}
use Rattle.cw_jobs.specs.declared.effect.Effect.{Effect}
use Rattle.cw_jobs.specs.declared.job.Job.{Job}
use Rattle.cw_jobs.specs.Jobs.{IsRoot}
use Rattle.cw_jobs.specs.Means.{IsMeaningOf}
use Rattle.cw_machine.specs.declared.alone.Ended as alone
use Rattle.cw_machine.specs.Runs.{RunsAsCode}
use Rattle.cw_strand.specs.Holds.{its_job, outs, IsRunning}
use Rattle.cw_sched.specs.declared.board.Offer.{Offer}
use Rattle.cw_sched.specs.declared.board.Cell.{Cell}
use Rattle.cw_sched.specs.declared.post.Out.{Out}
use Rattle.cw_sched.specs.declared.post.Out.TheVariants as out
use Rattle.cw_sched.specs.Boards.{Each}
use Rattle.cw_sched.specs.WorkerFrames.{AgreesWithJoin}
use Rattle.cw_sched.specs.Scenes.{FrameView, Stage, Goes, Made, Answered, Scene}

-- this is the job of the number
abbrev pub IsJobOf : List Job → (n : ℕ) → Job → Type 0
IsJobOf jobs n job = slice_get jobs n ≡ Some job

abbrev pub out_number : Out → ℕ
out_number (out.Undecided n job) = n
out_number (out.Kept n job) = n
out_number (out.Offered n) = n

-- a job that is still with its strand's worker is the job of its number
abbrev pub IsOwn : List Job → Out → Type 0
IsOwn jobs (out.Undecided n job) = IsJobOf jobs n job
IsOwn jobs (out.Kept n job) = IsJobOf jobs n job
IsOwn jobs (out.Offered n) = Unit {0}

-- A STRAND OF THE JOB OF ITS NUMBER, WITH THE NUMBERS OF EXACTLY THE JOBS THAT IT HAS OUT
pub record Works (jobs : List Job) (p : FrameView) : Type 0 where
  pub running : IsRunning p.strand
  pub named : IsJobOf jobs p.number (its_job p.strand)
  pub lent : map (λ o. slice_get jobs (out_number o)) (reverse p.outs)
      ≡ map (λ j. Some j) (outs p.strand)
  pub own : Each (IsOwn jobs) p.outs
  pub stands : AgreesWithJoin p

-- AN EFFECT MEANS THE JOB OF ITS NUMBER
pub record IsMade (jobs : List Job) (n : ℕ) (e : Effect) : Type 0 where
  pub job : Job
  pub named : IsJobOf jobs n job
  pub means : IsMeaningOf job e

-- THE ANSWER OF THE ROOT IS WHAT THE CODE GIVES, for any run whose root it is
abbrev pub IsAnswer : Verified → List Job → Result alone.Ended Fault → Type 0
IsAnswer v jobs result =
    (args : List ℤ) (n : ℕ) (burden : Burden) (root : Job) → IsJobOf jobs 0 root
    → IsRoot v args n burden root.parts.value → RunsAsCode (code_view v.code) args n burden result

abbrev pub IsStage : Verified → List Job → Stage → Type 0
IsStage v jobs (Goes p) = Works jobs p
IsStage v jobs (Made n e) = IsMade jobs n e
IsStage v jobs (Answered r) = IsAnswer v jobs r

abbrev pub IsOffer : List Job → Offer → Type 0
IsOffer jobs o = IsJobOf jobs o.number o.job

abbrev pub IsCell : List Job → Cell → Type 0
IsCell jobs c = IsMade jobs c.number c.effect

-- number 0 is the job of some whole run of this code
pub record HasRoot (v : Verified) (jobs : List Job) : Type 0 where
  pub args : List ℤ
  pub limit : ℕ
  pub burden : Burden
  pub root : Job
  pub named : IsJobOf jobs 0 root
  pub is : IsRoot v args limit burden root.parts.value

-- THE INVARIANT OF EACH WORLD: what a worker has begun is a strand of its job or an effect that means the job, a job
-- in a deque is the job of its number, and an effect in a cell means the job of its number
pub record Sound (v : Verified) (s : Scene) : Type 0 where
  pub root : HasRoot v s.jobs
  pub begun : Each (Each (IsStage v s.jobs)) s.begun
  pub offers : Each (Each (IsOffer s.jobs)) s.board.offers
  pub cells : Each (IsCell s.jobs) s.board.cells
  pub workers : length s.board.offers ≡ length s.begun

-- number 0 is the job of a run on these arguments, within this limit, with this burden
abbrev pub IsRunOf : Verified → List ℤ → (n : ℕ) → Burden → List Job → Type 0
IsRunOf v args n burden jobs =
    (root : Job) × IsJobOf jobs 0 root × IsRoot v args n burden root.parts.value

-- the root stays
abbrev pub KeepsRuns : (old new : List Job) → Type 0
KeepsRuns old new = (root : Job) → IsJobOf old 0 root → IsJobOf new 0 root
