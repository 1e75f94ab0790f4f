-- The state of a world: everything but the capacities of its lists.
use Rattle.std.specs.Prelude.{ℕ, Bool, List, map, Option, Some, None, Result}
use Rattle.std.specs.Borrow.{Bor}
use Rattle.std.specs.Global.{Vec}
use Rattle.std.specs.declared.snapshot.Snapshot.{Snapshot}
use Rattle.cw_text.specs.declared.fault.Fault.{Fault}
use Rattle.cw_jobs.specs.declared.effect.Effect.{Effect}
use Rattle.cw_jobs.specs.declared.job.Job.{Job}
use Rattle.cw_machine.specs.declared.alone.Ended as alone
use Rattle.cw_strand.specs.declared.strand.Strand.{Strand}
use Rattle.cw_sched.specs.core.Board.{of_worker, newest}
use Rattle.cw_sched.specs.Boards.{Boarded, boarded}
use Rattle.cw_sched.specs.declared.post.Out.{Out}
use Rattle.cw_sched.specs.declared.post.WorkerFrame.{WorkerFrame}
use Rattle.cw_sched.specs.declared.world.Begun.{Begun}
use Rattle.cw_sched.specs.declared.world.Begun.TheVariants as begun
use Rattle.cw_sched.specs.declared.world.World.{World}

-- a strand that has not ended: the number of its job, whether it is at a join, and the jobs that it
-- has out, the newest last
pub record FrameView : Type 0 where
  pub number : ℕ
  pub strand : Strand
  pub at_join : Bool
  pub outs : List Out

-- what a worker has begun and not settled: a strand that has not ended; a stolen job that has, with its effect; or the
-- root, with the answer of the run
pub data Stage : Type 0 where
  Goes : FrameView → Stage
  Made : (number : ℕ) → Effect → Stage
  Answered : Result alone.Ended Fault → Stage

-- the jobs by number; what each worker has begun and not settled, the newest last; and the board
pub record Scene : Type 0 where
  pub jobs : List Job
  pub begun : List (List Stage)
  pub board : Boarded

abbrev pub posted : WorkerFrame → FrameView
posted p = record { number = p.number; strand = p.strand; at_join = p.at_join; outs = p.outs.items }

abbrev pub stage_of : Begun → Stage
stage_of (begun.Goes p) = Goes (posted p)
stage_of (begun.Made n e) = Made n e
stage_of (begun.Answered r) = Answered r

abbrev pub stages : Vec Begun → List Stage
stages stack = map stage_of stack.items

abbrev pub stacks : Vec (Vec Begun) → List (List Stage)
stacks begun = map stages begun.items

abbrev pub jobs_of : Vec (Snapshot Job) → List Job
jobs_of jobs = map (λ j. j.value) jobs.items

abbrev pub scene : World → Scene
scene w = record { jobs = jobs_of w.jobs; begun = stacks w.begun; board = boarded w.board }

-- the newest entry of a worker
abbrev pub top : Scene → (w : ℕ) → Option Stage
top s w = newest (of_worker s.begun w)

-- the value behind a reference
abbrev pub staged : Option (Bor Begun) → Option Stage
staged None = None
staged (Some b) = Some (stage_of b.now)

abbrev pub out_of : Option (Bor Out) → Option Out
out_of None = None
out_of (Some o) = Some o.now
