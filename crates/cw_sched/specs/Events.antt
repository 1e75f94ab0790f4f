-- The effect of each event on a world.
use Rattle.std.specs.Prelude.{◌≡◌, ◌≢◌, ◌⊎◌, ℕ, ◌+◌, ◌<◌, ℤ, Result, Ok, Err, slice_get, List, [], length, Option, Some}
use Rattle.std.specs.Prelude.{None, true, false}
use Rattle.std.specs.Global.{Vec}
use Rattle.std.specs.Vec.{vec_len, vec_capacity}
use Rattle.cw_model.specs.declared.burden.Burden.{Burden}
use Rattle.cw_code.specs.Code.{code_view}
use Rattle.cw_runnable.specs.declared.verified.Verified.{Verified}
use Rattle.cw_jobs.specs.Jobs.{IsRoot}
use Rattle.cw_jobs.specs.Means.{IsMeaningOf}
use Rattle.cw_machine.specs.Runs.{RunsAsCode}
use Rattle.cw_jobs.specs.declared.effect.Effect.{Effect}
use Rattle.cw_jobs.specs.declared.job.Job.{Job}
use Rattle.cw_machine.specs.Answering.{IsAnswerOf}
use Rattle.cw_strand.specs.declared.strand.Mode.TheVariants as mode
use Rattle.cw_strand.specs.Holds.{its_job, its_end, IsGoing, IsWaiting, HasFailed}
use Rattle.cw_strand.specs.Losing.{cost_in, MayExceed, MayLose, TakesIn}
use Rattle.cw_strand.specs.Moves.{CountsIn}
use Rattle.cw_sched.specs.core.Board.{of_worker, pushed, newest, laid, without_newest, oldest}
use Rattle.cw_sched.specs.declared.board.Offer.{Offer}
use Rattle.cw_sched.specs.declared.event.Refused.{Refused}
use Rattle.cw_sched.specs.declared.event.Event.{Event}
use Rattle.cw_sched.specs.declared.event.Event.TheVariants as event
use Rattle.cw_sched.specs.declared.post.Out.{Out}
use Rattle.cw_sched.specs.declared.post.Out.TheVariants as out
use Rattle.cw_sched.specs.declared.post.WorkerFrame.{WorkerFrame}
use Rattle.cw_sched.specs.declared.world.Begun.{Begun}
use Rattle.cw_sched.specs.Boards.{Boarded, offered, retaken, stolen, settled, collected, cell_of, newest_number}
use Rattle.cw_sched.specs.Boards.{IsCellAt}
use Rattle.cw_sched.specs.Exceeding.{Exceeds}
use Rattle.cw_sched.specs.Lacking.{lacks_memory, HasEnded}
use Rattle.cw_sched.specs.Scenes.{posted, stacks, FrameView, Stage, Goes, Made, Answered, Scene, top}
use Rattle.cw_sched.specs.Sound.{IsStage}

-- the newest entry of a worker is popped, and another one pushed
abbrev pub but_top : List (List Stage) → (w : ℕ) → List (List Stage)
but_top begun w = without_newest begun w

abbrev pub with_top : List (List Stage) → (w : ℕ) → Stage → List (List Stage)
with_top begun w x = laid begun w x

-- w's newest strand becomes this stage, and the board becomes this one
abbrev pub turned : Scene → (w : ℕ) → Stage → Boarded → Scene
turned s w x board =
    record { jobs = s.jobs; begun = with_top (but_top s.begun w) w x; board = board }

-- a strand of the same job goes on, with these jobs out; or it has ended, and none was out: the root, which has number
-- 0, with the answer of the run, another one with its effect
abbrev pub GoesOn : FrameView → (outs : List Out) → Stage → Type 0
GoesOn p outs (Goes q) =
    (q.number ≡ p.number) × (its_job q.strand ≡ its_job p.strand) × (q.outs ≡ outs)
GoesOn p outs (Made n e) = (n ≡ p.number) × (p.number ≢ 0) × (outs ≡ [])
GoesOn p outs (Answered r) = (p.number ≡ 0) × (outs ≡ [])

-- and the new stage is right for these jobs
abbrev pub ComesTo : Verified → List Job → FrameView → (outs : List Out) → Stage → Type 0
ComesTo v jobs p outs x = GoesOn p outs x × IsStage v jobs x

-- w's newest strand
pub record AtFrame (s : Scene) (w : ℕ) : Type 0 where
  pub post : FrameView
  pub is : top s w ≡ Some (Goes post)

-- w's newest strand has this newest job out
pub record AtOut (s : Scene) (w : ℕ) : Type 0 where
  pub at : AtFrame s w
  pub older : List Out
  pub newest : Out
  pub are : at.post.outs ≡ pushed older newest

-- THE NUMBER OF INSTRUCTIONS THAT THE STRAND OF A JOB HAS EXECUTED when it becomes this stage. If the root has ended,
-- an effect that means its job states the number, and the run answers that effect
abbrev pub Counts : Job → Stage → (n : ℕ) → Type 0
Counts job (Goes p) n = p.strand.count ≡ n
Counts job (Made k e) n = CountsIn e n
Counts job (Answered r) n = (e : Effect) × IsMeaningOf job e × IsAnswerOf e r × CountsIn e n

-- a strand goes on, and its limit leaves it an instruction
abbrev pub IsBelowLimit : (old : FrameView) → Type 0
IsBelowLimit p = IsGoing p.strand × (p.strand.count < its_end p.strand)

-- RUN: one instruction, by which a strand goes on or ends, or none if its limit leaves none. It exceeds its limit only if
-- the limit leaves none, and lacks memory only if the limit leaves one
pub record Runs (v : Verified) (s s' : Scene) (w : ℕ) : Type 0 where
  pub at : AtFrame s w
  pub stage : Stage
  pub comes : ComesTo v s.jobs at.post at.post.outs stage
  pub one : Counts (its_job at.post.strand) stage (at.post.strand.count + 1)
      ⊎ ((at.post.strand.count ≡ its_end at.post.strand)
      × Counts (its_job at.post.strand) stage at.post.strand.count)
  pub over : Exceeds stage → at.post.strand.count ≡ its_end at.post.strand
  pub lacks : lacks_memory stage ≡ true → IsBelowLimit at.post
  pub is : s' ≡ turned s w stage s.board

-- or a spawn, whose continuation gets the next number
pub record Spawns (v : Verified) (s s' : Scene) (w : ℕ) : Type 0 where
  pub at : AtFrame s w
  pub job : Job
  pub post : FrameView
  pub comes : ComesTo v (pushed s.jobs job) at.post
      (pushed at.post.outs (out.Undecided (length s.jobs) job)) (Goes post)
  pub goes : IsGoing post.strand
  pub one : post.strand.count ≡ at.post.strand.count + 1
  pub is : s' ≡ record {
    jobs = pushed s.jobs job;
    begun = with_top (but_top s.begun w) w (Goes post);
    board = s.board;
  }

-- the same strand with other jobs in its list
abbrev pub with_outs : FrameView → List Out → Stage
with_outs p outs =
    Goes (record { number = p.number; strand = p.strand; at_join = p.at_join; outs = outs })

-- OFFER: the newest job out goes to the back of the deque
pub record Offers (s s' : Scene) (w : ℕ) : Type 0 where
  pub at : AtOut s w
  pub number : ℕ
  pub job : Job
  pub newest : at.newest ≡ out.Undecided number job
  pub is : s' ≡ turned s w (with_outs at.at.post (pushed at.older (out.Offered number)))
      (offered s.board w (record { number = number; job = job }))

-- INLINE: the newest job out is kept
pub record Inlines (s s' : Scene) (w : ℕ) : Type 0 where
  pub at : AtOut s w
  pub number : ℕ
  pub job : Job
  pub newest : at.newest ≡ out.Undecided number job
  pub is : s' ≡ turned s w (with_outs at.at.post (pushed at.older (out.Kept number job))) s.board

-- a job that was offered is popped from the back of the deque
abbrev pub board_without : Boarded → (w : ℕ) → Out → Boarded
board_without b w (out.Offered n) = retaken b w
board_without b w _ = b

-- and it was there
abbrev pub IsAtBack : Boarded → (w : ℕ) → Out → Type 0
IsAtBack b w (out.Offered n) = newest_number b w ≡ Some n
IsAtBack b w _ = Unit {0}

-- this job was there, or was kept
abbrev pub IsBack : Boarded → (w : ℕ) → Out → Job → Type 0
IsBack b w (out.Offered n) job =
    newest (of_worker b.offers w) ≡ Some (record { number = n; job = job })
IsBack b w (out.Kept n kept) job = kept ≡ job
IsBack b w (out.Undecided n kept) job = ⊥

-- RETAKE: the strand has its newest job back, and has executed nothing more. It has exceeded its limit only if it had
-- before, and lacks memory only if it did before, or waited and has come to its end
pub record Retakes (v : Verified) (s s' : Scene) (w : ℕ) : Type 0 where
  pub at : AtOut s w
  pub back : IsAtBack s.board w at.newest
  pub stage : Stage
  pub comes : ComesTo v s.jobs at.at.post at.older stage
  pub none : Counts (its_job at.at.post.strand) stage at.at.post.strand.count
  pub over : Exceeds stage → at.at.post.strand.mode ≡ mode.Over
  pub lacks : lacks_memory stage ≡ true
      → HasFailed at.at.post.strand ⊎ (IsWaiting at.at.post.strand × HasEnded stage)
  pub is : s' ≡ turned s w stage (board_without s.board w at.newest)

-- STEAL: a strand begins the oldest job of a deque, and has executed nothing. It has not exceeded its limit, and lacks
-- memory only if it has come to its end
pub record Steals (v : Verified) (s s' : Scene) (w victim : ℕ) : Type 0 where
  pub there : w < length s.begun
  pub offer : Offer
  pub oldest_is : oldest (of_worker s.board.offers victim) ≡ Some offer
  pub stage : Stage
  pub post : FrameView
  pub begins : (post.number ≡ offer.number) × (its_job post.strand ≡ offer.job) × (post.outs ≡ [])
  pub comes : ComesTo v s.jobs post [] stage
  pub none : Counts (its_job post.strand) stage 0
  pub over : Exceeds stage → ⊥
  pub lacks : lacks_memory stage ≡ true → HasEnded stage
  pub is : s' ≡ record {
    jobs = s.jobs;
    begun = with_top s.begun w stage;
    board = stolen s.board victim;
  }

-- SETTLE: the effect goes to its cell
pub record Settles (s s' : Scene) (w : ℕ) : Type 0 where
  pub number : ℕ
  pub effect : Effect
  pub made : top s w ≡ Some (Made number effect)
  pub is : s' ≡ record {
    jobs = s.jobs;
    begun = but_top s.begun w;
    board = settled s.board (record { number = number; effect = effect });
  }

-- COLLECT: the strand receives the effect. It has executed nothing more; it counts the instructions of the effect if it
-- takes it in. It exceeds its limit, or lacks memory, only if the effect may do that
pub record Collects (v : Verified) (s s' : Scene) (w : ℕ) : Type 0 where
  pub at : AtOut s w
  pub number : ℕ
  pub newest : at.newest ≡ out.Offered number
  pub place : ℕ
  pub waits : cell_of s.board number ≡ Some place
  pub effect : Effect
  pub cell : IsCellAt s.board place number effect
  pub stage : Stage
  pub comes : ComesTo v s.jobs at.at.post at.older stage
  pub counts : Counts (its_job at.at.post.strand) stage at.at.post.strand.count
      ⊎ (TakesIn at.at.post.strand effect
      × Counts (its_job at.at.post.strand) stage (at.at.post.strand.count + cost_in effect))
  pub over : Exceeds stage → MayExceed at.at.post.strand effect
  pub lacks : lacks_memory stage ≡ true → MayLose at.at.post.strand effect
  pub is : s' ≡ turned s w stage (collected s.board place)

-- THE EFFECT OF AN EVENT on a world of this code
abbrev pub Does : Verified → Event → Scene → Scene → Type 0
Does v (event.Run w) s s' = Runs v s s' w ⊎ Spawns v s s' w
Does v (event.Offer w) s s' = Offers s s' w
Does v (event.Inline w) s s' = Inlines s s' w
Does v (event.Retake w) s s' = Retakes v s s' w
Does v (event.Steal w victim) s s' = Steals v s s' w victim
Does v (event.Settle w) s s' = Settles s s' w
Does v (event.Collect w) s s' = Collects v s s' w

-- the event happens, or it is refused and changes nothing
abbrev pub DoesOr : Verified → Event → Result (Unit {0}) Refused → Scene → Scene → Type 0
DoesOr v event (Ok x) s s' = Does v event s s'
DoesOr v event (Err e) s s' = s' ≡ s

-- a worker's list has room for one more
abbrev pub HasRoomIn : Vec (Vec Begun) → (w : ℕ) → Type 0
HasRoomIn begun w =
    (v : Vec Begun) × (slice_get begun.items w ≡ Some v) × (vec_len v < vec_capacity v)

-- a post that goes on, or the effect by which it ended; for the root, the answer of the run
abbrev pub IsBegun : Verified → FrameView → Option Effect → Stage → Type 0
IsBegun v p None x = x ≡ Goes p
IsBegun v p (Some e) (Goes q) = ⊥
IsBegun v p (Some e) (Made n d) = (n ≡ p.number) × (p.number ≢ 0) × (d ≡ e)
IsBegun v p (Some e) (Answered r) =
    (p.number ≡ 0)
    × IsAnswerOf e r
    × ((args : List ℤ) (n : ℕ) (burden : Burden) (root : Job)
    → IsRoot v args n burden root.parts.value → IsMeaningOf root e → RunsAsCode (code_view v.code) args n burden r)

-- it is pushed to the list of a worker
pub record Turns (v : Verified) (p : FrameView) (ended : Option Effect) (old : List (List Stage))
    (w : ℕ) (new : List (List Stage)) : Type 0 where
  pub stage : Stage
  pub begun : IsBegun v p ended stage
  pub is : new ≡ with_top old w stage

-- a post, or the effect by which it ended, was pushed to the list of a worker
abbrev pub HasTurned : Verified → WorkerFrame → Option Effect → (old : Vec (Vec Begun)) → (w : ℕ)
    → (new : Vec (Vec Begun)) → Type 0
HasTurned v p ended old w new = Turns v (posted p) ended (stacks old) w (stacks new)
