-- The events that may need memory for the lists of their world.
use Rattle.std.specs.Prelude.{◌≡◌, ◌⊎◌, ℕ, Some, slice_get}
use Rattle.std.specs.Global.{Vec}
use Rattle.cw_sched.specs.core.Board.{newest}
use Rattle.cw_sched.specs.declared.event.Event.{Event}
use Rattle.cw_sched.specs.declared.event.Event.TheVariants as event
use Rattle.cw_sched.specs.declared.post.WorkerFrame.{WorkerFrame}
use Rattle.cw_sched.specs.declared.world.Begun.{Begun}
use Rattle.cw_sched.specs.declared.world.Begun.TheVariants as begun
use Rattle.cw_sched.specs.declared.world.World.{World}
use Rattle.cw_sched.specs.Boards.{IsFull, IsDequeFull}

-- the newest entry of a worker is this post
pub record IsLastFrame (lists : Vec (Vec Begun)) (w : ℕ) (p : WorkerFrame) : Type 0 where
  pub stack : Vec Begun
  pub there : slice_get lists.items w ≡ Some stack
  pub last : newest stack.items ≡ Some (begun.Goes p)

-- it has no room in its list for one more job out
pub record IsLastFull (lists : Vec (Vec Begun)) (w : ℕ) : Type 0 where
  pub post : WorkerFrame
  pub last : IsLastFrame lists w post
  pub full : IsFull post.outs

-- AN EVENT MAY NEED MEMORY only if a list that it may add to has no room for one more: Run, for the jobs by number or
-- for the jobs that the strand has out; Offer, for the deque; Settle, for the cells. Steal may need it at any time,
-- for the new strand. Inline, Retake and Collect need none
abbrev pub MayNeedMemory : World → Event → Type 0
MayNeedMemory w (event.Run k) = IsFull w.jobs ⊎ IsLastFull w.begun k
MayNeedMemory w (event.Offer k) = IsDequeFull w.board k
MayNeedMemory w (event.Inline k) = ⊥
MayNeedMemory w (event.Retake k) = ⊥
MayNeedMemory w (event.Steal k v) = Unit {0}
MayNeedMemory w (event.Settle k) = IsFull w.board.cells
MayNeedMemory w (event.Collect k) = ⊥
