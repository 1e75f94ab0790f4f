-- Lack of memory in a world.
use Rattle.std.specs.Prelude.{◌≡◌, ◌⊎◌, ℕ, Bool, true, false, Option, Some, None, Result, Err, slice_get}
use Rattle.cw_text.specs.declared.fault.Fault.{Fault}
use Rattle.cw_text.specs.declared.fault.Fault.TheVariants as fault
use Rattle.cw_jobs.specs.declared.effect.Effect.{Effect}
use Rattle.cw_jobs.specs.declared.effect.Effect.TheVariants as effect
use Rattle.cw_machine.specs.declared.alone.Ended as alone
use Rattle.cw_strand.specs.declared.strand.Strand.{Strand}
use Rattle.cw_strand.specs.Holds.{has_failed, IsGoing, IsWaiting, HasFailed}
use Rattle.cw_strand.specs.Losing.{TakesIn}
use Rattle.cw_sched.specs.declared.board.Cell.{Cell}
use Rattle.cw_sched.specs.declared.event.Event.{Event}
use Rattle.cw_sched.specs.declared.event.Event.TheVariants as event
use Rattle.cw_sched.specs.Boards.{Each}
use Rattle.cw_sched.specs.Scenes.{FrameView, Stage, Goes, Made, Answered, Scene, top}

-- an effect says that memory was lacking, or that its job was given up; a run answers so
abbrev pub is_memory : Effect → Bool
is_memory (effect.Memory back) = true
is_memory (effect.GivenUp back) = true
is_memory _ = false

abbrev pub answers_memory : Result alone.Ended Fault → Bool
answers_memory (Err fault.Memory) = true
answers_memory _ = false

-- it has stopped for lack of memory or was given up, or ended so
abbrev pub lacks_memory : Stage → Bool
lacks_memory (Goes p) = has_failed p.strand.mode
lacks_memory (Made n e) = is_memory e
lacks_memory (Answered r) = answers_memory r

-- NO MEMORY WAS LACKING IN A WORLD, and nothing was given up: in no strand, no effect and no answer
abbrev pub LacksNone : Scene → Type 0
LacksNone s = Each (Each (λ x. lacks_memory x ≡ false)) s.begun × Each (λ c. is_memory c.effect ≡ false) s.board.cells

-- it has ended
abbrev pub HasEnded : Stage → Type 0
HasEnded (Goes p) = ⊥
HasEnded _ = Unit {0}

-- effects for which memory may be answered: an effect that says that memory was lacking or that its job was given up,
-- and the effect of a whole call, whose answer needs memory
abbrev pub IsAnsweredMemory : Effect → Type 0
IsAnsweredMemory (effect.Ended value shown) = Unit {0}
IsAnsweredMemory (effect.Memory back) = Unit {0}
IsAnsweredMemory (effect.GivenUp back) = Unit {0}
IsAnsweredMemory _ = ⊥

-- a strand that goes on in this state, or has ended with this effect, may have lacked memory
abbrev pub LacksAfter : Option Effect → Strand → Type 0
LacksAfter None self = HasFailed self
LacksAfter (Some e) self = IsAnsweredMemory e

-- the newest entry of a worker, which was a strand, lacks memory now
pub record Loses (s s' : Scene) (w : ℕ) : Type 0 where
  pub post : FrameView
  pub was : top s w ≡ Some (Goes post)
  pub stage : Stage
  pub is : top s' w ≡ Some stage
  pub lacks : lacks_memory stage ≡ true

-- MEMORY IS LACKING BY AN EVENT: by Run, in a strand that goes on; by Collect, if the strand takes in what the
-- continuation has shown; by Retake or Steal, at the join of a strand that they end. By no other event
abbrev pub LacksBy : Event → (s s' : Scene) → Type 0
LacksBy (event.Run w) s s' = (l : Loses s s' w) × IsGoing l.post.strand
LacksBy (event.Offer w) s s' = ⊥
LacksBy (event.Inline w) s s' = ⊥
LacksBy (event.Retake w) s s' = (l : Loses s s' w) × IsWaiting l.post.strand × HasEnded l.stage
LacksBy (event.Steal w victim) s s' =
    (x : Stage) × (top s' w ≡ Some x) × (lacks_memory x ≡ true) × HasEnded x
LacksBy (event.Settle w) s s' = ⊥
LacksBy (event.Collect w) s s' =
    (l : Loses s s' w) × (place : ℕ) × (c : Cell) × (slice_get s.board.cells place ≡ Some c)
    × TakesIn l.post.strand c.effect

-- if no memory was lacking before an event, none is lacking after it, or it is lacking by the event
abbrev pub PreservesMemory : Event → (s s' : Scene) → Type 0
PreservesMemory event s s' = LacksNone s → LacksNone s' ⊎ LacksBy event s s'
