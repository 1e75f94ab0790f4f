-- Worlds, and how they begin.
use Rattle.std.specs.Prelude.{◌≡◌, ◌⊎◌, ℕ, ◌-◌, ◌<◌, ◌≤◌, ◌↔◌, ℤ, Bool, true, false, List, [], ◌∷◌, Option, Some, None}
use Rattle.std.specs.Prelude.{Result, Err, MatchResult, IfSome, replicate}
use Rattle.std.specs.Arc.{arc_value}
use Rattle.cw_model.specs.declared.burden.Burden.{Burden}
use Rattle.cw_text.specs.declared.fault.Fault.{Fault}
use Rattle.cw_text.specs.declared.fault.Fault.TheVariants as fault
use Rattle.cw_code.specs.Code.{Code, code_view}
use Rattle.cw_runnable.specs.declared.verified.Verified.{Verified}
use Rattle.cw_jobs.specs.Jobs.{is_request}
use Rattle.cw_machine.specs.declared.alone.Ended as alone
use Rattle.cw_machine.specs.Runs.{RunsAsCode}
use Rattle.cw_strand.specs.Holds.{IsGoing}
use Rattle.cw_sched.specs.core.Board.{of_worker, oldest}
use Rattle.cw_sched.specs.declared.event.Event.{Event}
use Rattle.cw_sched.specs.declared.event.Refused.{Refused}
use Rattle.cw_sched.specs.declared.event.Refused.TheVariants as refused
use Rattle.cw_sched.specs.declared.world.World.{World}
use Rattle.cw_model.specs.declared.limits.TheConstants.{MOST_WORKERS}
use Rattle.cw_sched.specs.Boards.{opened}
use Rattle.cw_sched.specs.Scenes.{FrameView, Stage, Goes, Answered, Scene, scene}
use Rattle.cw_sched.specs.Sound.{Sound, IsRunOf}
use Rattle.cw_sched.specs.Places.{OnePlace, RootIsFirst}
use Rattle.cw_sched.specs.Events.{Does, DoesOr}
use Rattle.cw_sched.specs.Table.{is_possible}
use Rattle.cw_sched.specs.Lacking.{PreservesMemory, LacksNone, LacksBy}
use Rattle.cw_sched.specs.MemoryNeeds.{MayNeedMemory}
use Rattle.cw_sched.specs.Copied.{IsOptionCopy}

-- THE INVARIANT OF EACH WORLD: its strands, jobs and effects are right, each job is in one place, and the root is with
-- worker 0
pub record IsSound (w : World) : Type 0 where
  pub right : Sound (arc_value w.code) (scene w)
  pub places : OnePlace (scene w)
  pub first : RootIsFirst (scene w)

-- A WORLD OF THE RUN OF THIS CODE on these arguments, within this limit, with this burden
pub record IsWorldOf (v : Verified) (args : List ℤ) (n : ℕ) (burden : Burden) (w : World)
    : Type 0 where
  pub sound : IsSound w
  pub code_is : arc_value w.code ≡ v
  pub run : IsRunOf v args n burden (scene w).jobs

-- the root has ended
abbrev pub is_answered : Option Stage → Bool
is_answered (Some (Answered r)) = true
is_answered _ = false

abbrev pub answer_in : Option Stage → Option (Result alone.Ended Fault)
answer_in (Some (Answered r)) = Some r
answer_in _ = None

abbrev pub has_ended : Scene → Bool
has_ended s = is_answered (oldest (of_worker s.begun 0))

-- the answer of the run, once the root has ended
abbrev pub answer_of : Scene → Option (Result alone.Ended Fault)
answer_of s = answer_in (oldest (of_worker s.begun 0))

-- the answer does not change once it is there
abbrev pub KeepsAnswer : (old new : Scene) → Type 0
KeepsAnswer old new =
    (a : Result alone.Ended Fault) → answer_of old ≡ Some a → answer_of new ≡ Some a

-- this many workers that have begun nothing
abbrev pub idle : (others : ℕ) → List (List Stage)
idle others = replicate others []

-- a new world: worker 0 has begun the root and executed nothing, all others are idle, and nothing is offered
pub record IsStarted (v : Verified) (args : List ℤ) (n : ℕ) (burden : Burden) (workers : ℕ)
    (w : World) : Type 0 where
  pub is : IsWorldOf v args n burden w
  pub post : FrameView
  pub root : (post.number ≡ 0) × (post.outs ≡ [])
  pub goes : IsGoing post.strand
  pub none : post.strand.count ≡ 0
  pub begun : (scene w).begun ≡ (Goes post ∷ []) ∷ idle (workers - 1)
  pub board : (scene w).board ≡ opened workers

-- why there is no world: the request is out of range, or memory ran out
abbrev pub IsNotStarted : Code → List ℤ → (n : ℕ) → Burden → (workers : ℕ) → Fault → Type 0
IsNotStarted code args n burden workers fault.Arguments =
    (workers ≡ 0) ⊎ (MOST_WORKERS < workers) ⊎ (is_request code args n burden ≡ false)
IsNotStarted code args n burden workers fault.Memory =
    (0 < workers) × (workers ≤ MOST_WORKERS) × (is_request code args n burden ≡ true)
IsNotStarted code args n burden workers _ = ⊥

-- a world begins, or there is none
abbrev pub Starts : Verified → List ℤ → (n : ℕ) → Burden → (workers : ℕ) → Result World Fault
    → Type 0
Starts v args n burden workers r =
    MatchResult r (IsStarted v args n burden workers)
    (IsNotStarted (code_view v.code) args n burden workers)

-- the answer of a world, if there is one, is what the code gives, or memory, for any run that the world is a world of
abbrev pub AnswersAsCode : World → Option (Result alone.Ended Fault) → Type 0
AnswersAsCode w r =
    (v : Verified) (args : List ℤ) (n : ℕ) (burden : Burden) → IsWorldOf v args n burden w
    → IfSome r (RunsAsCode (code_view v.code) args n burden)

-- a world after an event: the event was done, or it was refused and nothing has changed
abbrev pub Happens : (old : World) → Event → Result (Unit {0}) Refused → (new : World) → Type 0
Happens old event r new = DoesOr (arc_value old.code) event r (scene old) (scene new)

-- the event was done
abbrev pub HasHappened : (old : World) → Event → (new : World) → Type 0
HasHappened old event new = Does (arc_value old.code) event (scene old) (scene new)

-- it is refused because it is not possible
abbrev pub IsNotNow : Result (Unit {0}) Refused → Type 0
IsNotNow r = r ≡ Err refused.NotNow

-- it is refused for lack of memory
abbrev pub IsForMemory : Result (Unit {0}) Refused → Type 0
IsForMemory r = r ≡ Err refused.Memory

-- an event was tried: it was done; or nothing has changed, if and only if it is not possible, or for lack of memory,
-- only if it may need any
pub record Tries (old : World) (event : Event) (new : World) : Type 0 where
  pub answer : Result (Unit {0}) Refused
  pub happens : Happens old event answer new
  pub not_now : IsNotNow answer ↔ (is_possible (scene old) event ≡ false)
  pub wants : IsForMemory answer → MayNeedMemory old event
  pub memory : PreservesMemory event (scene old) (scene new)

-- EVENTS, IN ORDER, lead from a world to another one
abbrev pub Leads : List Event → (old new : World) → Type 0
Leads [] old new = new ≡ old
Leads (event ∷ events) old new = (mid : World) × Tries old event mid × Leads events mid new

-- AND MEMORY IS LACKING BY ONE OF THEM, before which none was lacking
abbrev pub LeadsToLack : List Event → (old new : World) → Type 0
LeadsToLack [] old new = ⊥
LeadsToLack (event ∷ events) old new =
    (mid : World) × Tries old event mid
    × ((LacksNone (scene old) × LacksBy event (scene old) (scene mid) × Leads events mid new)
    ⊎ LeadsToLack events mid new)

-- the outcome of a list of events: they lead from a new world to a last one, whose answer, if there is one, is what
-- the code gives, or memory; and the answer is memory only if memory was lacking by one of the events
pub record Played (v : Verified) (args : List ℤ) (n : ℕ) (burden : Burden) (workers : ℕ)
    (events : List Event) (outcome : Option (Result alone.Ended Fault)) : Type 0 where
  pub first : World
  pub started : IsStarted v args n burden workers first
  pub last : World
  pub leads : Leads events first last
  pub copy : IsOptionCopy (answer_of (scene last)) outcome
  pub memory : answer_of (scene last) ≡ Some (Err fault.Memory) → LeadsToLack events first last
  pub serial : IfSome outcome (RunsAsCode (code_view v.code) args n burden)

-- that is the outcome; or there is no world
abbrev pub Plays : Verified → List ℤ → (n : ℕ) → Burden → (workers : ℕ) → List Event
    → Result (Option (Result alone.Ended Fault)) Fault → Type 0
Plays v args n burden workers events r =
    MatchResult r (Played v args n burden workers events)
    (IsNotStarted (code_view v.code) args n burden workers)
