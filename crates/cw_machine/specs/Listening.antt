-- The record of a listener: each instruction that begins, ends or joins a part of the run is reported to it.
use Rattle.std.specs.Prelude.{◌≡◌, ◌<◌, ℕ, ◌+◌, ℤ, Bool, List, [], Option, Some}
use Rattle.cw_model.specs.declared.limits.TheConstants.{MOST_LIMIT}
use Rattle.cw_model.specs.Frames.{no_frame}
use Rattle.cw_model.specs.declared.total.Total.{Total}
use Rattle.cw_model.specs.Trees.{Mark, Invocation, Marked, Event, tree_of, normal}
use Rattle.cw_model.specs.Outcome.{Trace, Done, Trapped}
use Rattle.cw_model.specs.Answers.{Ended}
use Rattle.cw_measure.specs.OpenParts.{Open}
use Rattle.cw_meter.specs.Meters.{ticked, begun}
use Rattle.cw_greedy.specs.Origins.{Main}
use Rattle.cw_greedy.specs.Recording.{IsOpen}
use Rattle.cw_code.specs.Code.{Code, code_view}
use Rattle.cw_code.specs.Run.{State, Transition, step, steps, code_serial}
use Rattle.cw_jobs.specs.Totals.{HoldsTotals}
use Rattle.cw_jobs.specs.Opens.{whole}
use Rattle.cw_runnable.specs.declared.op.Op.{Op}
use Rattle.cw_runnable.specs.declared.verified.Verified.{Verified}
use Rattle.cw_machine.specs.declared.machine.Machine.{Machine}
use Rattle.cw_machine.specs.declared.machine.Moved.{Moved}
use Rattle.cw_machine.specs.declared.machine.Moved.TheVariants as moved
use Rattle.cw_machine.specs.Arrays.{IsFit, Ok, alone}
use Rattle.cw_machine.specs.RepresentsState.{RepresentsState, MayGo, Follows}
use Rattle.cw_machine.specs.Notifying.{opens_round, After, Tracks}

-- the record of a run so far, after this number of instructions: the open parts, and the events of the innermost one
abbrev pub RecordRelation : Type 0 → Type 1
RecordRelation W = ℕ → List Open → List Event → W → Type 0

-- an instruction takes what is recorded from one run so far to another
abbrev pub Goes : {W : Type 0} → RecordRelation W → (old new : W) → (count : ℕ) → (os os' : List Open) → (es es' : List Event)
    → Type 0
Goes keeps old new count os os' es es' =
    count < MOST_LIMIT → IsOpen Main os → keeps count os es old → keeps (count + 1) os' es' new

-- a part begins; or an instruction begins, ends and joins nothing
abbrev pub Begins : {W : Type 0} → RecordRelation W → (old new : W) → (count : ℕ) → (spawned : Bool) → Option Mark → Type 0
Begins keeps old new count spawned mark =
    (os : List Open) (es : List Event) → Goes keeps old new count os (begun spawned mark es os) es []

abbrev pub NeedsNoCall : {W : Type 0} → RecordRelation W → Type 0
NeedsNoCall {W = W} keeps =
    (w : W) (count : ℕ) (os : List Open) (es : List Event) → Goes keeps w w count os os es (ticked es)

-- this instruction was reported to a listener after `count` others: for all open parts, the listener records the run
-- up to where the instruction leads
abbrev pub IsNotifiedOf : {W : Type 0} → RecordRelation W → (old new : W) → (count : ℕ) → Op → Type 0
IsNotifiedOf keeps old new count o =
    (code : Code) (os : List Open) (es : List Event)
    → count < MOST_LIMIT → IsOpen Main os → keeps count os es old
    → Tracks (λ os es. keeps (count + 1) os es new) code o os es

-- a listener records the run up to where a move leads; nothing is stated if memory ran out
abbrev pub RecordsMove : {W : Type 0} → RecordRelation W → (count : ℕ) → Moved → W → Transition → Type 0
RecordsMove keeps count moved.NoMemory w went = Unit {0}
RecordsMove keeps count _ w went = After (λ os es. keeps count os es w) went

-- a machine represents this state after `count` instructions, and its listener records the run up to it
pub record RepresentsRecorded {W : Type 0} (keeps : RecordRelation W) (v : Verified) (ok : Ok v) (count : ℕ) (m : Machine) (w : W)
    (s : State) : Type 0 where
  pub shows : RepresentsState v ok m s
  pub kept : keeps count (opens_round s.around) s.trace.events w

-- the machine follows the code by the last of `count` instructions, and the listener records it
pub record FollowsRecorded {W : Type 0} (keeps : RecordRelation W) (v : Verified) (ok : Ok v) (count : ℕ) (to : Moved)
    (m : Machine) (w : W) (went : Transition) : Type 0 where
  pub follows : Follows v ok to m went
  pub kept : RecordsMove keeps count to w went

-- from each state that it may represent after `count` instructions, the machine follows the code
abbrev pub SimulatesRecorded : {W : Type 0} → RecordRelation W → Verified → (m : Machine) → W → (count : ℕ) → Moved → (m' : Machine) → W
    → Type 0
SimulatesRecorded keeps v m w count to m' w' =
    (ok : Ok v) (s : State) → count < MOST_LIMIT → RepresentsRecorded keeps v ok count m w s → MayGo v ok m s
    → FollowsRecorded keeps v ok (count + 1) to m' w' (step (code_view v.code) s)

-- a run ended after `count` instructions, with the output of the code
pub record CameTo {W : Type 0} (keeps : RecordRelation W) (v : Verified) (count : ℕ) (m : Machine) (w : W) (t : Trace)
    : Type 0 where
  pub lines : m.lines.items ≡ t.lines
  pub totals : HoldsTotals (code_view v.code) m.totals.items t.updates
  pub kept : keeps count [] (whole t) w

-- all `n` instructions are executed, and the machine represents the state to which they lead; or the run ended before
abbrev pub Reaches : {W : Type 0} → RecordRelation W → (v : Verified) → Ok v → (count : ℕ) → Moved → Machine → W → (n : ℕ)
    → State → Type 0
Reaches keeps v ok count moved.On m w n s =
    (s' : State) × RepresentsRecorded keeps v ok count m w s'
    × ((k : ℕ) → steps (code_view v.code) (n + k) s ≡ steps (code_view v.code) k s')
Reaches keeps v ok count (moved.Gave x) m w n s =
    (left : ℕ) × (t : Trace) × (steps (code_view v.code) n s ≡ Some (Done (x, no_frame) left t))
    × CameTo keeps v count m w t
Reaches keeps v ok count (moved.Trapped c l) m w n s =
    steps (code_view v.code) n s ≡ Some (Trapped c l m.lines.items)
Reaches keeps v ok count moved.NoMemory m w n s = Unit {0}

-- a run of `main` represents some state, after `count` instructions
pub record IsUnderWay {W : Type 0} (keeps : RecordRelation W) (v : Verified) (count : ℕ) (m : Machine) (w : W) : Type 0 where
  pub verified : IsFit v
  pub state : State
  pub shows : RepresentsRecorded keeps v (alone v verified) count m w state

-- a run of `main` is under way, for some request
pub record IsGoing {A W : Type 0} (keeps : A → RecordRelation W) (v : Verified) (count : ℕ) (m : Machine) (w : W) : Type 0 where
  pub asked : A
  pub under_way : IsUnderWay (keeps asked) v count m w

-- from each state that it may represent at its beginning, a run executed at most `n` instructions, and `count` is the
-- number of those that it executed
abbrev pub ReachesAny : {W : Type 0} → RecordRelation W → Verified → (m : Machine) → W → (n count : ℕ) → Moved
    → (m' : Machine) → W → Type 0
ReachesAny keeps v m w n count to m' w' =
    (is : IsFit v) (s : State) → RepresentsRecorded keeps v (alone v is) 0 m w s → Reaches keeps v (alone v is) count to m' w' n s

-- a run ends after `count` instructions, with what a listener records of its events
pub record EndsRun {W : Type 0} (keeps : RecordRelation W) (code : Code) (args : List ℤ) (n count : ℕ) (w : W) : Type 0 where
  pub value : ℤ
  pub lines : List ℤ
  pub totals : List Total
  pub trace : Trace
  pub answer : code_serial code args n
      ≡ Some (Ended value lines totals (normal (Marked (Invocation 0) (tree_of trace.events))))
  pub kept : keeps count [] (whole trace) w
