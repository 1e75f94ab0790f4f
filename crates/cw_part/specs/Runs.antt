-- The run of a frame, step by step, and the parts of the pieces into which it may be cut.
use Rattle.std.specs.Prelude.{◌≡◌, ℕ, ℤ, ◌+◌, ◌-◌, ◌<◌, ◌≤◌, ◌==◌, ◌^◌, nat_lt, min, Bool, true, false, if◌then◌else◌}
use Rattle.std.specs.Prelude.{List, [], ◌∷◌, Option, ◌⊎◌}
use Rattle.cw_model.specs.declared.burden.Burden.{Burden}
use Rattle.cw_model.specs.declared.syntax.Reduction.{Reduction}
use Rattle.cw_model.specs.declared.trap.Trap.{Trap}
use Rattle.cw_model.specs.Syntax.{Name}
use Rattle.cw_model.specs.Trees.{Mark, tree_of, work}
use Rattle.cw_model.specs.Outcome.{Trace, quiet, joined}
use Rattle.cw_measure.specs.Measured.{most, Measures}
use Rattle.cw_measure.specs.OpenParts.{marked, part_of}
use Rattle.cw_reduce.specs.ReducerState.{ReducerState, none_held, one_held, held_joined}
use Rattle.cw_reduce.specs.PieceResults.{held_of}
use Rattle.cw_part.specs.declared.read.Read.{Read}
use Rattle.cw_part.specs.Parts.{Readings, Came, Completed, Trapped, Over, Memory, followed, seen, over_if}
use Rattle.cw_part.specs.RunParts.{RunPart, run_joined, as_child, as_call}

-- the work of a trace, and traces as readings of parts
abbrev pub cost : Trace → ℕ
cost t = work (tree_of t.events)

abbrev pub traces : Readings Trace
traces = record { none = quiet; joined = joined; work = cost }

-- the run of a frame: instructions and joins, with what they show; an instruction that traps in a line; and a nested
-- part, a call, a region or a spawned child, which may be marked
pub data Run : Type 0 where
  Ends : Run
  Shows : Trace → Run → Run
  Traps : (trap : Trap) (line : ℕ) → Trace → Run
  Inside : (spawned : Bool) → Option Mark → (inner rest : Run) → Run

-- one run and then another
abbrev pub then_run : Run → Run → Run
then_run Ends later = later
then_run (Shows t rest) later = Shows t (then_run rest later)
then_run (Traps trap line t) later = Traps trap line t
then_run (Inside spawned mark inner rest) later = Inside spawned mark inner (then_run rest later)

-- the events of a nested part are one event, made of their tree
abbrev pub as_event : (spawned : Bool) → Option Mark → Trace → Trace
as_event spawned mark t =
    record { lines = t.lines; updates = t.updates; events = part_of spawned (marked mark (tree_of t.events)) ∷ [] }

-- the rest of a run, if a nested part ran to its end
abbrev pub goes_on : Came Trace → (Trace → Came Trace) → Came Trace
goes_on (Completed t) go = followed traces (Completed t) (go t)
goes_on (Trapped trap line t) go = Trapped trap line t
goes_on Over go = Over
goes_on Memory go = Memory

-- the serial run, within what is left of a limit: it stops before the instruction that exceeds it
abbrev pub serial : (left : ℕ) → Run → Came Trace
serial left Ends = Completed quiet
serial left (Shows t rest) =
    over_if (nat_lt left (cost t)) (followed traces (Completed t) (serial (left - cost t) rest))
serial left (Traps trap line t) = over_if (nat_lt left (cost t)) (Trapped trap line t)
serial left (Inside spawned mark inner rest) =
    goes_on (seen (as_event spawned mark) (serial left inner)) (λ t. serial (left - cost t) rest)

-- the reducers of a run: the number of each name, and how the reducer with a number reduces
pub record Numbering : Type 0 where
  pub number : Name → ℕ
  pub how : ℕ → Reduction

-- what is held of one reducer with this reduction, after these updates, by the number of its name
abbrev pub told_so : Reduction → (number : Name → ℕ) → (reducer : ℕ) → List (Name × ℤ) → ReducerState
told_so how number reducer [] = none_held
told_so how number reducer (update ∷ more) =
    let rest = told_so how number reducer more in
    if number update.0 == reducer then held_joined (one_held how update.1) rest else rest

abbrev pub told : Numbering → (reducer : ℕ) → List (Name × ℤ) → ReducerState
told numbering reducer updates = told_so (numbering.how reducer) numbering.number reducer updates

-- a part represents a trace: its lines, what is held of each reducer, and the measure of its events
pub record RepresentsTrace (burden : Burden) (numbering : Numbering) (t : Trace) (a : Read) : Type 0 where
  pub lines : a.views.lines ≡ t.lines
  pub totals : (reducer : ℕ) → held_of a.views.totals reducer ≡ told numbering reducer t.updates
  pub measure : Measures burden a.measure t.events

-- a part represents a trap: the lines printed before it, and the work
pub record RepresentsTrap (t : Trace) (a : Read) : Type 0 where
  pub lines : a.views.lines ≡ t.lines
  pub work : a.measure.work ≡ min most (cost t)

-- the outcome of a part represents the outcome of a run
pub data RepresentsOutcome (burden : Burden) (numbering : Numbering) : Came Trace → Came Read → Type 0 where
  RanAlike : (t : Trace) (a : Read) → RepresentsTrace burden numbering t a
      → RepresentsOutcome burden numbering (Completed t) (Completed a)
  TrappedAlike : (trap : Trap) (line : ℕ) (t : Trace) (a : Read) → RepresentsTrap t a
      → RepresentsOutcome burden numbering (Trapped trap line t) (Trapped trap line a)
  OverAlike : RepresentsOutcome burden numbering Over Over

-- the cost counted before a later piece is at most the cost before the first one and what that one spent, if it ran to
-- its end
abbrev pub IsCountedAfter : (before : ℕ) → Came Trace → (between : ℕ) → Type 0
IsCountedAfter before (Completed t) between = between ≤ before + cost t
IsCountedAfter before (Trapped trap line t) between = Unit {0}
IsCountedAfter before Over between = Unit {0}
IsCountedAfter before Memory between = Unit {0}

-- the part of a run, joined from pieces, each of which counts a cost before it: one strand executed all of it, and
-- stopped no earlier than the limit with that cost before it, or memory was refused to it; or the run was cut, and the
-- pieces of its two parts were joined; or a part at its beginning, a spawned child or a call, was joined from pieces
-- of its own
pub data IsJoinedOf (burden : Burden) (numbering : Numbering) (limit : ℕ) : (before : ℕ) → Run → RunPart → Type 0 where
  Alone : (before left : ℕ) (run : Run) (p : RunPart) → p.limit ≡ limit → left ≤ limit → limit ≤ before + left
      → RepresentsOutcome burden numbering (serial left run) p.came → IsJoinedOf burden numbering limit before run p
  Refused : (before : ℕ) (run : Run) (p : RunPart) → p.limit ≡ limit → p.came ≡ Memory
      → IsJoinedOf burden numbering limit before run p
  Cut : (before between : ℕ) (first later : Run) (p q : RunPart) → IsCountedAfter before (serial limit first) between
      → IsJoinedOf burden numbering limit before first p → IsJoinedOf burden numbering limit between later q
      → IsJoinedOf burden numbering limit before (then_run first later) (run_joined p q)
  Apart : (before between : ℕ) (mark : Option Mark) (child rest : Run) (p q : RunPart)
      → IsCountedAfter before (serial limit child) between
      → IsJoinedOf burden numbering limit before child p → IsJoinedOf burden numbering limit between rest q
      → IsJoinedOf burden numbering limit before (Inside true mark child rest) (run_joined (as_child burden p) q)
  Called : (before between : ℕ) (mark : Option Mark) (call rest : Run) (p q : RunPart)
      → IsCountedAfter before (serial limit call) between
      → IsJoinedOf burden numbering limit before call p → IsJoinedOf burden numbering limit between rest q
      → IsJoinedOf burden numbering limit before (Inside false mark call rest) (run_joined (as_call p) q)

-- cut a run at its spawns in any way, with any outcome of each piece: the joined part represents the serial run within
-- the limit, or memory was refused
abbrev pub PiecesAreTheRun : Type 0
PiecesAreTheRun =
    (burden : Burden) (numbering : Numbering) (limit : ℕ) (run : Run) (p : RunPart) → burden.charge < 2 ^ 64
    → IsJoinedOf burden numbering limit 0 run p
    → (p.limit ≡ limit) × ((p.came ≡ Memory) ⊎ RepresentsOutcome burden numbering (serial limit run) p.came)
