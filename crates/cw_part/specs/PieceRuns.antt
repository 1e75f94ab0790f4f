-- The run of a frame that a piece of the model is, step by step, within a limit.
use Rattle.std.specs.Prelude.{◌≡◌, ℕ, zero, suc, ℤ, ◌-◌, ◌≤◌, nat_lt, if◌then◌else◌, Bool, List, [], ◌∷◌, Option}
use Rattle.std.specs.Prelude.{Some, None}
use Rattle.cw_model.specs.declared.trap.Trap.{Trap}
use Rattle.cw_model.specs.Syntax.{Function}
use Rattle.cw_model.specs.Frames.{Frame}
use Rattle.cw_model.specs.Expressions.{Evaluated}
use Rattle.cw_model.specs.Expressions as expression
use Rattle.cw_model.specs.Trees.{Mark, Work, works}
use Rattle.cw_model.specs.Outcome.{Trace, quiet, shows, Outcome, Done, Piece, ◌>>=◌, gives, show, pay, pay_for, as_one}
use Rattle.cw_model.specs.Outcome as model
use Rattle.cw_model.specs.Meaning.{Completion, Returned, Entry, turns, call}
use Rattle.cw_measure.specs.OpenParts.{marked, part_of}
use Rattle.cw_part.specs.Parts.{Came, Completed, Trapped, Over, Memory}
use Rattle.cw_part.specs.Runs.{Run, Ends, Shows, Traps, Inside, then_run, cost, serial}

-- what a piece of the model returns
pub data Kind : Type 0 where
  OfNothing : Kind
  OfInt : Kind
  OfFrame : Kind
  OfStatement : Kind
  OfCall : Kind

abbrev pub Given : Kind → Type 0
Given OfNothing = Unit {0}
Given OfInt = ℤ
Given OfFrame = Frame
Given OfStatement = Completion
Given OfCall = Returned

-- how a piece exits within a limit: with a value, and what is left of the limit; or it stops, at a trap or at the
-- limit
abbrev pub Exit : Kind → Type 0
Exit kind = Option (Given kind × ℕ)

-- the exit of instructions with this value
abbrev pub exit_of : (kind : Kind) (limit cost : ℕ) → Given kind → Exit kind
exit_of kind limit k a = if nat_lt limit k then None else Some (a, limit - k)

-- this many instructions, one by one
abbrev pub instructions : ℕ → Run
instructions zero = Ends
instructions (suc k) = Shows (shows (Work 1 ∷ [])) (instructions k)

-- an instruction that exceeds a limit
abbrev pub past : (limit : ℕ) → Run
past limit = Shows (shows (Work (suc limit) ∷ [])) Ends

-- this piece of the model is this run of a frame within the limit, with this exit
pub data IsRunOf : (kind : Kind) (limit : ℕ) → Piece (Given kind) → Run → Exit kind → Type 0 where
  Nothing : (kind : Kind) (limit : ℕ) (a : Given kind) → IsRunOf kind limit (gives a) Ends (Some (a, limit))
  Free : (limit : ℕ) (t : Trace) → cost t ≡ 0 → IsRunOf OfNothing limit (show t) (Shows t Ends) (Some (tt, limit))
  Paid : (limit k : ℕ) → IsRunOf OfNothing limit (pay k) (instructions k) (exit_of OfNothing limit k tt)
  Valued : (limit line : ℕ) (v : ℤ) (k : ℕ)
      → IsRunOf OfInt limit (pay_for (expression.Gives v k) line) (instructions k) (exit_of OfInt limit k v)
  -- the cost of a trap includes the trapping instruction
  Failed : (limit line : ℕ) (trap : Trap) (k : ℕ)
      → IsRunOf OfInt limit (pay_for (expression.Traps trap k) line) (Traps trap line (shows (works k))) None
  AtOnce : (kind : Kind) (limit line : ℕ) (trap : Trap)
      → IsRunOf kind limit (λ left. model.Trapped trap line []) (Traps trap line quiet) None
  CutOff : (kind : Kind) (limit : ℕ) → IsRunOf kind limit (λ left. model.Over) (past limit) None
  -- a call, a region or a scope in place, or a spawned child
  Nested : (kind : Kind) (limit : ℕ) (spawned : Bool) (mark : Option Mark) (piece : Piece (Given kind)) (inner : Run)
      (exit : Exit kind)
      → IsRunOf kind limit piece inner exit
      → IsRunOf kind limit (as_one (λ tree. part_of spawned (marked mark tree)) piece) (Inside spawned mark inner Ends)
      exit
  Further : (kind later : Kind) (limit left : ℕ) (piece : Piece (Given kind)) (next : Given kind → Piece (Given later))
      (first rest : Run) (a : Given kind) (exit : Exit later)
      → IsRunOf kind limit piece first (Some (a, left)) → IsRunOf later left (next a) rest exit
      → IsRunOf later limit (◌>>=◌ piece next) (then_run first rest) exit
  Stopped : (kind later : Kind) (limit : ℕ) (piece : Piece (Given kind)) (next : Given kind → Piece (Given later))
      (first : Run)
      → IsRunOf kind limit piece first None → IsRunOf later limit (◌>>=◌ piece next) first None
  -- a `while` has at most as many iterations as the budget allows; the largest budget allows no other iterations than
  -- each budget does
  Turns : (limit line : ℕ) (test : Frame → Evaluated) (body : Frame → Piece Completion) (frame : Frame) (run : Run)
      (exit : Exit OfStatement)
      → ((left : ℕ) → left ≤ limit
      → turns (suc left) test line body frame left ≡ turns (suc limit) test line body frame left)
      → IsRunOf OfStatement limit (turns (suc limit) test line body frame) run exit
      → IsRunOf OfStatement limit (λ left. turns (suc left) test line body frame left) run exit

-- a piece has a run within a limit
pub record HasRun (kind : Kind) (limit : ℕ) (piece : Piece (Given kind)) : Type 0 where
  pub run : Run
  pub exit : Exit kind
  pub is_run : IsRunOf kind limit piece run exit

-- the outcome of a run as the model has it, with the value of the piece
abbrev pub outcome_with : (kind : Kind) → (left : ℕ) → Came Trace → Exit kind → Outcome (Given kind)
outcome_with kind left (Completed t) (Some end) = Done end.0 (left - cost t) t
outcome_with kind left (Completed t) None = model.Over
outcome_with kind left (Trapped trap line t) exit = model.Trapped trap line t.lines
outcome_with kind left Over exit = model.Over
outcome_with kind left Memory exit = model.Over

-- each call of the model is a run of a frame within each limit
abbrev pub CallsAreRuns : Type 0
CallsAreRuns =
    (bound depth : ℕ) (fs : List Function) (entry : Entry) (f : Function) (given : Frame) (line limit : ℕ)
    → HasRun OfCall limit (call bound depth fs entry f given line)

-- within each budget that the limit allows, the outcome of a piece is that of its serial run
abbrev pub RunsTellOfPieces : Type 0
RunsTellOfPieces =
    (kind : Kind) (limit left : ℕ) (piece : Piece (Given kind)) (run : Run) (exit : Exit kind)
    → IsRunOf kind limit piece run exit → left ≤ limit → piece left ≡ outcome_with kind left (serial left run) exit
