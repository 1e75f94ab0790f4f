-- The serial elision of a program as a run of a frame, and the serial answer by its joined parts.
use Rattle.std.specs.Prelude.{◌≡◌, ℕ, suc, ℤ, ◌<◌, ◌≤◌, ◌^◌, ◌==◌, nat_lt, min, if◌then◌else◌, List, [], ◌∷◌, map, ◌⊎◌}
use Rattle.std.specs.Int.{int_wrap, w128}
use Rattle.std.specs.Int.RustNames.{FitsSigned}
use Rattle.cw_model.specs.declared.burden.Burden.{Burden}
use Rattle.cw_model.specs.declared.syntax.Reduction.{Reduction}
use Rattle.cw_model.specs.declared.total.Total.{Total}
use Rattle.cw_model.specs.declared.total.Total.TheVariants as total
use Rattle.cw_model.specs.declared.trap.Trap.{Trap}
use Rattle.cw_model.specs.Syntax.{Name, Program}
use Rattle.cw_model.specs.Names.{same_name}
use Rattle.cw_model.specs.Frames.{no_frame}
use Rattle.cw_model.specs.Trees.{Tree}
use Rattle.cw_model.specs.Outcome.{Trace, Done, Piece}
use Rattle.cw_model.specs.Meaning.{Returned, Deeper, function_named, call}
use Rattle.cw_model.specs.Answers.{Answer, Ended, TrappedAt, OverLimit, answer_of, total_to, main_name, main_frame}
use Rattle.cw_model.specs.Answers.{serial_answer}
use Rattle.cw_measure.specs.Measured.{most, ReadsTree}
use Rattle.cw_reduce.specs.ReducerState.{as_total}
use Rattle.cw_reduce.specs.PieceResults.{held_of}
use Rattle.cw_part.specs.declared.read.Read.{Read}
use Rattle.cw_part.specs.Parts.{Came, Completed, Trapped, Over, Memory}
use Rattle.cw_part.specs.RunParts.{RunPart}
use Rattle.cw_part.specs.Runs.{Run, Numbering, serial, told, IsJoinedOf}
use Rattle.cw_part.specs.PieceRuns.{OfCall, Exit, IsRunOf, HasRun, outcome_with}

-- main on its arguments, at depth 1, with no more nested calls than the limit allows
abbrev pub elision : Program → (args : List ℤ) → (limit : ℕ) → Piece Returned
elision program args limit =
    let main = function_named main_name program.functions in
    call (suc limit) 0 program.functions Deeper main (main_frame main.params args no_frame) main.line

-- a part represents an end: the printed lines, the totals of the reducers, and the readings of the tree
pub record TellsEnd (burden : Burden) (numbering : Numbering) (program : Program) (args : List ℤ) (limit : ℕ)
    (lines : List ℤ) (totals : List Total) (tree : Tree) (a : Read) : Type 0 where
  pub returned : Returned
  pub left : ℕ
  pub trace : Trace
  pub ends : elision program args limit limit ≡ Done returned left trace
  pub printed : a.views.lines ≡ lines
  pub reduced : totals ≡ map (λ r. total_to r.how r.name trace.updates) program.reducers
  pub kept : (reducer : ℕ) → held_of a.views.totals reducer ≡ told numbering reducer trace.updates
  pub measured : ReadsTree burden a.measure tree

-- and a trap: the lines printed before it, and its cost, which is the least limit within which it occurs
pub record TellsStop (program : Program) (args : List ℤ) (limit : ℕ) (trap : Trap) (line : ℕ) (lines : List ℤ)
    (a : Read) : Type 0 where
  pub printed : a.views.lines ≡ lines
  pub cost : ℕ
  pub measured : a.measure.work ≡ min most cost
  pub comes : (left : ℕ) → left ≤ limit
      → serial_answer program args left ≡ (if nat_lt left cost then OverLimit else TrappedAt trap line lines)

-- the outcome of a part represents an answer of a program within a limit
pub data TellsAnswer (burden : Burden) (numbering : Numbering) (program : Program) (args : List ℤ) (limit : ℕ) : Answer
    → Came Read → Type 0 where
  EndedSo : (value : ℤ) (lines : List ℤ) (totals : List Total) (tree : Tree) (a : Read)
      → TellsEnd burden numbering program args limit lines totals tree a
      → TellsAnswer burden numbering program args limit (Ended value lines totals tree) (Completed a)
  TrappedSo : (trap : Trap) (line : ℕ) (lines : List ℤ) (a : Read) → TellsStop program args limit trap line lines a
      → TellsAnswer burden numbering program args limit (TrappedAt trap line lines) (Trapped trap line a)
  OverSo : TellsAnswer burden numbering program args limit OverLimit Over

-- the elision of a program is a run of a frame within each limit
abbrev pub ElisionIsARun : Type 0
ElisionIsARun = (program : Program) (args : List ℤ) (limit : ℕ) → HasRun OfCall limit (elision program args limit)

-- and one run gives the serial answer within the limit and within each lesser one
abbrev pub RunGivesTheAnswers : Type 0
RunGivesTheAnswers =
    (program : Program) (args : List ℤ) (limit left : ℕ) (run : Run) (exit : Exit OfCall)
    → IsRunOf OfCall limit (elision program args limit) run exit → left ≤ limit
    → serial_answer program args left ≡ answer_of program.reducers (outcome_with OfCall left (serial left run) exit)

-- cut that run at its spawns in any way, with any outcome of each piece: the joined part represents the serial answer
-- within the limit, or memory was refused
abbrev pub PiecesAreTheElision : Type 0
PiecesAreTheElision =
    (burden : Burden) (numbering : Numbering) (program : Program) (args : List ℤ) (limit : ℕ)
    (run : Run) (exit : Exit OfCall) (p : RunPart)
    → burden.charge < 2 ^ 64 → IsRunOf OfCall limit (elision program args limit) run exit
    → IsJoinedOf burden numbering limit 0 run p
    → (p.limit ≡ limit)
    × ((p.came ≡ Memory)
    ⊎ TellsAnswer burden numbering program args limit (serial_answer program args limit) p.came)

-- each value of a reducer fits 128 bits
abbrev pub AllFit : List (Name × ℤ) → Type 0
AllFit [] = Unit {0}
AllFit (update ∷ more) = FitsSigned w128 update.1 × AllFit more

-- a total, wrapped to 128 bits
abbrev pub wrapped : Total → Total
wrapped (total.Sum v) = total.Sum (int_wrap w128 v)
wrapped (total.Max v) = total.Max v

-- if no other name has the number of a reducer, what is held of the reducer reads as its total, as far as a sum fits
-- 128 bits
abbrev pub UpdatesAreTotals : Type 0
UpdatesAreTotals =
    (numbering : Numbering) (how : Reduction) (reducer : Name) (updates : List (Name × ℤ))
    → numbering.how (numbering.number reducer) ≡ how
    → ((x : Name) → (numbering.number x == numbering.number reducer) ≡ same_name reducer x) → AllFit updates
    → as_total how (told numbering (numbering.number reducer) updates) ≡ wrapped (total_to how reducer updates)
