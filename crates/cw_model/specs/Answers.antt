-- The serial answer: the result of the serial elision of `main` within a limit.
use Rattle.std.specs.Prelude.{ℕ, suc, ℤ, pos, ◌+ℤ◌, if◌then◌else◌, List, [], ◌∷◌, map, Option, Some, None}
use Rattle.std.specs.Int.{int_max}
use Rattle.cw_model.specs.declared.trap.Trap.{Trap}
use Rattle.cw_model.specs.declared.syntax.Reduction.{Reduction}
use Rattle.cw_model.specs.declared.syntax.Reduction.TheVariants.{Sum, Max}
use Rattle.cw_model.specs.declared.total.Total.{Total}
use Rattle.cw_model.specs.declared.total.Total.TheVariants as total
use Rattle.cw_model.specs.Syntax.{Name, Param, Reducer, Program}
use Rattle.cw_model.specs.Names.{same_name}
use Rattle.cw_model.specs.Frames.{Frame, no_frame, new_int}
use Rattle.cw_model.specs.Trees.{Tree, Invocation, Marked, tree_of, normal}
use Rattle.cw_model.specs.Outcome.{Outcome, Done, Trapped, Over}
use Rattle.cw_model.specs.Meaning.{Returned, Deeper, function_named, call}

-- the run finished, with its value, printed values, totals of reducers and tree in normal form; or it trapped, after
-- printing these values; or its cost exceeded the limit, and nothing else is specified
pub data Answer : Type 0 where
  Ended : (value : ℤ) (lines : List ℤ) (totals : List Total) (tree : Tree) → Answer
  TrappedAt : (trap : Trap) (line : ℕ) (lines : List ℤ) → Answer
  OverLimit : Answer

-- the sum of all updates of a reducer
abbrev pub sum_to : Name → List (Name × ℤ) → ℤ
sum_to s [] = pos 0
sum_to s (a ∷ updates) = if same_name s a.0 then a.1 +ℤ sum_to s updates else sum_to s updates

-- the maximum of a value and an optional value
abbrev pub or_max : ℤ → Option ℤ → ℤ
or_max v None = v
or_max v (Some w) = int_max v w

-- the maximum of all updates of a reducer, if there are any
abbrev pub maximum_to : Name → List (Name × ℤ) → Option ℤ
maximum_to s [] = None
maximum_to s (a ∷ updates) =
    if same_name s a.0 then Some (or_max a.1 (maximum_to s updates)) else maximum_to s updates

-- the total of a reducer, according to its reduction
abbrev pub total_to : Reduction → Name → List (Name × ℤ) → Total
total_to Sum s updates = total.Sum (sum_to s updates)
total_to Max s updates = total.Max (maximum_to s updates)

-- the value that `main` returned; a well-typed `main` always returns one
abbrev pub int_given : Option ℤ → ℤ
int_given (Some v) = v
int_given None = pos 0

-- the answer for an outcome of `main`
abbrev pub answer_of : List Reducer → Outcome Returned → Answer
answer_of reducers (Done returned left t) =
    Ended (int_given returned.0) t.lines (map (λ r. total_to r.how r.name t.updates) reducers)
    (normal (Marked (Invocation 0) (tree_of t.events)))
answer_of reducers (Trapped trap line lines) = TrappedAt trap line lines
answer_of reducers Over = OverLimit

-- the frame of `main`: each parameter has its argument as its value
abbrev pub main_frame : List Param → List ℤ → Frame → Frame
main_frame [] vs frame = frame
main_frame (p ∷ ps) [] frame = frame
main_frame (p ∷ ps) (v ∷ vs) frame = main_frame ps vs (new_int p.name v frame)

-- the name `main`, as bytes
abbrev pub main_name : Name
main_name = 109 ∷ 97 ∷ 105 ∷ 110 ∷ []

-- the answer of `main` for these arguments (one for each parameter), called at depth 1 and within a limit
unfoldable pub serial_answer : Program → List ℤ → ℕ → Answer
serial_answer program args limit =
    let main = function_named main_name program.functions in
    answer_of program.reducers
    (call (suc limit) 0 program.functions Deeper main (main_frame main.params args no_frame) main.line limit)
