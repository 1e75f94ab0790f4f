-- The run of a frame as a piece of the model, which gives the outcome of any piece of a run within a budget.
use Rattle.std.specs.Prelude.{◌≡◌, ℕ, ◌-◌, nat_lt, if◌then◌else◌}
use Rattle.cw_model.specs.Outcome.{Trace, Outcome, Piece, ◌>>=◌, gives, as_one}
use Rattle.cw_model.specs.Outcome as model
use Rattle.cw_measure.specs.OpenParts.{marked, part_of}
use Rattle.cw_part.specs.Parts.{Came, Completed, Trapped, Over, Memory}
use Rattle.cw_part.specs.Runs.{Run, Ends, Shows, Traps, Inside, cost, serial}

-- instructions that show this, within the budget
abbrev pub shown_within : Trace → Piece (Unit {0})
shown_within t = λ left. if nat_lt left (cost t) then model.Over else model.Done tt (left - cost t) t

abbrev pub piece_of : Run → Piece (Unit {0})
piece_of Ends = gives tt
piece_of (Shows t rest) = do
  _ ← shown_within t
  piece_of rest
piece_of (Traps trap line t) = λ left. if nat_lt left (cost t) then model.Over else model.Trapped trap line t.lines
piece_of (Inside spawned mark inner rest) = do
  _ ← as_one (λ tree. part_of spawned (marked mark tree)) (piece_of inner)
  piece_of rest

-- the outcome of a run as the model has it: with what is left of the budget, and of a trap only the lines
abbrev pub outcome_of : (left : ℕ) → Came Trace → Outcome (Unit {0})
outcome_of left (Completed t) = model.Done tt (left - cost t) t
outcome_of left (Trapped trap line t) = model.Trapped trap line t.lines
outcome_of left Over = model.Over
outcome_of left Memory = model.Over

-- the serial run is that of the model
abbrev pub RunsAreTheModels : Type 0
RunsAreTheModels = (left : ℕ) (run : Run) → piece_of run left ≡ outcome_of left (serial left run)
