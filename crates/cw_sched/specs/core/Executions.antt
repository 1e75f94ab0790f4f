-- The code that prints 1, 2 and 3, by lists of events.
use Rattle.std.specs.Prelude.{◌≡◌, ℕ, pos, Bool, true, false, List, [], ◌∷◌, map, Option, Some, None}
use Rattle.cw_model.specs.Answers.{Answer}
use Rattle.cw_code.specs.Run.{code_serial}
use Rattle.cw_code.specs.Jobs.{Effect, root_job, answered}
use Rattle.cw_code.specs.Executions.{printing, prints, failing, fails, lines_of}
use Rattle.cw_sched.specs.core.Table.{Event, Run, Offer, Inline, Retake, Steal, Settle, Collect, Sched, is_possible}
use Rattle.cw_sched.specs.core.Table.{world_run, first_sched, outcome, all_possible}

-- no memory is lacking
abbrev pub ample : List Event → List (Event × Bool)
ample events = map (λ e. (e, false)) events

abbrev pub answer_at : Option Effect → Option Answer
answer_at None = None
answer_at (Some e) = answered printing e

abbrev pub printing_with : (others limit : ℕ) → Sched
printing_with others limit = first_sched (root_job prints [] limit) others

-- the answer after these events, with this many further workers
abbrev pub printed_by : List Event → (others limit : ℕ) → Option Answer
printed_by events others limit = answer_at (outcome (world_run printing (ample events) (printing_with others limit)))

abbrev pub after : List Event → (others : ℕ) → Sched
after events others = world_run printing (ample events) (printing_with others 15)

abbrev pub are_possible : List Event → (others : ℕ) → Bool
are_possible events others = all_possible printing (ample events) (printing_with others 15)

-- one worker keeps each continuation and takes it back
abbrev pub inlined : List Event
inlined =
    Run 0 ∷ Run 0 ∷ Inline 0 ∷ Run 0 ∷ Run 0 ∷ Run 0 ∷ Retake 0
    ∷ Run 0 ∷ Run 0 ∷ Inline 0 ∷ Run 0 ∷ Run 0 ∷ Run 0 ∷ Retake 0
    ∷ Run 0 ∷ Run 0 ∷ Run 0 ∷ Run 0 ∷ Run 0 ∷ []

-- each of two workers offers its continuation, and the other one steals it
abbrev pub stolen : List Event
stolen =
    Run 0 ∷ Run 0 ∷ Offer 0 ∷ Steal 1 0 ∷ Run 1 ∷ Run 1 ∷ Offer 1 ∷ Run 0 ∷ Run 0 ∷ Run 0
    ∷ Steal 0 1 ∷ Run 0 ∷ Run 0 ∷ Settle 0 ∷ Run 1 ∷ Run 1 ∷ Run 1 ∷ Collect 1 ∷ Settle 1
    ∷ Collect 0 ∷ Run 0 ∷ Run 0 ∷ Run 0 ∷ []

pub record InlinedExecution : Type 0 where
  pub lines : lines_of (printed_by inlined 0 15) ≡ pos 1 ∷ pos 2 ∷ pos 3 ∷ []
  pub answer : printed_by inlined 0 15 ≡ code_serial printing [] 15
  pub possible : are_possible inlined 0 ≡ true

pub record StolenExecution : Type 0 where
  pub answer : printed_by stolen 1 15 ≡ code_serial printing [] 15
  pub possible : are_possible stolen 1 ≡ true

-- the code whose spawned call traps
abbrev pub failed_at : Option Effect → Option Answer
failed_at None = None
failed_at (Some e) = answered failing e

abbrev pub failed_by : List Event → (others limit : ℕ) → Option Answer
failed_by events others limit =
    failed_at (outcome (world_run failing (ample events) (first_sched (root_job fails [] limit) others)))

-- the continuation was kept, and is skipped
abbrev pub skipped : List Event
skipped = Run 0 ∷ Run 0 ∷ Inline 0 ∷ Run 0 ∷ Run 0 ∷ Run 0 ∷ Retake 0 ∷ []

-- the continuation has printed before the spawned call traps, and is dropped
abbrev pub dropped_rest : List Event
dropped_rest = Run 0 ∷ Run 0 ∷ Offer 0 ∷ Steal 1 0 ∷ Run 1 ∷ Run 1 ∷ Settle 1 ∷ Run 0 ∷ Run 0 ∷ Run 0 ∷ Collect 0 ∷ []

pub record FailingExecutions : Type 0 where
  pub as_skipped : failed_by skipped 0 5 ≡ code_serial failing [] 5
  pub as_dropped : failed_by dropped_rest 1 5 ≡ code_serial failing [] 5
  pub over : failed_by skipped 0 4 ≡ code_serial failing [] 4

-- moments of two workers: the first is at a spawn; its continuation is kept; its call has ended, the continuation
-- kept; the same, offered; the continuation was stolen; and has ended; and is settled
abbrev pub at_spawn : Sched
at_spawn = after (Run 0 ∷ Run 0 ∷ []) 1

abbrev pub in_call : Sched
in_call = after (Run 0 ∷ Run 0 ∷ Inline 0 ∷ []) 1

abbrev pub kept_rest : Sched
kept_rest = after (Run 0 ∷ Run 0 ∷ Inline 0 ∷ Run 0 ∷ Run 0 ∷ Run 0 ∷ []) 1

abbrev pub offered_rest : Sched
offered_rest = after (Run 0 ∷ Run 0 ∷ Offer 0 ∷ Run 0 ∷ Run 0 ∷ Run 0 ∷ []) 1

abbrev pub stolen_rest : Sched
stolen_rest = after (Run 0 ∷ Run 0 ∷ Offer 0 ∷ Run 0 ∷ Run 0 ∷ Run 0 ∷ Steal 1 0 ∷ []) 1

abbrev pub ended_rest : Sched
ended_rest =
    after (Run 0 ∷ Run 0 ∷ Offer 0 ∷ Run 0 ∷ Run 0 ∷ Run 0 ∷ Steal 1 0 ∷ Run 1 ∷ Run 1 ∷ Inline 1 ∷ Run 1 ∷ Run 1
    ∷ Run 1 ∷ Retake 1 ∷ Run 1 ∷ Run 1 ∷ []) 1

abbrev pub settled_rest : Sched
settled_rest =
    after (Run 0 ∷ Run 0 ∷ Offer 0 ∷ Run 0 ∷ Run 0 ∷ Run 0 ∷ Steal 1 0 ∷ Run 1 ∷ Run 1 ∷ Inline 1 ∷ Run 1 ∷ Run 1
    ∷ Run 1 ∷ Retake 1 ∷ Run 1 ∷ Run 1 ∷ Settle 1 ∷ []) 1

-- both are in calls, and the second has offered
abbrev pub both_in_calls : Sched
both_in_calls = after (Run 0 ∷ Run 0 ∷ Offer 0 ∷ Steal 1 0 ∷ Run 1 ∷ Run 1 ∷ Offer 1 ∷ []) 1

abbrev pub first_waits : Sched
first_waits = after (Run 0 ∷ Run 0 ∷ Offer 0 ∷ Steal 1 0 ∷ Run 1 ∷ Run 1 ∷ Offer 1 ∷ Run 0 ∷ Run 0 ∷ Run 0 ∷ []) 1

-- the root has ended
abbrev pub all_done : Sched
all_done = after inlined 1

-- each event where it is possible and where it is not
pub record EachEvent : Type 0 where
  pub run : is_possible in_call (Run 0) ≡ true
  pub run_at_spawn : is_possible at_spawn (Run 0) ≡ false
  pub run_at_join : is_possible kept_rest (Run 0) ≡ false
  pub run_ended : is_possible ended_rest (Run 1) ≡ false
  pub run_of_none : is_possible at_spawn (Run 1) ≡ false
  pub run_of_nobody : is_possible at_spawn (Run 2) ≡ false
  pub offer : is_possible at_spawn (Offer 0) ≡ true
  pub offer_twice : is_possible in_call (Offer 0) ≡ false
  pub inline : is_possible at_spawn (Inline 0) ≡ true
  pub inline_of_another : is_possible at_spawn (Inline 1) ≡ false
  pub retake_kept : is_possible kept_rest (Retake 0) ≡ true
  pub retake_offered : is_possible offered_rest (Retake 0) ≡ true
  pub retake_stolen : is_possible stolen_rest (Retake 0) ≡ false
  pub retake_too_soon : is_possible in_call (Retake 0) ≡ false
  pub steal : is_possible offered_rest (Steal 1 0) ≡ true
  pub steal_own : is_possible offered_rest (Steal 0 0) ≡ true
  pub steal_kept : is_possible kept_rest (Steal 1 0) ≡ false
  pub steal_in_a_call : is_possible both_in_calls (Steal 0 1) ≡ false
  pub steal_at_a_join : is_possible first_waits (Steal 0 1) ≡ true
  pub steal_by_nobody : is_possible offered_rest (Steal 2 0) ≡ false
  pub steal_from_nobody : is_possible offered_rest (Steal 1 2) ≡ false
  pub settle : is_possible ended_rest (Settle 1) ≡ true
  pub settle_too_soon : is_possible stolen_rest (Settle 1) ≡ false
  pub settle_root : is_possible all_done (Settle 0) ≡ false
  pub collect : is_possible settled_rest (Collect 0) ≡ true
  pub collect_too_soon : is_possible ended_rest (Collect 0) ≡ false
