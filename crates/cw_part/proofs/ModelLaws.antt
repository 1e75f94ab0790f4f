-- The serial run of a frame is that of the model.
use Rattle.std.specs.Prelude.{◌≡◌, ℕ, ◌-◌, nat_lt, Bool, true, false, if◌then◌else◌, Option, refl}
use Rattle.std.proofs.Common.{sym, ◌∙◌, ap, arith}
use Rattle.cw_model.specs.declared.trap.Trap.{Trap}
use Rattle.cw_model.specs.Trees.{Mark}
use Rattle.cw_model.specs.Outcome.{Trace, Outcome, quiet, joined, after, then_do, joined_up}
use Rattle.cw_model.specs.Outcome as model
use Rattle.cw_measure.specs.OpenParts.{marked, part_of}
use Rattle.cw_part.specs.Parts.{Came, Completed, Trapped, Over, Memory, followed, seen, over_if}
use Rattle.cw_part.specs.Runs.{Run, Ends, Shows, Traps, Inside, cost, traces, as_event, goes_on, serial}
use Rattle.cw_part.specs.ModelRuns.{piece_of, outcome_of, RunsAreTheModels}
use Rattle.cw_part.proofs.RunLaws.{cost_both, cost_inside}

after_trace : (left : ℕ) (t : Trace) (x : Came Trace) → after t (outcome_of (left - cost t) x) ≡ outcome_of left (followed traces (Completed t) x)
after_trace left t (Completed u) = ap (λ (k : ℕ). model.Done tt k (joined t u)) (let c = cost_both t u in omega arith)
after_trace left t (Trapped trap line u) = refl
after_trace left t Over = refl
after_trace left t Memory = refl

shown_told : (b : Bool) (left : ℕ) (t : Trace) (rest : Run) → piece_of rest (left - cost t)
    ≡ outcome_of (left - cost t) (serial (left - cost t) rest) → then_do (if b then model.Over else model.Done (tt {0}) (left - cost t) t)
    (λ _. piece_of rest) ≡ outcome_of left (over_if b (followed traces (Completed t) (serial (left - cost t) rest)))
shown_told true left t rest e = refl
shown_told false left t rest e = ap (after t) e ∙ after_trace left t (serial (left - cost t) rest)

trap_told : (b : Bool) (left : ℕ) (trap : Trap) (line : ℕ) (t : Trace) → (if b then model.Over else model.Trapped trap line t.lines) ≡ outcome_of left (over_if b (Trapped trap line t))
trap_told true left trap line t = refl
trap_told false left trap line t = refl

inside_told : (left : ℕ) (spawned : Bool) (mark : Option Mark) (x : Came Trace) (rest : Run)
    → ((n : ℕ) → piece_of rest n ≡ outcome_of n (serial n rest)) → then_do (joined_up (λ tree. part_of spawned (marked mark tree)) (outcome_of left x))
    (λ _. piece_of rest) ≡ outcome_of left (goes_on (seen (as_event spawned mark) x) (λ t. serial (left - cost t) rest))
inside_told left spawned mark (Completed t) rest e =
    let f = as_event spawned mark in
    ap (λ (k : ℕ). after (f t) (piece_of rest (left - k))) (sym (cost_inside spawned mark t))
    ∙ ap (after (f t)) (e (left - cost (f t))) ∙ after_trace left (f t) (serial (left - cost (f t)) rest)
inside_told left spawned mark (Trapped trap line t) rest e = refl
inside_told left spawned mark Over rest e = refl
inside_told left spawned mark Memory rest e = refl

run_told : (run : Run) (left : ℕ) → piece_of run left ≡ outcome_of left (serial left run)
run_told Ends left = ap (λ (k : ℕ). model.Done tt k quiet) (omega arith)
run_told (Shows t rest) left = shown_told (nat_lt left (cost t)) left t rest (run_told rest (left - cost t))
run_told (Traps trap line t) left = trap_told (nat_lt left (cost t)) left trap line t
run_told (Inside spawned mark inner rest) left =
    ap (λ (o : Outcome (Unit {0})). then_do (joined_up (λ tree. part_of spawned (marked mark tree)) o) (λ _. piece_of rest)) (run_told inner left)
    ∙ inside_told left spawned mark (serial left inner) rest (run_told rest)

pub runs_are_the_models : RunsAreTheModels
runs_are_the_models left run = run_told run left
