-- Runs of small code by lists of events.
use Rattle.std.proofs.Common.{refl}
use Rattle.cw_code.specs.Run.{code_serial}
use Rattle.cw_sched.specs.core.Executions.{InlinedExecution, StolenExecution, FailingExecutions, EachEvent}

pub inlined_walk : InlinedExecution
unfolding code_serial
inlined_walk = record { lines = refl; answer = refl; possible = refl }

pub stolen_walk : StolenExecution
unfolding code_serial
stolen_walk = record { answer = refl; possible = refl }

pub failing_walks : FailingExecutions
unfolding code_serial
failing_walks = record { as_skipped = refl; as_dropped = refl; over = refl }

pub each_event : EachEvent
each_event = record {
  run = refl;
  run_at_spawn = refl;
  run_at_join = refl;
  run_ended = refl;
  run_of_none = refl;
  run_of_nobody = refl;
  offer = refl;
  offer_twice = refl;
  inline = refl;
  inline_of_another = refl;
  retake_kept = refl;
  retake_offered = refl;
  retake_stolen = refl;
  retake_too_soon = refl;
  steal = refl;
  steal_own = refl;
  steal_kept = refl;
  steal_in_a_call = refl;
  steal_at_a_join = refl;
  steal_by_nobody = refl;
  steal_from_nobody = refl;
  settle = refl;
  settle_too_soon = refl;
  settle_root = refl;
  collect = refl;
  collect_too_soon = refl;
}
