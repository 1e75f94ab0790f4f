-- Runs of small codes by lists of events.
use Rattle.std.proofs.Common.{refl}
use Rattle.cw_code.specs.Run.{code_serial}
use Rattle.cw_code.specs.Executions.{PrintingExecutions, FailingExecutions}

pub printing_walks : PrintingExecutions
unfolding code_serial
printing_walks = record { lines = refl; as_kept = refl; as_taken_back = refl; as_stolen = refl; over = refl }

pub failing_walks : FailingExecutions
unfolding code_serial
failing_walks = record { as_dropped = refl; as_skipped = refl; serial = refl; over = refl; serial_over = refl }
