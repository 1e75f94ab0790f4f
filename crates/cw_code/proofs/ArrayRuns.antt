-- The codes of `ArrayRuns` compute to the stated answers.
use Rattle.std.proofs.Common.{refl}
use Rattle.cw_model.specs.Meaning.{call}
use Rattle.cw_model.specs.Answers.{serial_answer}
use Rattle.cw_code.specs.Run.{code_serial}
use Rattle.cw_code.specs.ArrayRuns.{ArrayRuns}

pub array_runs : ArrayRuns
unfolding code_serial serial_answer call
array_runs = record { cut_runs = refl; cut_over = refl; loop_runs = refl; loop_over = refl }
