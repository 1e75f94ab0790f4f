-- The code of `ReadRuns` computes to the stated answers.
use Rattle.std.proofs.Common.{refl}
use Rattle.cw_code.specs.Run.{code_serial}
use Rattle.cw_code.specs.ReadRuns.{ReadRuns}

pub read_runs : ReadRuns
unfolding code_serial
read_runs = record { runs = refl; over = refl; costs = refl; spans = refl }
