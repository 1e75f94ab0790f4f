use Rattle.std.proofs.Common.{refl}
use Rattle.cw_loops.proofs.laws.slot_examples.Goals as goal

pub returns : goal.returns
returns c = record { sums = refl; greatest = refl; squares = refl; idle = refl; fill = refl; cut = refl; fib = refl; inner = refl; together = refl; given_and_read = refl }
