use Rattle.std.proofs.Common.{arith, ⊎_elim}
use Rattle.cw_machine.proofs.Places.{same_or}
use Rattle.cw_machine.proofs.arrays.beyond.Goals as goal

pub overflow_add-result : goal.overflow_add-result
overflow_add-result c = let from = c.ranges.from.fits in ⊎_elim (λ e. omega (arith, e, from)) (λ n. let small = c.requires (omega (arith, n)) in omega (arith, small)) (same_or c.args.k 0)
