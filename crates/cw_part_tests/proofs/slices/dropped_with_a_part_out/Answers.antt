use Rattle.std.proofs.Common.{◌+◌, pos, replicate, subst, sym, arith}
use Rattle.cw_slices.specs.Blocks.{IsIn}
use Rattle.cw_slices.specs.lemmas.Patches.{are_in, in_ins}
use Rattle.cw_part_tests.proofs.slices.dropped_with_a_part_out.Goals as goal

pub lend-part-requires-clause-there : goal.lend-part-requires-clause-there
lend-part-requires-clause-there g c = are_in c.in_ok-block.block.cells 1 1 (λ k lt. subst (λ l. IsIn l (1 + k)) (sym c.in_ok-block.ensures.0) (in_ins (replicate 2 (pos 0)) (1 + k) (omega (arith, lt))))
