use Rattle.std.proofs.Common.{◌≡◌, ◌+◌, slice_get, ap, subst, arith}
use Rattle.cw_slices.specs.Blocks.{IsIn}
use Rattle.cw_slices.specs.lemmas.Patches.{are_in}
use Rattle.cw_part_tests.proofs.slices.are_lent_at_both_ends.Goals as goal

pub lend-first-requires-clause-there : goal.lend-first-requires-clause-there
lend-first-requires-clause-there c =
    let there : IsIn c.args.block.now.cells 0 = (c.requires.cells.0, ap (λ l. slice_get l 0) c.requires.cells.3) in
    are_in c.args.block.now.cells 0 1 (λ k lt. subst (λ j. IsIn c.args.block.now.cells j) (let z : 0 ≡ 0 + k = omega (arith, lt) in z) there)
