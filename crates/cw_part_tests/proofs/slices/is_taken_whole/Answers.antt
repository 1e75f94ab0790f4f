use Rattle.std.proofs.Common.{[], ◌∷◌}
use Rattle.cw_part_tests.proofs.slices.is_taken_whole.Goals as goal

pub take-whole-requires-clause-there : goal.take-whole-requires-clause-there
take-whole-requires-clause-there c =
    let cells = c.are_lent_at_both_ends-are_lent.ensures.cells in (cells.0 ∷ cells.1 ∷ cells.2 ∷ [], cells.3)
