use Rattle.std.proofs.Common.{◌≡◌}
use Rattle.std.specs.Prelude.{drop}
use Rattle.cw_gen.specs.Emit as spec
use Rattle.cw_loops.specs.View as view
use Rattle.cw_gen.proofs.slots.+arrays.Given as goal

abbrev pub invariant-arrays_in_block-loop-line : goal.invariant-arrays_in_block-loop-line
invariant-arrays_in_block-loop-line l = spec.arrays_in_block l.n (view.block_of (drop l.line-index l.lines)) ≡ spec.arrays_in_block l.count (view.block_of l.lines)
