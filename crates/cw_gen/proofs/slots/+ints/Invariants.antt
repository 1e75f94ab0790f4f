use Rattle.std.proofs.Common.{◌≡◌}
use Rattle.std.specs.Prelude.{drop}
use Rattle.cw_gen.specs.Emit as spec
use Rattle.cw_loops.specs.View as view
use Rattle.cw_gen.proofs.slots.+ints.Given as goal

abbrev pub invariant-ints_in_block-loop-line : goal.invariant-ints_in_block-loop-line
invariant-ints_in_block-loop-line l = spec.ints_in_block l.n (view.block_of (drop l.line-index l.lines)) ≡ spec.ints_in_block l.count (view.block_of l.lines)
