use Rattle.std.proofs.Common.{◌≡◌}
use Rattle.std.specs.Prelude.{drop}
use Rattle.cw_verify.specs.Table.{are_unmarked}
use Rattle.cw_verify.proofs.named.are_unmarked.Given as goal

abbrev pub invariant-loop-a : goal.invariant-loop-a
invariant-loop-a l = are_unmarked l.initial.row.items l.slots ≡ are_unmarked l.row.items (drop l.a-index l.slots)
