use Rattle.std.proofs.Common.{◌≡◌}
use Rattle.std.specs.Prelude.{take}
use Rattle.cw_verify.specs.Table.{either_empty}
use Rattle.cw_verify.proofs.row.either_empty.Given as goal

abbrev pub invariant-loop-a : goal.invariant-loop-a
invariant-loop-a l = l.both.items ≡ either_empty l.row (take l.a l.more)
