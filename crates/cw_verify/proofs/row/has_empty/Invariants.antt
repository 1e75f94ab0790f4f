use Rattle.std.proofs.Common.{◌≡◌, ◌||◌}
use Rattle.std.specs.Prelude.{drop}
use Rattle.cw_verify.specs.Table.{any_empty}
use Rattle.cw_verify.proofs.row.has_empty.Given as goal

abbrev pub invariant-loop-a : goal.invariant-loop-a
invariant-loop-a l = (l.found || any_empty (drop l.a l.row)) ≡ any_empty l.row
