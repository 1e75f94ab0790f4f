use Rattle.std.proofs.Common.{◌≡◌}
use Rattle.std.specs.Prelude.{drop}
use Rattle.cw_verify.specs.Table.{shape_view, are_thawed}
use Rattle.cw_verify.proofs.found.are_thawed.Given as goal

abbrev pub invariant-loop-a : goal.invariant-loop-a
invariant-loop-a l = are_thawed (shape_view l.found) l.slots ≡ are_thawed (shape_view l.found) (drop l.a-index l.slots)
