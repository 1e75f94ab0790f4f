use Rattle.std.proofs.Common.{◌≡◌}
use Rattle.std.specs.Prelude.{drop}
use Rattle.cw_code.specs.Fits.{has_arrays}
use Rattle.cw_verify.specs.Table.{shape_view}
use Rattle.cw_verify.proofs.found.has_arrays.Given as goal

abbrev pub invariant-loop-a : goal.invariant-loop-a
invariant-loop-a l = has_arrays (shape_view l.found) l.passed ≡ has_arrays (shape_view l.found) (drop l.a-index l.passed)
