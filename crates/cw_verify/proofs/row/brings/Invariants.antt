use Rattle.std.proofs.Common.{◌≡◌, ◌||◌}
use Rattle.std.specs.Prelude.{drop}
use Rattle.cw_verify.specs.Table.{brings}
use Rattle.cw_verify.proofs.row.brings.Given as goal

abbrev pub invariant-loop-a : goal.invariant-loop-a
invariant-loop-a l = (l.found || brings (drop l.a l.row) (drop l.a l.more)) ≡ brings l.row l.more
