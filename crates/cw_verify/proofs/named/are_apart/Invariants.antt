use Rattle.std.proofs.Common.{◌≡◌}
use Rattle.std.specs.Prelude.{drop}
use Rattle.cw_code.specs.Fits.{are_apart}
use Rattle.cw_verify.proofs.named.are_apart.Given as goal

abbrev pub invariant-loop-k : goal.invariant-loop-k
invariant-loop-k l = are_apart l.names ≡ are_apart (drop l.k l.names)
