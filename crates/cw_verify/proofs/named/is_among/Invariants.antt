use Rattle.std.proofs.Common.{◌≡◌}
use Rattle.std.specs.Prelude.{drop}
use Rattle.cw_code.specs.Fits.{is_among}
use Rattle.cw_verify.proofs.named.is_among.Given as goal

abbrev pub invariant-loop-k : goal.invariant-loop-k
invariant-loop-k l = is_among l.name (drop l.from l.names) ≡ is_among l.name (drop l.k l.names)
