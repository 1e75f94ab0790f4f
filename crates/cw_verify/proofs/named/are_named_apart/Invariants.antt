use Rattle.std.proofs.Common.{◌≡◌}
use Rattle.std.specs.Prelude.{drop}
use Rattle.cw_code.specs.Code.{reducer_names}
use Rattle.cw_code.specs.Fits.{are_apart}
use Rattle.cw_verify.proofs.named.are_named_apart.Given as goal

abbrev pub invariant-loop-k : goal.invariant-loop-k
invariant-loop-k l = are_apart (reducer_names l.reducers) ≡ are_apart (drop l.k (reducer_names l.reducers))
