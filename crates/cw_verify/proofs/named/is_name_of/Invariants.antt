use Rattle.std.proofs.Common.{◌≡◌}
use Rattle.std.specs.Prelude.{drop}
use Rattle.cw_code.specs.Code.{reducer_names}
use Rattle.cw_code.specs.Fits.{is_among}
use Rattle.cw_verify.proofs.named.is_name_of.Given as goal

abbrev pub invariant-loop-k : goal.invariant-loop-k
invariant-loop-k l = is_among l.name (drop l.from (reducer_names l.reducers)) ≡ is_among l.name (drop l.k (reducer_names l.reducers))
