use Rattle.std.proofs.Common.{◌≡◌, ◌++◌}
use Rattle.std.specs.Prelude.{drop}
use Rattle.cw_gen.specs.Written.{kept_reducers}
use Rattle.cw_gen.proofs.whole.reducers_of.Given as goal

abbrev pub invariant-loop-r : goal.invariant-loop-r
invariant-loop-r l = l.kept.items ++ kept_reducers (drop l.r-index l.reducers) ≡ kept_reducers l.reducers
