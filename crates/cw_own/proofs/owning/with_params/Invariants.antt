use Rattle.std.proofs.Common.{◌≡◌, ◌+◌, drop, map}
use Rattle.cw_tree.specs.ResolvedView.{param_of}
use Rattle.cw_own.specs.Sets.{row_of, no_local}
use Rattle.cw_own.specs.Taken.{with_params}
use Rattle.cw_own.proofs.owning.with_params.Given as goal

abbrev pub invariant-loop-param : goal.invariant-loop-param
invariant-loop-param l = record {
  count : l.ints + l.arrays ≡ l.param-index;
  same : with_params l.ints l.arrays (map param_of (drop l.param-index l.params)) (row_of l.known) ≡ with_params 0 0 (map param_of l.params) no_local;
}
