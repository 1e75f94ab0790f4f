use Rattle.std.proofs.Common.{◌≡◌, drop, map, true}
use Rattle.std.specs.List.{list_all}
use Rattle.cw_tree.specs.ResolvedView.{argument_of}
use Rattle.cw_own.specs.Bounds.{small_argument}
use Rattle.cw_own.specs.Taken.{restrictions_of, with_arrays}
use Rattle.cw_own.proofs.gains.take_arrays.Given as goal

abbrev pub invariant-loop-e : goal.invariant-loop-e
invariant-loop-e l = record {
  small : list_all small_argument (map argument_of (drop l.e-index l.es)) ≡ true;
  same : with_arrays (map argument_of (drop l.e-index l.es)) (restrictions_of l.held) ≡ with_arrays (map argument_of l.es) (restrictions_of l.fn.held);
}
