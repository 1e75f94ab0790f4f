use Rattle.std.proofs.Common.{◌≡◌, drop, map, true}
use Rattle.std.specs.List.{list_all}
use Rattle.cw_tree.specs.ResolvedView.{listed_of, argument_of}
use Rattle.cw_own.specs.Bounds.{small_argument}
use Rattle.cw_own.specs.Sets.{slots_of, no_slot}
use Rattle.cw_own.specs.Reasons.{why_twice}
use Rattle.cw_own.proofs.reading.given_twice.Given as goal

abbrev pub invariant-loop-e : goal.invariant-loop-e
invariant-loop-e l = record {
  small : list_all small_argument (map argument_of (drop l.e-index l.es)) ≡ true;
  same : why_twice (listed_of l.callee) (slots_of l.seen.words) (map argument_of (drop l.e-index l.es)) ≡ why_twice (listed_of l.callee) no_slot (map argument_of l.es);
}
