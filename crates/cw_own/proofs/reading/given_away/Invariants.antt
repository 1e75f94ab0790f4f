use Rattle.std.proofs.Common.{◌≡◌, drop, map, true}
use Rattle.std.specs.List.{list_all}
use Rattle.cw_tree.specs.ResolvedView.{argument_of}
use Rattle.cw_own.specs.Bounds.{small_argument}
use Rattle.cw_own.specs.Sets.{slots_of, no_slot}
use Rattle.cw_own.specs.Rules.{given_away}
use Rattle.cw_own.proofs.reading.given_away.Given as goal

abbrev pub invariant-loop-e : goal.invariant-loop-e
invariant-loop-e l = record {
  small : list_all small_argument (map argument_of (drop l.e-index l.es)) ≡ true;
  same : given_away (map argument_of (drop l.e-index l.es)) (slots_of l.given.words) ≡ given_away (map argument_of l.es) no_slot;
}
