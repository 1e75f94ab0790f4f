use Rattle.std.proofs.Common.{◌≡◌, drop, map, true}
use Rattle.std.specs.List.{list_all}
use Rattle.cw_tree.specs.ResolvedView.{use_of}
use Rattle.cw_own.specs.Bounds.{is_small}
use Rattle.cw_own.specs.Sets.{slots_of, no_slot}
use Rattle.cw_own.specs.Reasons.{why_over_twice}
use Rattle.cw_own.proofs.reading.over_twice.Given as goal

abbrev pub invariant-loop-used : goal.invariant-loop-used
invariant-loop-used l = record {
  small : list_all is_small (map use_of (drop l.used-index l.uses)) ≡ true;
  same : why_over_twice (slots_of l.seen.words) (map use_of (drop l.used-index l.uses)) ≡ why_over_twice no_slot (map use_of l.uses);
}
