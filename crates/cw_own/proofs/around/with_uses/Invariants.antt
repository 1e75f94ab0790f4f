use Rattle.std.proofs.Common.{◌≡◌, drop, map, true}
use Rattle.std.specs.List.{list_all}
use Rattle.cw_tree.specs.ResolvedView.{use_of}
use Rattle.cw_own.specs.Bounds.{is_small}
use Rattle.cw_own.specs.Sets.{slots_of}
use Rattle.cw_own.specs.Rules.{with_uses}
use Rattle.cw_own.proofs.around.with_uses.Given as goal

abbrev pub invariant-loop-used : goal.invariant-loop-used
invariant-loop-used l = record {
  small : list_all is_small (map use_of (drop l.used-index l.uses)) ≡ true;
  same : with_uses (map use_of (drop l.used-index l.uses)) (slots_of l.set.words) ≡ with_uses (map use_of l.uses) (slots_of l.fn.set.words);
}
