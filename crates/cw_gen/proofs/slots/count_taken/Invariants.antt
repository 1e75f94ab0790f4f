use Rattle.std.proofs.Common.{◌≡◌, ◌≤◌, ◌+◌}
use Rattle.std.specs.Prelude.{drop, map}
use Rattle.cw_tree.specs.ResolvedView as source
use Rattle.cw_gen.specs.Marks as spec
use Rattle.cw_gen.proofs.slots.count_taken.Given as goal

abbrev pub invariant-loop-p : goal.invariant-loop-p
invariant-loop-p l = record {
  counted : l.count + spec.count_taken (map (λ p. p.kind) (map source.param_of (drop l.p-index l.params))) ≡ spec.count_taken (map (λ p. p.kind) (map source.param_of l.params));
  few : l.count ≤ l.p-index;
}
