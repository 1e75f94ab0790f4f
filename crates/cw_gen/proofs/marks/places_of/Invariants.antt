use Rattle.std.proofs.Common.{◌≡◌, ◌+◌, ◌++◌}
use Rattle.std.specs.Prelude.{drop, map}
use Rattle.cw_tree.specs.ResolvedView as source
use Rattle.cw_gen.specs.Marks as spec
use Rattle.cw_gen.proofs.marks.places_of.Given as goal

abbrev pub invariant-loop-p : goal.invariant-loop-p
invariant-loop-p l = record {
  table :
      l.table.items ++ spec.places_from l.arrays l.readers (spec.marks_in (map (λ p. p.kind) (map source.param_of (drop l.p-index l.params))))
      ≡ spec.places_from 0 0 (spec.marks_in (map (λ p. p.kind) (map source.param_of l.params)));
  readers : l.readers + spec.readers_in (spec.marks_in (map (λ p. p.kind) (map source.param_of (drop l.p-index l.params))))
      ≡ spec.readers_in (spec.marks_in (map (λ p. p.kind) (map source.param_of l.params)));
}
