use Rattle.std.proofs.Common.{◌≡◌, ◌++◌, map, drop}
use Rattle.cw_tree.specs.Resolved as spec
use Rattle.cw_tree.specs.ResolvedView.{use_of}
use Rattle.cw_types.proofs.resolve.arrays.Given as goal

abbrev pub invariant-loop-name : goal.invariant-loop-name
invariant-loop-name l =
    map use_of l.found.items ++ map (spec.use_of l.names) (drop l.name-index l.over) ≡ map (spec.use_of l.names) l.over
