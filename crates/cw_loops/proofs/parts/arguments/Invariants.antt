use Rattle.std.proofs.Common.{◌≡◌, ◌++◌, map, drop}
use Rattle.cw_tree.specs.ResolvedView as source
use Rattle.cw_loops.specs.Moved.{moved_argument}
use Rattle.cw_loops.specs.Moving.{moves_view}
use Rattle.cw_loops.specs.View.{argument_of}
use Rattle.cw_loops.proofs.parts.arguments.Given as goal

abbrev pub invariant-loop-e : goal.invariant-loop-e
invariant-loop-e l =
    map argument_of l.made.items ++ map (moved_argument (moves_view l.moves)) (map source.argument_of (drop l.e-index l.es))
    ≡ map (moved_argument (moves_view l.moves)) (map source.argument_of l.es)
