use Rattle.std.proofs.Common.{◌≡◌, ◌++◌}
use Rattle.std.specs.Prelude.{drop, map}
use Rattle.cw_gen.specs.Emit as spec
use Rattle.cw_loops.specs.View as view
use Rattle.cw_gen.proofs.expressions.arguments.Given as goal

abbrev pub invariant-loop-e : goal.invariant-loop-e
invariant-loop-e l = l.instrs.items ++ spec.emitted_args l.places l.line (map view.argument_of (drop l.e-index l.es))
    ≡ l.initial.instrs.items ++ spec.emitted_args l.places l.line (map view.argument_of l.es)
