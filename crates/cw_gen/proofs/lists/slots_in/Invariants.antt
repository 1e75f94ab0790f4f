use Rattle.std.proofs.Common.{◌≡◌, ◌++◌}
use Rattle.std.specs.Prelude.{drop, map}
use Rattle.cw_gen.specs.Emit as spec
use Rattle.cw_loops.specs.View as view
use Rattle.cw_gen.proofs.lists.slots_in.Given as goal

abbrev pub invariant-loop-argument : goal.invariant-loop-argument
invariant-loop-argument l = l.slots.items ++ spec.passed_in l.places (map view.argument_of (drop l.argument-index l.arguments)) ≡ spec.passed_in l.places (map view.argument_of l.arguments)
