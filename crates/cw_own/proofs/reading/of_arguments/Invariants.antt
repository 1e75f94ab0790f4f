use Rattle.std.proofs.Common.{◌≡◌, drop, map, option_map}
use Rattle.std.specs.Option.{option_or}
use Rattle.cw_tree.specs.ResolvedView.{argument_of}
use Rattle.cw_own.specs.Taken.{taken_of}
use Rattle.cw_own.specs.Reasons.{why_arguments}
use Rattle.cw_own.specs.Views.{view_of_reason, turn_of}
use Rattle.cw_own.proofs.reading.of_arguments.Given as goal

abbrev pub invariant-loop-e : goal.invariant-loop-e
invariant-loop-e l =
    option_or (view_of_reason l.first) (why_arguments (option_map turn_of l.around) (taken_of l.taken) (map argument_of (drop l.e-index l.es)))
    ≡ option_or (view_of_reason l.fn.first) (why_arguments (option_map turn_of l.around) (taken_of l.taken) (map argument_of l.es))
