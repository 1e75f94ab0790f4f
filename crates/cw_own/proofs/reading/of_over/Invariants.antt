use Rattle.std.proofs.Common.{◌≡◌, drop, map, option_map}
use Rattle.std.specs.Option.{option_or}
use Rattle.cw_tree.specs.ResolvedView.{use_of}
use Rattle.cw_own.specs.Taken.{taken_of}
use Rattle.cw_own.specs.Reasons.{why_over}
use Rattle.cw_own.specs.Views.{view_of_reason, turn_of}
use Rattle.cw_own.proofs.reading.of_over.Given as goal

abbrev pub invariant-loop-used : goal.invariant-loop-used
invariant-loop-used l =
    option_or (view_of_reason l.first) (why_over (option_map turn_of l.around) (taken_of l.taken) (map use_of (drop l.used-index l.uses)))
    ≡ option_or (view_of_reason l.fn.first) (why_over (option_map turn_of l.around) (taken_of l.taken) (map use_of l.uses))
