use Rattle.std.proofs.Common.{◌≡◌, drop, map}
use Rattle.cw_tree.specs.Resolved.{first_uses, arguments_read}
use Rattle.cw_tree.specs.ResolvedView.{use_of, argument_of}
use Rattle.cw_types.proofs.captured.arguments.Given as goal

abbrev pub invariant-loop-e : goal.invariant-loop-e
invariant-loop-e l =
    first_uses l.count (map use_of l.found.items) (arguments_read (map argument_of (drop l.e-index l.es)))
    ≡ first_uses l.count (map use_of l.fn.found.items) (arguments_read (map argument_of l.es))
