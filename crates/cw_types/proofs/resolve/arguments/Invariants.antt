use Rattle.std.proofs.Common.{◌≡◌, ◌++◌, map, drop}
use Rattle.cw_tree.specs.SyntaxView as parsed
use Rattle.cw_types.specs.Locals.{locals_view}
use Rattle.cw_tree.specs.Resolved as spec
use Rattle.cw_tree.specs.ResolvedView.{argument_of}
use Rattle.cw_types.proofs.resolve.arguments.Given as goal

abbrev pub invariant-loop-e : goal.invariant-loop-e
invariant-loop-e l =
    map argument_of l.found.items
    ++ spec.resolved_arguments (locals_view l.locals) (map parsed.param_of l.left) (map parsed.expr_of (drop l.e-index l.es))
    ≡ spec.resolved_arguments (locals_view l.locals) (map parsed.param_of l.params) (map parsed.expr_of l.es)
