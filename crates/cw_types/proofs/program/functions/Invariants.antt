use Rattle.std.proofs.Common.{◌≡◌, ◌++◌, drop, map}
use Rattle.cw_tree.specs.SyntaxView as parsed
use Rattle.cw_types.specs.Locals.{lists_view}
use Rattle.cw_tree.specs.Resolved as spec
use Rattle.cw_tree.specs.ResolvedView.{function_of}
use Rattle.cw_types.proofs.program.functions.Given as goal

abbrev pub invariant-loop-f : goal.invariant-loop-f
invariant-loop-f l =
    map function_of l.found.items ++ map (spec.resolved_function (lists_view l.lists)) (map parsed.function_of (drop l.f-index l.functions))
    ≡ map (spec.resolved_function (lists_view l.lists)) (map parsed.function_of l.functions)
