use Rattle.std.proofs.Common.{◌≡◌, [], drop, map}
use Rattle.cw_tree.specs.SyntaxView.{param_of}
use Rattle.cw_types.specs.Scope.{with_params}
use Rattle.cw_types.proofs.functions.known_in.Given as goal

abbrev pub invariant-loop-param : goal.invariant-loop-param
invariant-loop-param l =
    with_params l.function.line (map param_of (drop l.param-index l.function.params.items)) l.known
    ≡ with_params l.function.line (map param_of l.function.params.items) []
