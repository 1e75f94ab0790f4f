use Rattle.std.proofs.Common.{◌≡◌, ◌++◌, drop, map}
use Rattle.cw_tree.specs.SyntaxView as parsed
use Rattle.cw_tree.specs.ResolvedView.{param_of}
use Rattle.cw_types.proofs.program.params.Given as goal

abbrev pub invariant-loop-param : goal.invariant-loop-param
invariant-loop-param l = map param_of l.found.items ++ map parsed.param_of (drop l.param-index l.params) ≡ map parsed.param_of l.params
