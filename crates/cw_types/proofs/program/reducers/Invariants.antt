use Rattle.std.proofs.Common.{◌≡◌, ◌++◌, drop, map}
use Rattle.cw_tree.specs.SyntaxView as parsed
use Rattle.cw_tree.specs.ResolvedView.{reducer_of}
use Rattle.cw_types.proofs.program.reducers.Given as goal

abbrev pub invariant-loop-reducer : goal.invariant-loop-reducer
invariant-loop-reducer l = map reducer_of l.found.items ++ map parsed.reducer_of (drop l.reducer-index l.reducers) ≡ map parsed.reducer_of l.reducers
