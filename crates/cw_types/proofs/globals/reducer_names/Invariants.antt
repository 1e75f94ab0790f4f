use Rattle.std.proofs.Common.{◌≡◌, ◌++◌, drop, map, length}
use Rattle.cw_tree.specs.SyntaxView.{reducer_of}
use Rattle.cw_tree.specs.Resolved.{reducer_names}
use Rattle.cw_types.proofs.globals.reducer_names.Given as goal

abbrev pub invariant-loop-reducer : goal.invariant-loop-reducer
invariant-loop-reducer l = record {
  as_many : length l.names ≡ l.reducer-index;
  all : l.names ++ reducer_names (map reducer_of (drop l.reducer-index l.reducers)) ≡ reducer_names (map reducer_of l.reducers);
}
