use Rattle.std.proofs.Common.{◌≡◌, ◌++◌, drop, map, length}
use Rattle.cw_tree.specs.SyntaxView.{function_of}
use Rattle.cw_tree.specs.Resolved.{function_names}
use Rattle.cw_types.proofs.globals.function_names.Given as goal

abbrev pub invariant-loop-function : goal.invariant-loop-function
invariant-loop-function l = record {
  as_many : length l.names ≡ l.function-index;
  all : l.names ++ function_names (map function_of (drop l.function-index l.functions)) ≡ function_names (map function_of l.functions);
}
