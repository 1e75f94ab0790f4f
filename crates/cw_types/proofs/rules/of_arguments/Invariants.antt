use Rattle.std.proofs.Common.{◌≡◌, drop, length, map}
use Rattle.cw_model.specs.Typing.{are_arguments}
use Rattle.cw_tree.specs.SyntaxView.{expr_of, param_of}
use Rattle.cw_types.specs.Scope.{kinds}
use Rattle.cw_types.proofs.rules.of_arguments.Given as goal

abbrev pub invariant-loop-i : goal.invariant-loop-i
invariant-loop-i l = record {
  as_many : length l.params ≡ length l.arguments;
  same : are_arguments (kinds l.known) (map param_of (drop l.i l.params)) (map expr_of (drop l.i l.arguments))
      ≡ are_arguments (kinds l.known) (map param_of l.params) (map expr_of l.arguments);
}
