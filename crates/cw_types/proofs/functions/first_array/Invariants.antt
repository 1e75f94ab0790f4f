use Rattle.std.proofs.Common.{◌≡◌, drop, map}
use Rattle.std.specs.List.{list_any}
use Rattle.cw_model.specs.Syntax.{Param, is_array_param}
use Rattle.cw_tree.specs.SyntaxView.{param_of}
use Rattle.cw_types.proofs.functions.first_array.Given as goal

abbrev pub invariant-loop-param : goal.invariant-loop-param
invariant-loop-param l =
    list_any (λ (p : Param). is_array_param p) (map param_of (drop l.param-index l.params)) ≡ list_any (λ (p : Param). is_array_param p) (map param_of l.params)
