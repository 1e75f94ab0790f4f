use Rattle.std.proofs.Common.{◌≡◌, drop, map}
use Rattle.cw_model.specs.Names.{is_among}
use Rattle.cw_tree.specs.SyntaxView.{param_of}
use Rattle.cw_types.specs.Names.{param_names}
use Rattle.cw_types.proofs.functions.is_param.Given as goal

abbrev pub invariant-loop-param : goal.invariant-loop-param
invariant-loop-param l =
    is_among l.name (param_names (map param_of (drop l.param-index l.params))) ≡ is_among l.name (param_names (map param_of l.params))
