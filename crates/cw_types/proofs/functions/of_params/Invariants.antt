use Rattle.std.proofs.Common.{◌≡◌, [], drop, map, take}
use Rattle.cw_model.specs.Typing.{known_of}
use Rattle.cw_tree.specs.SyntaxView.{param_of, program_of}
use Rattle.cw_types.specs.Typing.{are_new}
use Rattle.cw_types.proofs.functions.of_params.Given as goal

abbrev pub invariant-loop-i : goal.invariant-loop-i
invariant-loop-i l =
    are_new (program_of l.globals.ast.now) (known_of (map param_of (take l.i l.params))) (map param_of (drop l.i l.params))
    ≡ are_new (program_of l.globals.ast.now) [] (map param_of l.params)
