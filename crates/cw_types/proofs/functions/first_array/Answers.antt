use Rattle.std.proofs.Common.{◌≡◌, Bool, Contains, map, subst, sym, true}
use Rattle.cw_model.specs.Syntax.{is_array_param}
use Rattle.cw_tree.specs.SyntaxView.{param_of}
use Rattle.cw_types.specs.Reasons.{named_array}
use Rattle.cw_types.specs.ReasonMeaning.{are_arrays}
use Rattle.cw_types.proofs.Repeating.{in_maps}
use Rattle.cw_types.proofs.functions.first_array.Goals as goal

pub returns-then-is_array-clause-holds : goal.returns-then-is_array-clause-holds
returns-then-is_array-clause-holds c =
    let ps = c.args.params.now in
    let p = c.param-item.result in
    let array : is_array_param (param_of p) ≡ true = sym c.if-is_array.ensures in
    let there = in_maps param_of named_array ps c.loop-param.param-index p c.loop-param-test.true c.param-item.is in
    subst (λ (b : Bool). Contains (are_arrays (map param_of ps)) (p.name, b)) array there
