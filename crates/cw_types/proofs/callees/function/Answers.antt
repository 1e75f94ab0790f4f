use Rattle.std.proofs.Common.{ap, ◌∙◌, ◌≡◌, map, slice_get, option_copied, arith}
use Rattle.std.proofs.lemmas.Grind.{common_steps}
use Rattle.std.proofs.lemmas.Option.{gets}
use Rattle.cw_tree.specs.SyntaxView.{function_of}
use Rattle.cw_tree.specs.Resolved.{slot_of}
use Rattle.cw_types.proofs.Noting.{found_function, called_at}
use Rattle.cw_types.proofs.callees.function.Goals as goal

pub returns : goal.returns
returns c =
    let fs = c.args.lists.now.callees.now in
    let x = c.args.name.now in
    let found : option_copied c.get.result ≡ slice_get fs c.find-index.result = grind (arith, common_steps, gets, c.get.ensures.lookup) in
    found_function fs c.find-index.result c.get.result found
    ∙ ap (slice_get (map function_of fs)) (c.find-index.ensures ∙ ap (slot_of x) c.args.lists.now.functions_named)
    ∙ called_at x (map function_of fs)
