use Rattle.std.proofs.Common.{ap, ◌∙◌, ◌≡◌, map, slice_get, option_copied, is_some, arith}
use Rattle.std.proofs.lemmas.Grind.{common_steps}
use Rattle.std.proofs.lemmas.Option.{gets}
use Rattle.cw_model.specs.Typing.{called}
use Rattle.cw_tree.specs.SyntaxView.{function_of}
use Rattle.cw_tree.specs.Resolved.{slot_of}
use Rattle.cw_types.specs.Globals.{option_function}
use Rattle.cw_types.proofs.Noting.{as_some, called_among, called_at, first_function, found_function}
use Rattle.cw_types.proofs.globals.Globals.function.Goals as goal

pub returns-clause-there : goal.returns-clause-there
returns-clause-there c =
    let fs = c.args.self.now.ast.now.functions.items in
    let x = c.args.name.now in
    let looked : option_copied c.get.result ≡ slice_get fs c.find-index.result = grind (arith, common_steps, gets, c.get.ensures.lookup, c.deref.ensures.value) in
    let found : option_function c.get.result ≡ called x (map function_of fs) =
    found_function fs c.find-index.result c.get.result looked
    ∙ ap (slice_get (map function_of fs)) (c.find-index.ensures ∙ ap (slot_of x) c.args.self.now.functions_named)
    ∙ called_at x (map function_of fs) in
    as_some (λ f. function_of f.now) c.get.result ∙ ap is_some found ∙ called_among x (map function_of fs)

pub returns-clause-first : goal.returns-clause-first
returns-clause-first c =
    let fs = c.args.self.now.ast.now.functions.items in
    let x = c.args.name.now in
    let looked : option_copied c.get.result ≡ slice_get fs c.find-index.result = grind (arith, common_steps, gets, c.get.ensures.lookup, c.deref.ensures.value) in
    first_function x (map function_of fs) c.get.result
    (found_function fs c.find-index.result c.get.result looked
    ∙ ap (slice_get (map function_of fs)) (c.find-index.ensures ∙ ap (slot_of x) c.args.self.now.functions_named)
    ∙ called_at x (map function_of fs))
