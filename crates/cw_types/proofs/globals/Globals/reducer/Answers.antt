use Rattle.std.proofs.Common.{ap, ◌∙◌, ◌≡◌, map, slice_get, option_copied, is_some, arith}
use Rattle.std.proofs.lemmas.Grind.{common_steps}
use Rattle.std.proofs.lemmas.Option.{gets}
use Rattle.cw_model.specs.Typing.{reducer_called}
use Rattle.cw_tree.specs.SyntaxView.{reducer_of}
use Rattle.cw_tree.specs.Resolved.{slot_of}
use Rattle.cw_types.specs.Globals.{option_reducer}
use Rattle.cw_types.proofs.Noting.{as_some, found_reducer, reducer_among, reducer_at, reducer_there}
use Rattle.cw_types.proofs.globals.Globals.reducer.Goals as goal

pub returns-clause-is : goal.returns-clause-is
returns-clause-is c =
    let rs = c.args.self.now.ast.now.reducers.items in
    let x = c.args.name.now in
    let looked : option_copied c.get.result ≡ slice_get rs c.find-index.result = grind (arith, common_steps, gets, c.get.ensures.lookup, c.deref.ensures.value) in
    found_reducer rs c.find-index.result c.get.result looked
    ∙ ap (slice_get (map reducer_of rs)) (c.find-index.ensures ∙ ap (slot_of x) c.args.self.now.reducers_named)
    ∙ reducer_at x (map reducer_of rs)

pub returns-clause-there : goal.returns-clause-there
returns-clause-there c =
    let rs = c.args.self.now.ast.now.reducers.items in
    let x = c.args.name.now in
    let looked : option_copied c.get.result ≡ slice_get rs c.find-index.result = grind (arith, common_steps, gets, c.get.ensures.lookup, c.deref.ensures.value) in
    let found : option_reducer c.get.result ≡ reducer_called x (map reducer_of rs) =
    found_reducer rs c.find-index.result c.get.result looked
    ∙ ap (slice_get (map reducer_of rs)) (c.find-index.ensures ∙ ap (slot_of x) c.args.self.now.reducers_named)
    ∙ reducer_at x (map reducer_of rs) in
    as_some (λ r. reducer_of r.now) c.get.result ∙ ap is_some found ∙ reducer_among x (map reducer_of rs)

pub returns-clause-of_line : goal.returns-clause-of_line
returns-clause-of_line c =
    let rs = c.args.self.now.ast.now.reducers.items in
    let x = c.args.name.now in
    let looked : option_copied c.get.result ≡ slice_get rs c.find-index.result = grind (arith, common_steps, gets, c.get.ensures.lookup, c.deref.ensures.value) in
    reducer_there x (map reducer_of rs) c.get.result
    (found_reducer rs c.find-index.result c.get.result looked
    ∙ ap (slice_get (map reducer_of rs)) (c.find-index.ensures ∙ ap (slot_of x) c.args.self.now.reducers_named)
    ∙ reducer_at x (map reducer_of rs))
