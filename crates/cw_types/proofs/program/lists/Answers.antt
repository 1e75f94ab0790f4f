use Rattle.std.proofs.Common.{◌≡◌, List, length, map, ap, ◌∙◌, arith}
use Rattle.std.proofs.lemmas.List.{length-map}
use Rattle.cw_model.specs.Syntax as model
use Rattle.cw_model.specs.Syntax.{Name}
use Rattle.cw_tree.specs.SyntaxView as parsed
use Rattle.cw_tree.specs.Resolved as spec
use Rattle.cw_tree.specs.lemmas.Few.{functions_few, reducers_few}
use Rattle.cw_types.specs.Regions.{tags_of}
use Rattle.cw_types.proofs.program.lists.Goals as goal

abbrev lists_from : List model.Function → List Name → List Name → List Name → spec.Lists
lists_from cs fs rs ts = record { callees = cs; functions = fs; reducers = rs; tags = ts }

lists_same : (cs ds : List model.Function) (fs gs rs ss ts us : List Name) → cs ≡ ds → fs ≡ gs → rs ≡ ss → ts ≡ us → lists_from cs fs rs ts ≡ lists_from ds gs ss us
lists_same cs ds fs gs rs ss ts us o p q r =
    ap (λ xs. lists_from xs fs rs ts) o ∙ ap (λ xs. lists_from ds xs rs ts) p ∙ ap (λ xs. lists_from ds gs xs ts) q ∙ ap (λ xs. lists_from ds gs ss xs) r

pub function_names-requires : goal.function_names-requires
function_names-requires c =
    let few = functions_few (parsed.program_of c.args.ast.now) c.requires.limits in
    let same = length-map c.args.ast.now.functions.items parsed.function_of in
    let read = ap length c.deref.ensures.value in omega (arith, few, same, read)

pub reducer_names-requires : goal.reducer_names-requires
reducer_names-requires c =
    let few = reducers_few (parsed.program_of c.args.ast.now) c.requires.limits in
    let same = length-map c.args.ast.now.reducers.items parsed.reducer_of in
    let read = ap length c.deref-2.ensures.value in omega (arith, few, same, read)

pub returns : goal.returns
returns c =
    let P = parsed.program_of c.args.ast.now in
    lists_same (map parsed.function_of c.deref-3.result.now) P.functions c.in_ok-functions.functions (spec.function_names P.functions) c.in_ok-reducers.reducers (spec.reducer_names P.reducers) c.in_ok-tags.tags (tags_of c.args.marked.now)
    (ap (map parsed.function_of) c.deref-3.ensures.value)
    (c.in_ok-functions.ensures ∙ ap (λ fs. spec.function_names (map parsed.function_of fs)) c.deref.ensures.value)
    (c.in_ok-reducers.ensures ∙ ap (λ rs. spec.reducer_names (map parsed.reducer_of rs)) c.deref-2.ensures.value)
    c.in_ok-tags.ensures
