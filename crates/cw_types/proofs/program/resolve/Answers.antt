use Rattle.std.proofs.Common.{◌≡◌, ℕ, ◌+◌, ◌≤◌, List, [], ◌∷◌, length, map, All, refl, sym, ap, ◌∙◌, subst, arith}
use Rattle.std.proofs.lemmas.List.{length-map}
use Rattle.cw_model.specs.Answers.{main_name}
use Rattle.cw_model.specs.Sizes.{first_places}
use Rattle.cw_model.specs.Syntax.{Name, Reducer}
use Rattle.cw_tree.specs.declared.syntax.Function.{Function}
use Rattle.cw_tree.specs.SyntaxView as parsed
use Rattle.cw_types.specs.declared.regions.Marked.{Marked}
use Rattle.cw_tree.specs.Declares.{declares_in_block}
use Rattle.cw_types.specs.Locals.{lists_view}
use Rattle.cw_types.specs.Regions as code
use Rattle.cw_tree.specs.Resolved as spec
use Rattle.cw_tree.specs.ResolvedView.{function_of, reducer_of}
use Rattle.cw_tree.specs.lemmas.Few.{tags_few, heads_small, all_small}
use Rattle.cw_types.proofs.program.resolve.Goals as goal

tags_by_region : (ms : List Marked) → code.tags_of ms ≡ map (λ (d : Name × ℕ). d.0) (code.regions_of ms)
tags_by_region [] = refl
tags_by_region (m ∷ ms) = ap (λ xs. m.tag.now ∷ xs) (tags_by_region ms)

abbrev tree_from : List Reducer → List spec.Function → List Name → ℕ → spec.Resolved
tree_from rs fs ts m = record { reducers = rs; functions = fs; tags = ts; main = m }

tree_same : (rs ss : List Reducer) (fs gs : List spec.Function) (ts us : List Name) (m n : ℕ) → rs ≡ ss → fs ≡ gs → ts ≡ us → m ≡ n →
    tree_from rs fs ts m ≡ tree_from ss gs us n
tree_same rs ss fs gs ts us m n p q r s =
    ap (λ xs. tree_from xs fs ts m) p ∙ ap (λ xs. tree_from ss xs ts m) q ∙ ap (λ xs. tree_from ss gs xs m) r ∙ ap (λ k. tree_from ss gs us k) s

pub lists-requires-clause-few : goal.lists-requires-clause-few
lists-requires-clause-few c =
    let few = tags_few (parsed.program_of c.args.ast.now) c.requires in
    let places = c.in_ok-marked.ensures ∙ ap (λ fs. first_places (code.regions_of_all fs) []) c.deref-2.ensures.value in
    let counted = ap length places in
    let same = length-map c.in_ok-marked.marked.items code.region_of in
    let read = ap length c.deref-4.ensures.value in omega (arith, few, counted, same, read)

pub functions-requires : goal.functions-requires
functions-requires c =
    subst (λ (fs : List Function). All (λ f. length f.params.items + declares_in_block (parsed.block_of f.body.items) ≤ 256) fs) (sym c.deref-5.ensures.value)
    (all_small c.args.ast.now.functions.items (heads_small (parsed.program_of c.args.ast.now) c.requires))

pub returns : goal.returns
returns c =
    let P = parsed.program_of c.args.ast.now in
    let places = c.in_ok-marked.ensures ∙ ap (λ fs. first_places (code.regions_of_all fs) []) c.deref-2.ensures.value in
    let tags : code.tags_of c.in_ok-marked.marked.items ≡ spec.tags_of P =
    tags_by_region c.in_ok-marked.marked.items ∙ ap (λ (ds : List (Name × ℕ)). map (λ d. d.0) ds) places in
    let lists : lists_view c.in_ok-lists.lists ≡ spec.lists_of P =
    c.in_ok-lists.ensures
    ∙ ap (λ (ts : List Name). let l : spec.Lists = record { callees = P.functions; functions = spec.function_names P.functions; reducers = spec.reducer_names P.reducers; tags = ts } in l) (ap code.tags_of c.deref-4.ensures.value ∙ tags) in
    tree_same (map reducer_of c.in_ok-reducers.reducers.items) P.reducers (map function_of c.in_ok-functions.functions.items) (map (spec.resolved_function (spec.lists_of P)) P.functions)
    c.in_ok-tags.tags.items (spec.tags_of P) c.find-main.result (spec.slot_of main_name (spec.function_names P.functions))
    (c.in_ok-reducers.ensures ∙ ap (map parsed.reducer_of) c.deref.ensures.value)
    (c.in_ok-functions.ensures
    ∙ ap (λ fs. map (spec.resolved_function (lists_view c.in_ok-lists.lists)) (map parsed.function_of fs)) c.deref-5.ensures.value
    ∙ ap (λ ls. map (spec.resolved_function ls) P.functions) lists)
    (c.in_ok-tags.ensures ∙ ap code.tags_of c.deref-3.ensures.value ∙ tags)
    (c.find-main.ensures ∙ ap (spec.slot_of main_name) (ap (λ l. l.functions) lists))
