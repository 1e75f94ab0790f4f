use Rattle.std.proofs.Common.{◌≡◌, ℕ, ◌+◌, ◌++◌, ◌≤◌, List, length, map, ap, ◌∙◌, arith}
use Rattle.std.proofs.lemmas.List.{length-map}
use Rattle.cw_tree.specs.SyntaxView as parsed
use Rattle.cw_tree.specs.Declares.{declares_in_block}
use Rattle.cw_types.specs.Locals.{lists_view}
use Rattle.cw_tree.specs.Resolved as spec
use Rattle.cw_tree.specs.ResolvedView.{block_of}
use Rattle.cw_tree.specs.lemmas.Slotted.{params_count, ints_fit, arrays_fit}
use Rattle.cw_types.proofs.program.function.Goals as goal

pub block-requires : goal.block-requires
block-requires c =
    let ps = map parsed.param_of c.args.f.now.params.items in
    let qs = map parsed.param_of c.deref.result.now in
    let ints : c.declare_params.new.locals.ints ≡ (spec.locals_of ps).ints =
    c.in_ok-declare_params.ensures.ints ∙ ap (λ (xs : List (List ℕ)). xs ++ (spec.locals_of qs).ints) c.new-locals.ensures.ints
    ∙ ap (λ rs. (spec.locals_of (map parsed.param_of rs)).ints) c.deref.ensures.value in
    let arrays : c.declare_params.new.locals.arrays ≡ (spec.locals_of ps).arrays =
    c.in_ok-declare_params.ensures.arrays ∙ ap (λ (xs : List (List ℕ)). xs ++ (spec.locals_of qs).arrays) c.new-locals.ensures.arrays
    ∙ ap (λ rs. (spec.locals_of (map parsed.param_of rs)).arrays) c.deref.ensures.value in
    let counted = params_count ps in
    let same = length-map c.args.f.now.params.items parsed.param_of in
    let lines = ap (λ ls. declares_in_block (parsed.block_of ls)) c.deref-2.ensures.value in
    omega (arith, ap length ints, ap length arrays, counted, same, lines, c.requires)

pub overflow_cast-result : goal.overflow_cast-result
overflow_cast-result c =
    let ps = map parsed.param_of c.args.f.now.params.items in
    let qs = map parsed.param_of c.deref.result.now in
    let ints : c.declare_params.new.locals.ints ≡ (spec.locals_of ps).ints =
    c.in_ok-declare_params.ensures.ints ∙ ap (λ (xs : List (List ℕ)). xs ++ (spec.locals_of qs).ints) c.new-locals.ensures.ints
    ∙ ap (λ rs. (spec.locals_of (map parsed.param_of rs)).ints) c.deref.ensures.value in
    let same = length-map c.args.f.now.params.items parsed.param_of in
    let lines = ap (λ ls. declares_in_block (parsed.block_of ls)) c.deref-2.ensures.value in
    let body = parsed.block_of c.deref-2.result.now in
    let small : length ps + declares_in_block body ≤ 256 = omega (arith, same, lines, c.requires) in
    let fits = ints_fit (lists_view c.args.lists.now) c.declare_params.new.locals.ints c.declare_params.new.locals.arrays ps body ints small in
    let value =
    c.ints_of_block-int_slots.ensures
    ∙ ap (λ ls. spec.ints_in_block c.len-known_ints.result (block_of ls)) c.deref-3.ensures.value
    ∙ ap (λ b. spec.ints_in_block c.len-known_ints.result b) c.in_ok-body.ensures.tree
    ∙ ap (λ n. spec.ints_in_block n (spec.resolved_block (lists_view c.args.lists.now) (record { ints = c.declare_params.new.locals.ints; arrays = c.declare_params.new.locals.arrays }) body)) c.len-known_ints.ensures in
    omega (arith, value, fits)

pub overflow_cast-result-2 : goal.overflow_cast-result-2
overflow_cast-result-2 c =
    let ps = map parsed.param_of c.args.f.now.params.items in
    let qs = map parsed.param_of c.deref.result.now in
    let arrays : c.declare_params.new.locals.arrays ≡ (spec.locals_of ps).arrays =
    c.in_ok-declare_params.ensures.arrays ∙ ap (λ (xs : List (List ℕ)). xs ++ (spec.locals_of qs).arrays) c.new-locals.ensures.arrays
    ∙ ap (λ rs. (spec.locals_of (map parsed.param_of rs)).arrays) c.deref.ensures.value in
    let same = length-map c.args.f.now.params.items parsed.param_of in
    let lines = ap (λ ls. declares_in_block (parsed.block_of ls)) c.deref-2.ensures.value in
    let body = parsed.block_of c.deref-2.result.now in
    let small : length ps + declares_in_block body ≤ 256 = omega (arith, same, lines, c.requires) in
    let fits = arrays_fit (lists_view c.args.lists.now) c.declare_params.new.locals.ints c.declare_params.new.locals.arrays ps body arrays small in
    let value =
    c.arrays_of_block-array_slots.ensures
    ∙ ap (λ ls. spec.arrays_in_block c.len-known_arrays.result (block_of ls)) c.deref-4.ensures.value
    ∙ ap (λ b. spec.arrays_in_block c.len-known_arrays.result b) c.in_ok-body.ensures.tree
    ∙ ap (λ n. spec.arrays_in_block n (spec.resolved_block (lists_view c.args.lists.now) (record { ints = c.declare_params.new.locals.ints; arrays = c.declare_params.new.locals.arrays }) body)) c.len-known_arrays.ensures in
    omega (arith, value, fits)
