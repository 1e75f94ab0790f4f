use Rattle.std.proofs.Common.{◌≡◌, ◌++◌, length, map, ap, ◌∙◌, sym, rules}
use Rattle.std.proofs.lemmas.List.{length-map}
use Rattle.cw_tree.specs.ResolvedView.{function_of}
use Rattle.cw_loops.specs.Expanded.{loop_texts, with_bodies}
use Rattle.cw_loops.specs.View.{block_of, loop_of}
use Rattle.cw_gen.specs.Emit.{emitted_instrs, emitted_funcs}
use Rattle.cw_gen.proofs.Joins.{instrs_of_both, funcs_of_both}
use Rattle.cw_gen.proofs.whole.functions.Goals as goal

-- the code of the source functions, after the code before it
front : (c : goal.In_ok-loop_functions) →
    c.functions_with.new.instrs.items ≡ c.args.instrs.now.items ++ emitted_instrs c.args.first (with_bodies (map function_of c.args.source.now.functions.items) (map (λ b. block_of b.items) c.args.lowered.now.bodies.items))
front c =
    let old = c.args.instrs.now.items in
    let first = c.args.first in
    c.in_ok-functions_with.ensures.instrs
    ∙ ap (λ fs. old ++ emitted_instrs first (with_bodies (map function_of fs) (map (λ b. block_of b.items) c.deref-2.result.now))) c.deref.ensures.value
    ∙ ap (λ bs. old ++ emitted_instrs first (with_bodies (map function_of c.args.source.now.functions.items) (map (λ b. block_of b.items) bs))) c.deref-2.ensures.value

-- the index of the first loop
index_is : (c : goal.In_ok-loop_functions) → c.len-index.result ≡ length (map function_of c.args.source.now.functions.items)
index_is c =
    let functions = c.args.source.now.functions.items in
    let n : c.len-index.result ≡ length functions = search (rules, c.len-index.ensures) in
    n ∙ sym (length-map functions function_of)

pub returns-clause-instrs : goal.returns-clause-instrs
returns-clause-instrs c =
    let first = c.args.first in
    let index = c.len-index.result in
    let fs = map function_of c.args.source.now.functions.items in
    let bodies = map (λ b. block_of b.items) c.args.lowered.now.bodies.items in
    let loops = map loop_of c.args.lowered.now.loops.items in
    let mid = c.functions_with.new.instrs.items in
    instrs_of_both first index fs bodies loops c.args.instrs.now.items mid c.loop_functions.new.instrs.items c.requires.instrs (index_is c) (front c)
    (c.in_ok-loop_functions.ensures.instrs ∙ ap (λ ls. mid ++ emitted_instrs first (loop_texts index (map loop_of ls))) c.deref-3.ensures.value)

pub returns-clause-funcs : goal.returns-clause-funcs
returns-clause-funcs c =
    let first = c.args.first in
    let index = c.len-index.result in
    let fs = map function_of c.args.source.now.functions.items in
    let bodies = map (λ b. block_of b.items) c.args.lowered.now.bodies.items in
    let loops = map loop_of c.args.lowered.now.loops.items in
    let old = c.args.instrs.now.items in
    let mid = c.functions_with.new.instrs.items in
    let old_funcs = c.args.funcs.now.items in
    let mid_funcs = c.functions_with.new.funcs.items in
    let front_funcs =
    c.in_ok-functions_with.ensures.funcs
    ∙ ap (λ gs. old_funcs ++ emitted_funcs first (length old) (with_bodies (map function_of gs) (map (λ b. block_of b.items) c.deref-2.result.now))) c.deref.ensures.value
    ∙ ap (λ bs. old_funcs ++ emitted_funcs first (length old) (with_bodies fs (map (λ b. block_of b.items) bs))) c.deref-2.ensures.value in
    funcs_of_both first index fs bodies loops old mid old_funcs mid_funcs c.loop_functions.new.funcs.items c.requires.instrs c.requires.funcs (index_is c) (front c) front_funcs
    (c.in_ok-loop_functions.ensures.funcs ∙ ap (λ ls. mid_funcs ++ emitted_funcs first (length mid) (loop_texts index (map loop_of ls))) c.deref-3.ensures.value)
