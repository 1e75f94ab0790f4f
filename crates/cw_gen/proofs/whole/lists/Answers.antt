use Rattle.std.proofs.Common.{◌≡◌, ◌+◌, length, map, ap, ◌∙◌, sym, arith, rules}
use Rattle.std.proofs.lemmas.List.{length-map}
use Rattle.cw_tree.specs.ResolvedView.{function_of}
use Rattle.cw_loops.specs.Expanded.{loop_texts, with_bodies}
use Rattle.cw_loops.specs.View.{block_of, loop_of}
use Rattle.cw_gen.specs.Emit.{put_lists_of}
use Rattle.cw_gen.proofs.Joins.{lists_of_both}
use Rattle.cw_gen.proofs.whole.lists.Goals as goal

pub returns : goal.returns
returns c =
    let first = c.args.first in
    let index = c.len-index.result in
    let functions = c.args.source.now.functions.items in
    let fs = map function_of functions in
    let bodies = map (λ b. block_of b.items) c.args.lowered.now.bodies.items in
    let turns = c.args.lowered.now.loops.items in
    let loops = map loop_of turns in
    let none = map (λ slots. slots.items) c.in_ok-lists.lists.items in
    let mid = map (λ slots. slots.items) c.lists_of_bodies.new.lists.items in
    let is_index : index ≡ length functions = search (rules, c.len-index.ensures) in
    let is_count : c.len.result ≡ length functions = search (rules, c.len.ensures) in
    let is_loops : c.len-2.result ≡ length turns = search (rules, c.len-2.ensures) in
    let count : c.len.result + c.len-2.result ≡ length fs + length loops = omega (arith, is_count, is_loops, length-map functions function_of, length-map turns loop_of) in
    lists_of_both first index (c.len.result + c.len-2.result) fs bodies loops none mid (map (λ slots. slots.items) c.lists_of_loops.new.lists.items) c.requires.small.bodies (is_index ∙ sym (length-map functions function_of)) count
    c.in_ok-lists.ensures
    (c.in_ok-lists_of_bodies.ensures
    ∙ ap (λ gs. put_lists_of first (with_bodies (map function_of gs) (map (λ b. block_of b.items) c.deref-2.result.now)) none) c.deref.ensures.value
    ∙ ap (λ bs. put_lists_of first (with_bodies fs (map (λ b. block_of b.items) bs)) none) c.deref-2.ensures.value)
    (c.in_ok-lists_of_loops.ensures ∙ ap (λ ls. put_lists_of first (loop_texts index (map loop_of ls)) mid) c.deref-3.ensures.value)
