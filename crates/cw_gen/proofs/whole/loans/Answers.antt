use Rattle.std.proofs.Common.{length, map, ap, ◌∙◌, refl}
use Rattle.cw_tree.specs.ResolvedView.{function_of}
use Rattle.cw_loops.specs.Expanded.{loop_texts, with_bodies}
use Rattle.cw_loops.specs.View.{block_of, loop_of}
use Rattle.cw_gen.specs.Emit.{put_loans_of}
use Rattle.cw_gen.proofs.Joins.{loans_any, loans_of_both}
use Rattle.cw_gen.proofs.whole.loans.Goals as goal

pub returns : goal.returns
returns c =
    let functions = c.args.source.now.functions.items in
    let fs = map function_of functions in
    let bodies = map (λ b. block_of b.items) c.args.lowered.now.bodies.items in
    let loops = map loop_of c.args.lowered.now.loops.items in
    let none = map (λ loans. loans.items) c.in_ok-lists.lists.items in
    let mid = map (λ loans. loans.items) c.loans_of_bodies.new.lists.items in
    loans_of_both c.args.first (length fs) fs bodies loops none mid (map (λ loans. loans.items) c.loans_of_loops.new.lists.items) refl
    c.in_ok-lists.ensures
    (c.in_ok-loans_of_bodies.ensures
    ∙ ap (λ gs. put_loans_of (with_bodies (map function_of gs) (map (λ b. block_of b.items) c.deref-2.result.now)) none) c.deref.ensures.value
    ∙ ap (λ bs. put_loans_of (with_bodies fs (map (λ b. block_of b.items) bs)) none) c.deref-2.ensures.value)
    (c.in_ok-loans_of_loops.ensures ∙ ap (λ ls. put_loans_of (loop_texts 0 (map loop_of ls)) mid) c.deref-3.ensures.value ∙ loans_any 0 (length fs) loops mid)
