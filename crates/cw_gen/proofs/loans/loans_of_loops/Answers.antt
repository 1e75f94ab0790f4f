use Rattle.std.proofs.Common.{◌≡◌, ◌+◌, ◌∷◌, map, drop, ap, ◌∙◌, arith}
use Rattle.std.proofs.lemmas.Grind.{common_steps}
use Rattle.cw_loops.specs.View.{block_of, loop_of}
use Rattle.cw_gen.specs.Emit.{put_loans_in}
use Rattle.cw_gen.proofs.Joins.{loans_next}
use Rattle.cw_gen.proofs.loans.loans_of_loops.Goals as goal

pub loop-l-preserved : goal.loop-l-preserved
loop-l-preserved c =
    let i = c.loop-l.l-index in
    let item = c.l-item.result in
    let left = map loop_of (drop i c.args.loops.now) in
    let rest = map loop_of (drop (i + 1) c.args.loops.now) in
    let now = map (λ loans. loans.items) c.loop-l.lists.items in
    let split : left ≡ loop_of item ∷ rest = grind (arith, common_steps) in
    loans_next (loop_of item) rest left now (map (λ loans. loans.items) c.loans_in.new.lists.items) _ split
    (c.in_ok-loans_in.ensures
    ∙ ap (λ items. put_loans_in c.none-places.result (block_of items) now) c.deref.ensures.value
    ∙ ap (λ ms. put_loans_in ms (block_of item.body.items) now) c.none-places.ensures)
    c.loop-l.invariant
