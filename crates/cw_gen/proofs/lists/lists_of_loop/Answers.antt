use Rattle.std.proofs.Common.{[], ◌∙◌, ap, map, sym}
use Rattle.std.specs.Prelude.{slice_set}
use Rattle.cw_model.specs.declared.syntax.CallKind.TheVariants.{Plain, Spawned}
use Rattle.cw_loops.specs.Expanded.{left_slot, right_slot, numbers}
use Rattle.cw_loops.specs.View.{block_of, loop_of}
use Rattle.cw_gen.specs.Emit.{half_list, put_lists_in}
use Rattle.cw_gen.proofs.LoopCode.{lists_emitted}
use Rattle.cw_gen.proofs.lists.lists_of_loop.Goals as goal

pub returns : goal.returns
returns c =
    let l = c.args.l.now in
    let first = c.args.first in
    let index = c.args.index in
    let before = map (λ slots. slots.items) c.args.lists.now.items in
    let lefts = map (left_slot l.over) (numbers 0 l.over) in
    let rights = map (right_slot l.over) (numbers 0 l.over) in
    let inner = put_lists_in first [] (block_of l.body.items) before in
    c.put_list-2.ensures
    ∙ ap (λ k. slice_set (map (λ slots. slots.items) c.put_list.new.lists.items) k c.in_ok-right.right.items) c.half_list-2.ensures
    ∙ ap (slice_set (map (λ slots. slots.items) c.put_list.new.lists.items) (half_list first Plain index)) c.in_ok-right.ensures
    ∙ ap (λ lists. slice_set lists (half_list first Plain index) rights)
    (c.put_list.ensures
    ∙ ap (λ k. slice_set (map (λ slots. slots.items) c.lists_in.new.lists.items) k c.in_ok-left.left.items) c.half_list.ensures
    ∙ ap (slice_set (map (λ slots. slots.items) c.lists_in.new.lists.items) (half_list first Spawned index)) c.in_ok-left.ensures
    ∙ ap (λ lists. slice_set lists (half_list first Spawned index) lefts)
    (c.in_ok-lists_in.ensures
    ∙ ap (λ items. put_lists_in first c.args.places.now (block_of items) before) c.deref.ensures.value
    ∙ ap (λ ms. put_lists_in first ms (block_of l.body.items) before) c.requires.places))
    ∙ sym (lists_emitted first index (loop_of l) before)
