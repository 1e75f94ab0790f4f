use Rattle.std.proofs.Common.{Some, pos, slice_get, slice_set, w64, to_z, of_z, ap, ◌∙◌}
use Rattle.cw_slices.specs.Blocks.{ins}
use Rattle.cw_part_tests.proofs.slices.two_threads_read.Goals as goal

pub join-block-requires-after_bounds : goal.join-block-requires-after_bounds
join-block-requires-after_bounds g c κs =
    let items = c.set-2.ensures.items ∙ ap (λ l. slice_set l 3 (pos 8)) (c.set.ensures.items ∙ ap (λ l. slice_set l 0 (pos 6)) c.in_ok-slice.ensures.0) in
    ((pos 6, ap (λ l. slice_get l 0) (c.share-yours.ensures.cells ∙ c.of-block.ensures.cells ∙ ap ins items)), tt)

pub set-requires-3-clause-there : goal.set-requires-3-clause-there
set-requires-3-clause-there g c =
    let items = c.set-2.ensures.items ∙ ap (λ l. slice_set l 3 (pos 8)) (c.set.ensures.items ∙ ap (λ l. slice_set l 0 (pos 6)) c.in_ok-slice.ensures.0) in
    (pos 0, ap (λ l. slice_get l 1) (c.merge.ensures.cells ∙ ap (λ b. b.cells) c.join-block.ensures.first ∙ c.share-yours.ensures.cells ∙ c.of-block.ensures.cells ∙ ap ins items))

pub get-requires : goal.get-requires
get-requires g c =
    let items = c.set-2.ensures.items ∙ ap (λ l. slice_set l 3 (pos 8)) (c.set.ensures.items ∙ ap (λ l. slice_set l 0 (pos 6)) c.in_ok-slice.ensures.0) in
    let cells = c.merge.ensures.cells ∙ ap (λ b. b.cells) c.join-block.ensures.first ∙ c.share-yours.ensures.cells ∙ c.of-block.ensures.cells ∙ ap ins items in
    record { there = (_, ap (λ l. slice_get l 1) (c.set-3.ensures.cells ∙ ap (λ l. slice_set l 1 (Some (to_z w64 (of_z w64 c.join-block.result.0.1)))) cells)) }

pub get-requires-2 : goal.get-requires-2
get-requires-2 g c =
    let items = c.set-2.ensures.items ∙ ap (λ l. slice_set l 3 (pos 8)) (c.set.ensures.items ∙ ap (λ l. slice_set l 0 (pos 6)) c.in_ok-slice.ensures.0) in
    let cells = c.merge.ensures.cells ∙ ap (λ b. b.cells) c.join-block.ensures.first ∙ c.share-yours.ensures.cells ∙ c.of-block.ensures.cells ∙ ap ins items in
    record { there = (pos 8, ap (λ l. slice_get l 3) (c.set-3.ensures.cells ∙ ap (λ l. slice_set l 1 (Some (to_z w64 (of_z w64 c.join-block.result.0.1)))) cells)) }
