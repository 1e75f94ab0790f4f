use Rattle.std.proofs.Common.{◌+◌, [], ◌∷◌, pos, slice_set, ap, ◌∙◌, subst, sym, arith}
use Rattle.cw_slices.specs.Blocks.{IsIn, ins}
use Rattle.cw_slices.specs.lemmas.Patches.{are_in, in_ins}
use Rattle.cw_part_tests.proofs.slices.dropped_with_a_share_out.Goals as goal

pub share-share-requires-clause-there : goal.share-share-requires-clause-there
share-share-requires-clause-there g c =
    let items = c.set.ensures.items ∙ ap (λ l. slice_set l 1 (pos 5)) c.in_ok-slice.ensures.0 in
    are_in c.of-block.result.cells 1 1 (λ k lt. subst (λ l. IsIn l (1 + k)) (sym (c.of-block.ensures.cells ∙ ap ins items)) (in_ins (pos 0 ∷ pos 5 ∷ []) (1 + k) (omega (arith, lt))))
