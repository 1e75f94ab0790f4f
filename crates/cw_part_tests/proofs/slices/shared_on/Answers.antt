use Rattle.std.proofs.Common.{◌+◌, length, Some, slice_get, sym, ap, ◌∙◌, subst, arith}
use Rattle.cw_slices.specs.Blocks.{IsIn}
use Rattle.cw_slices.specs.lemmas.Patches.{are_in, in_ins, ins_same, length_ins, length_replicated}
use Rattle.cw_slices.specs.lemmas.Rights.{halved_of, halved_there}
use Rattle.cw_part_tests.proofs.slices.shared_on.Goals as goal

pub share-share-requires-clause-there : goal.share-share-requires-clause-there
share-share-requires-clause-there c =
    are_in c.of-block.result.cells 0 c.len-n.result (λ k lt. subst (λ l. IsIn l (0 + k)) (sym c.of-block.ensures.cells) (in_ins c.args.part.items (0 + k) (omega (arith, lt, c.len-n.ensures.value, ap length c.of-block.ensures.cells, length_ins c.args.part.items))))

pub share-share-requires-clause-alike : goal.share-share-requires-clause-alike
share-share-requires-clause-alike c =
    (c.of-block.result.spot.halved, halved_of c.of-block.result.rights (length c.of-block.result.cells) c.of-block.result.spot.halved 0 c.len-n.result c.of-block.ensures.whole (omega (arith, c.len-n.ensures.value)))

pub merge-requires-clause-newest : goal.merge-requires-clause-newest
merge-requires-clause-newest c k lt =
    let rights = c.share-share.ensures.rights in let back = ap (λ p. length p.items) c.both_ends-share.ensures in
    let long = ap length c.of-block.ensures.whole in
    ap (λ l. slice_get l (0 + k)) rights.3 ∙
    halved_there 0 c.len-n.result _ c.of-block.result.rights (omega (arith, long, c.len-n.ensures.value, length_replicated (length c.of-block.result.cells) c.of-block.result.spot.halved)) k (omega (arith, lt, back, c.share-share.ensures.count)) ∙
    ap (λ d. Some d) (sym rights.1 ∙ sym (ap (λ p. p.spot.halved) c.both_ends-share.ensures))

pub returns-clause-items : goal.returns-clause-items
returns-clause-items c = ins_same c.whole.result.items c.args.part.items (c.whole.ensures.items ∙ c.merge.ensures.cells ∙ c.share-share.ensures.cells ∙ c.of-block.ensures.cells)
