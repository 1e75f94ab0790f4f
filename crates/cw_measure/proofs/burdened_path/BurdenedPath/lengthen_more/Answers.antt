use Rattle.std.proofs.Common.{◌+◌, ◌-◌, ◌≡◌, length, List, [], ◌∷◌, max, false, refl, sym, ap, ◌∙◌, take, rules, arith}
use Rattle.cw_measure.specs.declared.burdened_path.BurdenedBlock.{BurdenedBlock}
use Rattle.cw_measure.specs.StrandWeights.{reversed, lengthened}
use Rattle.cw_measure.proofs.StrandWeightLaws.{weighs, reversed-last, reversed-set, block_of, same_top}
use Rattle.cw_measure.proofs.burdened_path.BurdenedPath.lengthen_more.Goals as goal

pub returns-clause-weight : goal.returns-clause-weight
returns-clause-weight c =
    let blocks = c.args.self.now.blocks.items in
    let w = c.args.self.now.weight in
    let i = c.len-len.result - 1 in
    let b = c.index-block.result.now in
    let len : c.len-len.result ≡ length blocks = search rules in
    let last : i + 1 ≡ length blocks = omega arith in
    let rest = reversed (take i blocks) [] in
    ap (weighs w) (reversed-set blocks i (block_of c.max.result b.saved) last)
    ∙ same_top w w c.max.result (max b.longest c.args.longest) b.saved rest refl (omega arith)
    ∙ ap (λ (x : BurdenedBlock). weighs w (block_of (max x.longest c.args.longest) x.saved ∷ rest)) c.index-block.ensures
    ∙ sym (ap (λ (x : List BurdenedBlock). weighs w (lengthened false c.args.longest w x)) (reversed-last blocks i b last))
