use Rattle.std.proofs.Common.{◌+◌, ◌-◌, ◌≡◌, length, List, [], ◌∷◌, sym, ap, ◌∙◌, take, rules, arith}
use Rattle.cw_measure.specs.declared.burdened_path.BurdenedBlock.{BurdenedBlock}
use Rattle.cw_measure.specs.StrandWeights.{reversed, begins_again}
use Rattle.cw_measure.proofs.StrandWeightLaws.{weighs, reversed-last, reversed-set, block_of}
use Rattle.cw_measure.proofs.burdened_path.BurdenedPath.begin_again.Goals as goal

pub returns-clause-weight : goal.returns-clause-weight
returns-clause-weight c =
    let blocks = c.args.self.now.blocks.items in
    let w = c.args.self.now.weight in
    let i = c.len-len.result - 1 in
    let b = c.index-block.result.now in
    let len : c.len-len.result ≡ length blocks = search rules in
    let last : i + 1 ≡ length blocks = omega arith in
    ap (weighs 0) (reversed-set blocks i (block_of b.longest w) last)
    ∙ ap (λ (x : BurdenedBlock). weighs 0 (block_of x.longest w ∷ reversed (take i blocks) [])) c.index-block.ensures
    ∙ sym (ap (λ (x : List BurdenedBlock). begins_again (weighs w x)) (reversed-last blocks i b last))
