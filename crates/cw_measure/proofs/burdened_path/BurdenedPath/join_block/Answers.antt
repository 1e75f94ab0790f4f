use Rattle.std.proofs.Common.{ℕ, ◌≡◌, List, [], max, sym, ap, ◌∙◌, arith}
use Rattle.cw_measure.specs.declared.burdened_path.BurdenedBlock.{BurdenedBlock}
use Rattle.cw_measure.specs.StrandWeights.{reversed, joins}
use Rattle.cw_measure.proofs.StrandWeightLaws.{weighs, reversed-push}
use Rattle.cw_measure.proofs.burdened_path.BurdenedPath.join_block.Goals as goal

pub returns-in-Some-clause-weight : goal.returns-in-Some-clause-weight
returns-in-Some-clause-weight c =
    let e : c.max-self.result ≡ max c.in-Some.block.longest c.args.self.now.weight = omega arith in
    ap (λ (x : ℕ). weighs x (reversed c.pop.new.self.items [])) e
    ∙ sym (ap (λ (x : List BurdenedBlock). joins (weighs c.args.self.now.weight x)) (ap (λ (x : List BurdenedBlock). reversed x []) c.in-Some.ensures.items ∙ reversed-push c.pop.new.self.items c.in-Some.block []))
