use Rattle.std.proofs.Common.{List, [], ap, ◌∙◌}
use Rattle.cw_measure.specs.declared.burdened_path.BurdenedBlock.{BurdenedBlock}
use Rattle.cw_measure.specs.StrandWeights.{reversed}
use Rattle.cw_measure.proofs.StrandWeightLaws.{weighs, reversed-push}
use Rattle.cw_measure.proofs.burdened_path.BurdenedPath.lengthen_first.Goals as goal

pub returns-clause-weight : goal.returns-clause-weight
returns-clause-weight c = ap (weighs c.args.self.now.weight) (ap (λ (x : List BurdenedBlock). reversed x []) c.in_ok-push.ensures.items ∙ reversed-push c.args.self.now.blocks.items _ [])
