use Rattle.std.proofs.Common.{List, [], ap, ◌∙◌}
use Rattle.cw_measure.specs.declared.burdened_path.BurdenedBlock.{BurdenedBlock}
use Rattle.cw_measure.specs.StrandWeights.{reversed}
use Rattle.cw_measure.proofs.StrandWeightLaws.{weighs, reversed-push}
use Rattle.cw_measure.proofs.burdened_path.BurdenedPath.begin_within.Goals as goal

pub returns-clause-weight : goal.returns-clause-weight
returns-clause-weight c = ap (weighs 0) (ap (λ (x : List BurdenedBlock). reversed x []) c.push_reserved.ensures.items ∙ reversed-push c.args.self.now.blocks.items _ [])
