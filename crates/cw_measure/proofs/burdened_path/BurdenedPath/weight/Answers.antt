use Rattle.cw_measure.proofs.StrandWeightLaws.{weight_read}
use Rattle.cw_measure.proofs.burdened_path.BurdenedPath.weight.Goals as goal

pub returns-clause-reads : goal.returns-clause-reads
returns-clause-reads c = λ burden es e h. weight_read burden es c.args.self.now e h
