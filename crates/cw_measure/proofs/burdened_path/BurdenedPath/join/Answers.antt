use Rattle.cw_measure.proofs.StrandWeightLaws.{joined_weight}
use Rattle.cw_measure.proofs.burdened_path.BurdenedPath.join.Goals as goal

pub returns : goal.returns
returns c = λ burden os es fs since fits e h.
    joined_weight burden os es fs c.args.self.now c.note.new.self c.join_block.new.self c.args.count since e (c.note.ensures.tells burden os es fs since fits h) c.join_block.ensures.weight c.join_block.ensures.noted
