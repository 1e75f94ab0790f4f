use Rattle.cw_measure.proofs.StrandWeightLaws.{spawned_weight}
use Rattle.cw_measure.proofs.burdened_path.BurdenedPath.spawn.Goals as goal

pub returns : goal.returns
returns c = λ burden mark os es fs since fits e h.
    spawned_weight burden mark os es fs c.args.self.now c.note.new.self c.begin.new.self c.args.count c.args.first since e (c.note.ensures.tells burden os es fs since fits h) c.in_ok-begin.ensures.weight c.in_ok-begin.ensures.noted
