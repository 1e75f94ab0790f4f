use Rattle.std.specs.Prelude.{true}
use Rattle.cw_measure.proofs.StrandWeightLaws.{spawned_weight}
use Rattle.cw_measure.proofs.burdened_path.BurdenedPath.spawn_within.Goals as goal

pub returns : goal.returns
returns c = λ burden mark os es fs since fits e h.
    spawned_weight burden mark os es fs c.args.self.now c.note.new.self c.begin_within.new.self c.args.count true since e (c.note.ensures.tells burden os es fs since fits h) c.begin_within.ensures.weight c.begin_within.ensures.noted
