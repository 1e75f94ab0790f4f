use Rattle.std.proofs.Common.{◌∷◌}
use Rattle.cw_measure.proofs.StrandWeightLaws.{child_ended_weight}
use Rattle.cw_measure.proofs.burdened_path.BurdenedPath.end_child.Goals as goal

pub returns : goal.returns
returns c = λ o os es fs since fits b e h.
    child_ended_weight c.args.burden o os es fs c.args.self.now c.note.new.self c.end.new.self c.args.count since fits b e (c.note.ensures.tells c.args.burden (o ∷ os) es fs since fits h) c.end.ensures.weight c.end.ensures.noted
