use Rattle.std.proofs.Common.{rules}
use Rattle.cw_measure.specs.Measured.{after_part}
use Rattle.cw_measure.proofs.MeasureLaws.{part_more, same_measure}
use Rattle.cw_measure.proofs.measure.Measure.called.Goals as goal

pub returns-clause-events : goal.returns-clause-events
returns-clause-events c = λ burden es t h r. same_measure burden _ (after_part c.args.part.now c.args.self.now) _ (search rules) (part_more burden c.args.self.now c.args.part.now es t h r)
