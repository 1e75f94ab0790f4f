use Rattle.std.proofs.Common.{rules}
use Rattle.cw_measure.specs.Measured.{after_work}
use Rattle.cw_measure.proofs.MeasureLaws.{more_instructions, same_measure}
use Rattle.cw_measure.proofs.measure.Measure.tick.Goals as goal

pub returns-clause-events : goal.returns-clause-events
returns-clause-events c = λ burden es h. same_measure burden _ (after_work c.args.n c.args.self.now) _ (search rules) (more_instructions burden c.args.n c.args.self.now es c.ranges.n.fits h)
