use Rattle.std.proofs.Common.{rules}
use Rattle.cw_measure.specs.Measured.{after_join}
use Rattle.cw_measure.proofs.MeasureLaws.{join_more, same_measure}
use Rattle.cw_measure.proofs.measure.Measure.sync.Goals as goal

pub returns-clause-events : goal.returns-clause-events
returns-clause-events c = λ burden es h. same_measure burden _ (after_join c.args.self.now) _ (search rules) (join_more burden c.args.self.now es h)
