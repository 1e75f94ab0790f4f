use Rattle.std.proofs.Common.{rules}
use Rattle.cw_measure.specs.Measured.{after_child}
use Rattle.cw_measure.proofs.MeasureLaws.{child_more, same_measure}
use Rattle.cw_measure.proofs.measure.Measure.spawned.Goals as goal

pub returns-clause-events : goal.returns-clause-events
returns-clause-events c = λ es t h r. same_measure c.args.burden _ (after_child c.args.burden c.args.child.now c.args.self.now) _ (search rules) (child_more c.args.burden c.args.self.now c.args.child.now es t (search rules) h r)
