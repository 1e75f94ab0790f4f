use Rattle.cw_freed.proofs.Moves.{joins_now, joins_not}
use Rattle.cw_freed.proofs.meter.FreedMeter.join.Goals as goal

pub returns-then-self-clause-told : goal.returns-then-self-clause-told
returns-then-self-clause-told c = joins_now c.args.self.now c.settle.new.self c.join.new.self c.args.count c.if-self.true c.settle.ensures c.join.ensures

pub returns-else-self-clause-told : goal.returns-else-self-clause-told
returns-else-self-clause-told c = joins_not c.late_paths_wait.ensures c.args.self.now c.args.count c.if-self.false
