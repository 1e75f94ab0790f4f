use Rattle.cw_freed.proofs.Moves.{quiet_begins}
use Rattle.cw_freed.proofs.meter.FreedMeter.begin.Goals as goal

pub returns : goal.returns
returns c = quiet_begins c.late_paths_wait.ensures c.args.self.now c.stack.new.self c.args.count c.in_ok-stack.ensures
