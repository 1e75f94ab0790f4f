use Rattle.cw_freed.proofs.Moves.{half_begins}
use Rattle.cw_freed.proofs.meter.FreedMeter.spawn_half.Goals as goal

pub returns : goal.returns
returns c = half_begins c.args.self.now c.spawn.new.self c.args.count c.in_ok-spawn.ensures
