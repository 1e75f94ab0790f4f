use Rattle.cw_freed.proofs.Moves.{syncs}
use Rattle.cw_freed.proofs.meter.FreedMeter.sync.Goals as goal

pub returns : goal.returns
returns c = syncs c.instructions_need_no_call.ensures c.args.self.now c.join.new.self c.args.count c.join.ensures.told
