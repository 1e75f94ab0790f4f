use Rattle.cw_freed.proofs.Moves.{block_ends}
use Rattle.cw_freed.proofs.meter.FreedMeter.end.Goals as goal

pub returns : goal.returns
returns c = block_ends c.instructions_need_no_call.ensures c.args.self.now c.join.new.self c.close.new.self c.args.count c.join.ensures.told c.join.ensures.joined c.close.ensures
