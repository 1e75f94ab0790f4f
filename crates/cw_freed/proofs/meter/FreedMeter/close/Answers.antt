use Rattle.std.proofs.Common.{rules}
use Rattle.cw_freed.proofs.Moves.{part_closes, main_closes}
use Rattle.cw_freed.proofs.meter.FreedMeter.close.Goals as goal

pub returns-in-Some : goal.returns-in-Some
returns-in-Some c = part_closes c.args.self.now c.settle.new.self c.pop.new.self c.leave.new.self c.in-Some.part c.args.count c.settle.ensures c.in-Some.ensures.items c.leave.ensures

pub returns-in_default : goal.returns-in_default
returns-in_default c = main_closes c.args.self.now c.settle.new.self c.pop.new.self c.args.count c.settle.ensures (search rules) (search rules)
