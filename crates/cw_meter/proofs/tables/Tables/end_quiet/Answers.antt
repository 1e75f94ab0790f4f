use Rattle.cw_meter.proofs.ClosingLaws.{quiet_closed}
use Rattle.cw_meter.proofs.tables.Tables.end_quiet.Goals as goal

pub returns : goal.returns
returns c = quiet_closed c.args.self.now c.settle.new.self c.args.count c.args.part c.in_ok-settle.ensures
