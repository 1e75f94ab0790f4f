use Rattle.cw_meter.proofs.ClosingLaws.{call_closed}
use Rattle.cw_meter.proofs.tables.Tables.end_call.Goals as goal

pub returns : goal.returns
returns c = call_closed c.args.self.now c.leave.new.self c.args.count c.args.part c.in_ok-leave.ensures.told c.late_paths_wait.ensures
