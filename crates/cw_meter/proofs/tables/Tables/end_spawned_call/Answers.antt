use Rattle.cw_meter.proofs.ClosingLaws.{spawned_call_closed}
use Rattle.cw_meter.proofs.tables.Tables.end_spawned_call.Goals as goal

pub returns : goal.returns
returns c = spawned_call_closed c.args.self.now c.end_child.new.self c.note.new.self c.end_child-2.new.self c.args.count c.args.part c.in_ok-end_child.ensures.told c.note.ensures.late c.end_child-2.ensures
