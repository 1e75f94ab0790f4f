use Rattle.cw_meter.proofs.ClosingLaws.{half_closed}
use Rattle.cw_meter.proofs.tables.Tables.end_half.Goals as goal

pub returns : goal.returns
returns c = half_closed c.args.self.now c.end_half.new.self c.note.new.self c.end_child.new.self c.args.count c.args.part c.in_ok-end_half.ensures.told c.note.ensures.late c.end_child.ensures
