use Rattle.cw_meter.proofs.ClosingLaws.{spawned_call_closed}
use Rattle.cw_meter.proofs.tables.Tables.end_child_ready.Goals as goal

pub returns-then-end_child_ready-clause-closes : goal.returns-then-end_child_ready-clause-closes
returns-then-end_child_ready-clause-closes c = λ done. spawned_call_closed c.args.self.now c.end_child_ready.new.self c.note.new.self c.end_child.new.self c.args.count c.args.part (c.end_child_ready.ensures.told c.if-end_child_ready.true) c.note.ensures.late c.end_child.ensures
