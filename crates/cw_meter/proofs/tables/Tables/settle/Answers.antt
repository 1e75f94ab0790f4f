use Rattle.cw_meter.proofs.TableLaws.{tables_settled}
use Rattle.cw_meter.proofs.tables.Tables.settle.Goals as goal

pub returns : goal.returns
returns c = tables_settled c.args.self.now c.note.new.self c.note-2.new.self c.args.count c.in_ok-note.ensures.told c.note-2.ensures.late
