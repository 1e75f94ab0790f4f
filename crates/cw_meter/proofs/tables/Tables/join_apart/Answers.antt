use Rattle.cw_meter.proofs.TableLaws.{tables_joined}
use Rattle.cw_meter.proofs.tables.Tables.join_apart.Goals as goal

pub returns-clause-told : goal.returns-clause-told
returns-clause-told c = tables_joined c.args.self.now c.join.new.self c.note.new.self c.join-2.new.self c.args.count c.in_ok-join.ensures.told c.note.ensures.late c.join-2.ensures
