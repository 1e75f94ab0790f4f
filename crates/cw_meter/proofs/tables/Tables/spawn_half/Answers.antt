use Rattle.cw_meter.proofs.TableLaws.{half_opened}
use Rattle.cw_meter.proofs.tables.Tables.spawn_half.Goals as goal

pub returns : goal.returns
returns c = half_opened c.args.self.now c.spawn_half.new.self c.note.new.self c.spawn.new.self c.args.next c.in_ok-spawn_half.ensures.told c.note.ensures.late c.in_ok-spawn.ensures
