use Rattle.cw_meter.proofs.TableLaws.{spawned_call_opened}
use Rattle.cw_meter.proofs.tables.Tables.spawn_apart.Goals as goal

pub returns : goal.returns
returns c = spawned_call_opened c.args.self.now c.spawn.new.self c.note.new.self c.spawn-2.new.self c.args.next c.args.site c.in_ok-spawn.ensures.told c.note.ensures.late c.in_ok-spawn-2.ensures
