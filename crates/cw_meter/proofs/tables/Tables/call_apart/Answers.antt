use Rattle.cw_meter.proofs.TableLaws.{call_opened}
use Rattle.cw_meter.proofs.tables.Tables.call_apart.Goals as goal

pub returns : goal.returns
returns c = call_opened c.args.self.now c.enter.new.self c.args.next c.args.site c.in_ok-enter.ensures.told c.late_paths_wait.ensures
