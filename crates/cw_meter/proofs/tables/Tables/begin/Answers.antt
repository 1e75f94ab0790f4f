use Rattle.cw_meter.proofs.TableLaws.{quiet_opened}
use Rattle.cw_meter.proofs.tables.Tables.begin.Goals as goal

pub returns : goal.returns
returns c = quiet_opened c.args.self.now c.settle.new.self c.args.next c.in_ok-settle.ensures
