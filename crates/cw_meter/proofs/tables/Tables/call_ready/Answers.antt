use Rattle.cw_meter.proofs.TableLaws.{call_opened}
use Rattle.cw_meter.proofs.tables.Tables.call_ready.Goals as goal

pub returns-then-enter_ready-clause-opens : goal.returns-then-enter_ready-clause-opens
returns-then-enter_ready-clause-opens c = λ done. call_opened c.args.self.now c.enter_ready.new.self c.args.next c.args.site (c.enter_ready.ensures.told c.if-enter_ready.true) c.late_paths_wait.ensures
