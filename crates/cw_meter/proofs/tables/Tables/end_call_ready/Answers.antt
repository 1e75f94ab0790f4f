use Rattle.std.proofs.Common.{refl}
use Rattle.cw_meter.specs.Tables.{part_of}
use Rattle.cw_meter.specs.declared.parts.PartKind.TheVariants.{Call}
use Rattle.cw_meter.proofs.ClosingLaws.{call_closed}
use Rattle.cw_meter.proofs.tables.Tables.end_call_ready.Goals as goal

pub returns-then-close_ready-clause-closes : goal.returns-then-close_ready-clause-closes
returns-then-close_ready-clause-closes c = λ done. call_closed c.args.self.now c.close_ready.new.self c.args.count (part_of Call c.args.site c.args.spawned) (c.close_ready.ensures.told c.if-close_ready.true) c.late_paths_wait.ensures refl
