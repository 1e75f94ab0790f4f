use Rattle.std.proofs.Common.{◌∙◌, ap, sym}
use Rattle.cw_meter.specs.Details.{records_only_values}
use Rattle.cw_meter.proofs.DetailLaws.{spawned_recorded}
use Rattle.cw_meter.proofs.meter.Meter.open_spawned.Goals as goal

pub returns-in_ok-spawn : goal.returns-in_ok-spawn
returns-in_ok-spawn c =
    let mid = c.count_part.new.self in
    let r = c.spawn.new.self in
    let opens = c.count_part.ensures in
    spawned_recorded c.args.self.now mid r c.args.count (record { counts = c.requires; values = ap records_only_values (sym c.count_part.ensures.detail) ∙ sym c.records_only_values.ensures ∙ c.if-not-records_only_values.true }) opens c.in_ok-spawn.ensures
