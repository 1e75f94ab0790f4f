use Rattle.std.proofs.Common.{◌∙◌, ap, sym}
use Rattle.cw_meter.specs.Details.{records_only_values}
use Rattle.cw_meter.proofs.DetailLaws.{ends_recorded}
use Rattle.cw_meter.proofs.meter.Meter.leave_block.Goals as goal

pub returns-in_ok-end : goal.returns-in_ok-end
returns-in_ok-end c =
    let mid = c.close_part.new.self in
    let r = c.end.new.self in
    let leaves = c.close_part.ensures in
    ends_recorded c.args.self.now mid r c.args.count (record { counts = c.requires; values = ap records_only_values (sym c.close_part.ensures.detail) ∙ sym c.records_only_values.ensures ∙ c.if-not-records_only_values.true }) leaves c.in_ok-end.ensures
