use Rattle.std.proofs.Common.{◌∙◌, ap, sym}
use Rattle.cw_meter.specs.Details.{records_only_values}
use Rattle.cw_meter.proofs.DetailLaws.{quiet_recorded, regions_too}
use Rattle.cw_meter.proofs.meter.Meter.open_quiet.Goals as goal

pub returns-in_ok-begin-clause-quiet : goal.returns-in_ok-begin-clause-quiet
returns-in_ok-begin-clause-quiet c =
    let mid = c.count_part.new.self in
    let r = c.begin.new.self in
    let opens = c.count_part.ensures in
    quiet_recorded c.args.self.now mid r c.args.count (record { counts = c.requires; values = ap records_only_values (sym c.count_part.ensures.detail) ∙ sym c.records_only_values.ensures ∙ c.if-not-records_only_values.true }) opens c.in_ok-begin.ensures

pub returns-in_ok-begin-clause-region : goal.returns-in_ok-begin-clause-region
returns-in_ok-begin-clause-region c =
    let mid = c.count_part.new.self in
    let r = c.begin.new.self in
    let opens = c.count_part.ensures in
    regions_too c.args.self.now (record mid { recorder = r }) c.args.count (quiet_recorded c.args.self.now mid r c.args.count (record { counts = c.requires; values = ap records_only_values (sym c.count_part.ensures.detail) ∙ sym c.records_only_values.ensures ∙ c.if-not-records_only_values.true }) opens c.in_ok-begin.ensures)
