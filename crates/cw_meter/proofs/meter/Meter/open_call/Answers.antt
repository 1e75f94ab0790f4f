use Rattle.std.proofs.Common.{◌∙◌, ap, sym}
use Rattle.cw_meter.specs.Details.{records_only_values}
use Rattle.cw_meter.proofs.DetailLaws.{call_recorded}
use Rattle.cw_meter.proofs.meter.Meter.open_call.Goals as goal

pub returns-in_ok-call : goal.returns-in_ok-call
returns-in_ok-call c =
    let mid = c.count_part.new.self in
    let r = c.call.new.self in
    let opens = c.count_part.ensures in
    call_recorded c.args.self.now mid r c.args.count c.args._site (record { counts = c.requires; values = ap records_only_values (sym c.count_part.ensures.detail) ∙ sym c.records_only_values.ensures ∙ c.if-not-records_only_values.true }) opens c.in_ok-call.ensures
