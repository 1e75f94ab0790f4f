use Rattle.std.proofs.Common.{◌∙◌, ap, sym}
use Rattle.cw_meter.specs.Details.{records_only_values}
use Rattle.cw_meter.proofs.DetailLaws.{returns_recorded}
use Rattle.cw_meter.proofs.meter.Meter.leave_call.Goals as goal

pub returns-in_ok-give_back : goal.returns-in_ok-give_back
returns-in_ok-give_back c =
    let mid = c.close_part.new.self in
    let r = c.give_back.new.self in
    let leaves = c.close_part.ensures in
    returns_recorded c.args.self.now mid r c.args.count (record { counts = c.requires; values = ap records_only_values (sym c.close_part.ensures.detail) ∙ sym c.records_only_values.ensures ∙ c.if-not-records_only_values.true }) leaves c.in_ok-give_back.ensures
