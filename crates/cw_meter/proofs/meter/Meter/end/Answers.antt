use Rattle.std.proofs.Common.{◌∙◌, sym}
use Rattle.cw_meter.proofs.MeterLaws.{meter_ends}
use Rattle.cw_meter.proofs.DetailLaws.{ends_counted}
use Rattle.cw_meter.proofs.meter.Meter.end.Goals as goal

pub returns : goal.returns
returns c =
    let joined = c.in_ok-join.ensures in
    ends_counted c.args.self.now c.close_apart.new.self c.args.count (sym c.is_counted.ensures ∙ c.if-not-is_counted.false) (c.close_apart.ensures.detail ∙ c.join.ensures.detail)
    (meter_ends c.args.self.now c.join.new.self c.close_apart.new.self c.args.count joined.told joined.joined joined.parts c.in_ok-close_apart.ensures.closes)
