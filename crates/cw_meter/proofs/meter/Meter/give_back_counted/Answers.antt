use Rattle.std.proofs.Common.{◌∙◌, arith}
use Rattle.std.proofs.Math.Nat.{mod-eq_of_lt}
use Rattle.cw_meter.proofs.MeterLaws.{meter_returns}
use Rattle.cw_meter.proofs.DetailLaws.{returns_counted}
use Rattle.cw_meter.proofs.meter.Meter.give_back_counted.Goals as goal

pub returns : goal.returns
returns c =
    let joined = c.in_ok-join.ensures in
    returns_counted c.args.self.now c.close.new.self c.args.count c.requires (c.close.ensures.detail ∙ c.join.ensures.detail)
    (meter_returns c.args.self.now c.join.new.self c.close.new.self c.args.count _ joined.told joined.joined joined.parts c.in_ok-close.ensures.closes (λ small. mod-eq_of_lt (omega arith)))
