use Rattle.std.proofs.Common.{◌∙◌, refl, sym}
use Rattle.cw_meter.specs.declared.meter.Meter.{Meter}
use Rattle.cw_meter.proofs.RestLaws.{meter_rests}
use Rattle.cw_meter.proofs.DetailLaws.{rests_counted}
use Rattle.cw_meter.proofs.meter.Meter.rest.Goals as goal

pub returns : goal.returns
returns c =
    let old = c.args.self.now in
    let new : Meter = record old { tables = c.take_in.new.self } in
    rests_counted old c.args.rest new c.args.count c.args.cost (sym c.is_counted.ensures ∙ c.if-not-is_counted.false) refl
    (meter_rests old c.args.rest c.settle.new.self c.settle-2.new.self c.take_in.new.self c.args.count c.args.cost c.in_ok-settle.ensures c.in_ok-settle-2.ensures c.in_ok-take_in.ensures)
