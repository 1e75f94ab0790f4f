use Rattle.cw_meter.proofs.MeterLaws.{meter_syncs}
use Rattle.cw_meter.proofs.DetailLaws.{syncs_counted}
use Rattle.cw_meter.proofs.meter.Meter.sync_counted.Goals as goal

pub returns : goal.returns
returns c =
    syncs_counted c.args.self.now c.join.new.self c.args.count c.requires c.join.ensures.detail
    (meter_syncs c.args.self.now c.join.new.self c.args.count c.in_ok-join.ensures.told c.in_ok-join.ensures.parts)
