use Rattle.cw_meter.proofs.DetailLaws.{syncs_values}
use Rattle.cw_meter.proofs.meter.Meter.sync_any.Goals as goal

pub returns : goal.returns
returns c = λ count. syncs_values c.args.self.now count c.requires
