use Rattle.cw_meter.proofs.DetailLaws.{here_as}
use Rattle.cw_meter.proofs.meter.Meter.site.Goals as goal

pub returns : goal.returns
returns c = here_as c.args.self.now
