use Rattle.cw_meter.proofs.DetailLaws.{reads_strands}
use Rattle.cw_meter.proofs.meter.Meter.strands.Goals as goal

pub returns : goal.returns
returns c = reads_strands c.args.self c.args.count c.in_ok-strands.strands c.in_ok-strands.ensures
