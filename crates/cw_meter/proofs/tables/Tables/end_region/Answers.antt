use Rattle.cw_meter.proofs.ClosingLaws.{region_closed}
use Rattle.cw_meter.proofs.tables.Tables.end_region.Goals as goal

pub returns : goal.returns
returns c = region_closed c.args.self.now c.settle.new.self c.end.new.self c.args.count c.args.tag c.path-path.result c.weight-burdened.result c.args.part c.in_ok-settle.ensures c.path-path.ensures c.weight-burdened.ensures.value c.in_ok-end.ensures
