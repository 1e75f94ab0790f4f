use Rattle.cw_meter.proofs.TableLaws.{region_opened}
use Rattle.cw_meter.proofs.tables.Tables.begin_region.Goals as goal

pub returns : goal.returns
returns c = region_opened c.args.self.now c.settle.new.self c.begin.new.self c.args.next c.args.tag c.path-path.result c.weight-burdened.result c.in_ok-settle.ensures c.path-path.ensures c.weight-burdened.ensures.value c.in_ok-begin.ensures
