use Rattle.cw_meter.proofs.MeterLaws.{tables_start}
use Rattle.cw_meter.proofs.tables.Tables.new.Goals as goal

pub returns : goal.returns
returns c = tables_start c.args.burden c.new-sites.result c.enter.new.self c.new.result c.new-2.result c.new-sites.ensures.told c.in_ok-enter.ensures.told c.new.ensures c.new-2.ensures
