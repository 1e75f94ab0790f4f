use Rattle.cw_meter.proofs.RestLaws.{rest_tables_start}
use Rattle.cw_meter.proofs.tables.Tables.apart.Goals as goal

pub returns : goal.returns
returns c = rest_tables_start c.args.burden c.args.site c.apart.result c.new.result c.new-2.result c.apart.ensures.told c.new.ensures c.new-2.ensures
