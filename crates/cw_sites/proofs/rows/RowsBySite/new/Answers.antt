use Rattle.cw_sites.specs.SiteRows.{none_kept}
use Rattle.cw_sites.proofs.RowLaws.{empty_rows}
use Rattle.cw_sites.proofs.rows.RowsBySite.new.Goals as goal

pub returns : goal.returns
returns c = empty_rows c.new.result.items c.new-2.result c.new.ensures.items (c.new-2.ensures none_kept)
