use Rattle.cw_regions.specs.declared.table.RegionTable.{RegionTable}
use Rattle.cw_regions.proofs.RegionLaws.{regions_start}
use Rattle.cw_regions.proofs.table.RegionTable.new.Goals as goal

pub returns : goal.returns
returns c = λ burden along tags. let new : RegionTable = record { rows = c.new.result } in regions_start burden along tags new c.new.ensures
