use Rattle.cw_regions.specs.declared.table.RegionTable.{RegionTable}
use Rattle.cw_regions.proofs.RegionLaws.{regions_join}
use Rattle.cw_regions.proofs.table.RegionTable.join.Goals as goal

pub returns : goal.returns
returns c =
    let new : RegionTable = record { rows = c.join.new.self } in
    regions_join c.args.self.now c.args.right new c.join.ensures
