use Rattle.cw_regions.specs.declared.table.RegionTable.{RegionTable}
use Rattle.cw_regions.proofs.RegionLaws.{region_ends}
use Rattle.cw_regions.proofs.table.RegionTable.end.Goals as goal

pub returns : goal.returns
returns c = λ burden along tags busy os before es known cw cp cb j small h.
    let new : RegionTable = record { rows = c.end.new.self } in
    region_ends burden along tags busy os before es c.args.self.now new c.args.tag c.args.work c.args.path c.args.burdened known cw cp cb j small h c.in_ok-end.ensures.own c.in_ok-end.ensures.others
