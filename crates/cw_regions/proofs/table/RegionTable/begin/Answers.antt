use Rattle.cw_regions.specs.declared.table.RegionTable.{RegionTable}
use Rattle.cw_regions.proofs.RegionLaws.{region_begins}
use Rattle.cw_regions.proofs.table.RegionTable.begin.Goals as goal

pub returns : goal.returns
returns c = λ burden along tags busy os es known cw cp cb small h.
    let new : RegionTable = record { rows = c.begin.new.self } in
    region_begins burden along tags busy os es c.args.self.now new c.args.tag c.args.work c.args.path c.args.burdened known cw cp cb small h c.in_ok-begin.ensures.own c.in_ok-begin.ensures.others
