use Rattle.cw_meter.proofs.DetailLaws.{begins_values, region_values}
use Rattle.cw_meter.proofs.meter.Meter.open_any.Goals as goal

pub returns : goal.returns
returns c =
    let old = c.args.self.now in
    let new = c.count_part.new.self in
    record {
      begins = λ count spawned mark. begins_values old new count spawned mark c.requires c.count_part.ensures;
      region = λ count tag. region_values old new count tag c.requires c.count_part.ensures;
      detail = c.count_part.ensures.detail;
    }
