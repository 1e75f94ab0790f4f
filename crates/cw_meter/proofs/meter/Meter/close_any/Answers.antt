use Rattle.cw_meter.proofs.DetailLaws.{ends_values, returns_values}
use Rattle.cw_meter.proofs.meter.Meter.close_any.Goals as goal

pub returns : goal.returns
returns c =
    let old = c.args.self.now in
    let new = c.close_part.new.self in
    record {
      ends = λ count. ends_values old new count c.requires c.close_part.ensures;
      returns = λ count. returns_values old new count c.requires c.close_part.ensures;
      detail = c.close_part.ensures.detail;
    }
