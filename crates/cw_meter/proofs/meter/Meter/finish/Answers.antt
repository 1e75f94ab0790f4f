use Rattle.std.proofs.Common.{refl}
use Rattle.cw_meter.proofs.ReadingLaws.{meter_reads}
use Rattle.cw_meter.proofs.meter.Meter.finish.Goals as goal

pub returns-clause-reads : goal.returns-clause-reads
returns-clause-reads c =
    meter_reads c.args.self c.settle.new.self c.args.count c.args.sites c.args.tags (record { measure = record { work = c.args.count; span = c.path.result; burdened = c.weight.result }; sites = c.in_ok-sites.sites; regions = c.in_ok-regions.regions })
    c.in_ok-settle.ensures refl c.path.ensures c.weight.ensures.reads c.in_ok-sites.ensures c.in_ok-regions.ensures
