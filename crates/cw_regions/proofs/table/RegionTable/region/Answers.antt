use Rattle.std.proofs.Common.{ap, ◌∙◌}
use Rattle.cw_regions.specs.declared.rows.Row.{Row}
use Rattle.cw_regions.proofs.RegionLaws.{region_read}
use Rattle.cw_regions.proofs.table.RegionTable.region.Goals as goal

pub returns : goal.returns
returns c = λ burden along tags busy es known idle h.
    let r = region_read burden along tags busy es c.args.self.now c.args.tag known idle h in
    let e = c.row-row.ensures in
    record {
      work = ap (λ (x : Row). x.work) e ∙ r.work_is;
      span = ap (λ (x : Row). x.span) e ∙ r.span_is;
      burdened = ap (λ (x : Row). x.burdened) e ∙ r.burdened_is;
    }
