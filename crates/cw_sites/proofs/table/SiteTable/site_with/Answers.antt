use Rattle.std.proofs.Common.{ap, ◌∙◌}
use Rattle.cw_sites.specs.declared.rows.Row.{Row}
use Rattle.cw_sites.proofs.TableLaws.{row_read}
use Rattle.cw_sites.proofs.table.SiteTable.site_with.Goals as goal

pub returns : goal.returns
returns c = λ reads busy es idle n small h.
    let r = row_read c.args.site busy es c.args.self.now idle n small h c.args.own reads in
    let e = c.row-row.ensures in
    record {
      calls = ap (λ (x : Row). x.calls) e ∙ r.calls;
      own_work = ap (λ (x : Row). x.own) e ∙ r.own_work;
      own_span = r.own_span;
      work = ap (λ (x : Row). x.work) e ∙ r.work;
      span = ap (λ (x : Row). x.span) e ∙ r.span;
    }
