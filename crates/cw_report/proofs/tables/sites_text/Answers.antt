use Rattle.cw_model.specs.Report.{sites_header}
use Rattle.cw_report.proofs.tables.sites_text.Goals as goal

pub returns-clause-ok : goal.returns-clause-ok
returns-clause-ok c =
    let rows = (rw (c.as_slice.ensures, c.values.ensures.rest) at c.in_ok-push_rows.ensures) sites_header c.in_ok-table.ensures in
    c.in_ok-text.ensures _ rows
