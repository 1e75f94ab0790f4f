use Rattle.std.proofs.Common.{sym, ap, codes}
use Rattle.cw_code.specs.Code.{code_view}
use Rattle.cw_report.specs.Texts.{site_lines, told_line, told_rows}
use Rattle.cw_report.proofs.Lines.{after}
use Rattle.cw_report.proofs.tables.push_rows.Goals as goal

pub returns-in_ok-push_told-in-Some : goal.returns-in_ok-push_told-in-Some
returns-in_ok-push_told-in-Some c =
    let code = code_view c.args.code.now in
    let row = c.in-Some.row.now in
    let sites = (rw (c.as_slice.ensures.value) at c.push_sites.ensures) in
    after c.args.table.now c.push_told.new.table c.push_sites.new.table (told_line 0 (codes "root") code.main_line (codes "main") row)
    (site_lines c.args.code.now.sites.items c.in-Some.rest.now) (told_rows code c.args.rows.now) c.push_sites.result
    c.in_ok-push_told-in-Some.ensures sites (ap (told_rows code) (sym c.in-Some.ensures.cases.0))
