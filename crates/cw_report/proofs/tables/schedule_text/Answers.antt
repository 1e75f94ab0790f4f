use Rattle.cw_report.specs.Texts.{schedule_header}
use Rattle.cw_report.proofs.tables.schedule_text.Goals as goal

pub returns-clause-ok : goal.returns-clause-ok
returns-clause-ok c =
    let row = c.in_ok-push_schedule.ensures schedule_header c.in_ok-table.ensures in
    c.in_ok-text.ensures _ row
