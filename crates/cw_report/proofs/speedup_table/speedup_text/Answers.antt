use Rattle.std.proofs.Common.{◌∙◌, ap, ◌++◌}
use Rattle.cw_report.specs.Speedups.{speedup_header, speedup_lines}
use Rattle.cw_report.proofs.speedup_table.speedup_text.Goals as goal

pub returns-clause-ok : goal.returns-clause-ok
returns-clause-ok c =
    let rows = c.in_ok-push_rows.ensures speedup_header c.in_ok-table.ensures in
    c.in_ok-text.ensures _ rows ∙ ap (λ all. speedup_header ++ speedup_lines c.args.speedup.now.measure all) c.deref.ensures.value
