use Rattle.std.proofs.Common.{◌∙◌, Ok, ap, sym, subst}
use Rattle.cw_report.specs.Texts.{Makes}
use Rattle.cw_report.specs.Speedups.{speedup_report}
use Rattle.cw_report.specs.Layouts.{speedup_columns, shown}
use Rattle.cw_report.proofs.Forms.{in_columns}
use Rattle.cw_report.proofs.answering.speedup.Goals as goal

pub returns-in-Ok-clause-idle : goal.returns-in-Ok-clause-idle
returns-in-Ok-clause-idle g c = λ none.
    let csv = speedup_report (Ok c.in-Ok.speedup) in
    let made = in_columns csv c.args.table c.in_form.result c.of_speedup.ensures (c.in_form.ensures.ok csv c.speedup_text.ensures.ok) in
    c.tell.ensures.idle
    (subst (λ t. Makes t c.in_form.result) (ap (λ r. shown speedup_columns (speedup_report r) c.args.table) (sym c.in-Ok.is) ∙ none) made)

pub returns-in-Ok-clause-answers : goal.returns-in-Ok-clause-answers
returns-in-Ok-clause-answers g c =
    let csv = speedup_report (Ok c.in-Ok.speedup) in
    let made = in_columns csv c.args.table c.in_form.result c.of_speedup.ensures (c.in_form.ensures.ok csv c.speedup_text.ensures.ok) in
    rw (c.in-Ok.is) (c.tell.ensures.answers (shown speedup_columns csv c.args.table) made)
