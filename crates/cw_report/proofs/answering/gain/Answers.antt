use Rattle.std.proofs.Common.{◌∙◌, Ok, ap, sym, subst}
use Rattle.cw_report.specs.Texts.{Makes, gain_report}
use Rattle.cw_report.specs.Layouts.{gain_columns, shown}
use Rattle.cw_report.proofs.Forms.{in_columns}
use Rattle.cw_report.proofs.answering.gain.Goals as goal

pub returns-in-Ok-clause-idle : goal.returns-in-Ok-clause-idle
returns-in-Ok-clause-idle g c = λ none.
    let csv = gain_report (Ok c.in-Ok.gains) in
    let made = in_columns csv c.args.table c.in_form.result c.of_gain.ensures (c.in_form.ensures.ok csv c.gain_text.ensures.ok) in
    c.tell.ensures.idle
    (subst (λ t. Makes t c.in_form.result) (ap (λ r. shown gain_columns (gain_report r) c.args.table) (sym c.in-Ok.is) ∙ none) made)

pub returns-in-Ok-clause-answers : goal.returns-in-Ok-clause-answers
returns-in-Ok-clause-answers g c =
    let csv = gain_report (Ok c.in-Ok.gains) in
    let made = in_columns csv c.args.table c.in_form.result c.of_gain.ensures (c.in_form.ensures.ok csv c.gain_text.ensures.ok) in
    rw (c.in-Ok.is) (c.tell.ensures.answers (shown gain_columns csv c.args.table) made)
