use Rattle.std.proofs.Common.{◌∙◌, Ok, ap, sym, subst}
use Rattle.cw_report.specs.Texts.{Makes, scale_report}
use Rattle.cw_report.specs.Layouts.{scale_columns, shown}
use Rattle.cw_report.proofs.Forms.{in_columns}
use Rattle.cw_report.proofs.answering.scale.Goals as goal

pub returns-in-Ok-clause-idle : goal.returns-in-Ok-clause-idle
returns-in-Ok-clause-idle g c = λ none.
    let csv = scale_report (Ok c.in-Ok.ended) in
    let made = in_columns csv c.args.table c.in_form.result c.of_scale.ensures (c.in_form.ensures.ok csv c.scale_text.ensures.ok) in
    c.tell.ensures.idle
    (subst (λ t. Makes t c.in_form.result) (ap (λ r. shown scale_columns (scale_report r) c.args.table) (sym c.in-Ok.is) ∙ none) made)

pub returns-in-Ok-clause-answers : goal.returns-in-Ok-clause-answers
returns-in-Ok-clause-answers g c =
    let csv = scale_report (Ok c.in-Ok.ended) in
    let made = in_columns csv c.args.table c.in_form.result c.of_scale.ensures (c.in_form.ensures.ok csv c.scale_text.ensures.ok) in
    rw (c.in-Ok.is) (c.tell.ensures.answers (shown scale_columns csv c.args.table) made)
