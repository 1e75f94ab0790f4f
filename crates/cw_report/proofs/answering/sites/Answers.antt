use Rattle.std.proofs.Common.{◌∙◌, Ok, ap, sym, subst}
use Rattle.cw_report.specs.Texts.{Makes, sites_report}
use Rattle.cw_report.specs.Layouts.{sites_columns, shown}
use Rattle.cw_report.proofs.Forms.{in_columns}
use Rattle.cw_report.proofs.answering.sites.Goals as goal

pub returns-in-Ok-clause-idle : goal.returns-in-Ok-clause-idle
returns-in-Ok-clause-idle g c = λ none.
    let csv = sites_report c.args.code.now (Ok c.in-Ok.ended) in
    let made = in_columns csv c.args.table c.in_form.result c.of_sites.ensures (c.in_form.ensures.ok csv c.sites_text.ensures.ok) in
    c.tell.ensures.idle
    (subst (λ t. Makes t c.in_form.result) (ap (λ r. shown sites_columns (sites_report c.args.code.now r) c.args.table) (sym c.in-Ok.is) ∙ none) made)

pub returns-in-Ok-clause-answers : goal.returns-in-Ok-clause-answers
returns-in-Ok-clause-answers g c =
    let csv = sites_report c.args.code.now (Ok c.in-Ok.ended) in
    let made = in_columns csv c.args.table c.in_form.result c.of_sites.ensures (c.in_form.ensures.ok csv c.sites_text.ensures.ok) in
    rw (c.in-Ok.is) (c.tell.ensures.answers (shown sites_columns csv c.args.table) made)
