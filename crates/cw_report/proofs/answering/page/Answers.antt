use Rattle.std.proofs.Common.{◌∙◌, ap, sym, subst}
use Rattle.cw_report.specs.Pages.{page_report}
use Rattle.cw_report.specs.Texts.{Makes}
use Rattle.cw_report.proofs.answering.page.Goals as goal

pub returns-in-Ok-clause-idle : goal.returns-in-Ok-clause-idle
returns-in-Ok-clause-idle g c = λ none.
    c.tell.ensures.idle (subst (λ t. Makes t c.page_text.result) (ap (page_report c.args.name.now c.args.version.now c.args.args.now c.args.burden c.args.source.now c.args.code.now) (sym c.in-Ok.is) ∙ none) c.page_text.ensures.ok)

pub returns-in-Ok-clause-answers : goal.returns-in-Ok-clause-answers
returns-in-Ok-clause-answers g c = rw (c.in-Ok.is) (c.tell.ensures.answers _ c.page_text.ensures.ok)
