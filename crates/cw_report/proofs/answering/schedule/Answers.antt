use Rattle.std.proofs.Common.{◌∙◌, ap, sym, subst}
use Rattle.cw_report.specs.Texts.{Makes, schedule_report}
use Rattle.cw_report.proofs.answering.schedule.Goals as goal

pub returns-in-Ok-clause-idle : goal.returns-in-Ok-clause-idle
returns-in-Ok-clause-idle g c = λ none.
    c.tell.ensures.idle (subst (λ t. Makes t c.schedule_text.result) (ap schedule_report (sym c.in-Ok.is) ∙ none) c.schedule_text.ensures.ok)

pub returns-in-Ok-clause-answers : goal.returns-in-Ok-clause-answers
returns-in-Ok-clause-answers g c = rw (c.in-Ok.is) (c.tell.ensures.answers _ c.schedule_text.ensures.ok)
