use Rattle.std.proofs.Common.{◌≡◌, ◌∙◌, IfErr, [], sym, refl, subst}
use Rattle.cw_text.specs.declared.fault.Fault.TheVariants as fault
use Rattle.cw_report.specs.Answers.{AnswersLess}
use Rattle.cw_report.specs.Sinks.{Writes}
use Rattle.cw_report.specs.Texts.{Makes}
use Rattle.cw_report.proofs.Parts.{answered}
use Rattle.cw_report.proofs.answering.tell.Goals as goal

pub returns-in-Ok-clause-idle : goal.returns-in-Ok-clause-idle
returns-in-Ok-clause-idle g c = λ none.
    c.write_text.ensures.idle (c.as_slice.ensures.value ∙ subst (Makes []) c.in-Ok.is none)

pub returns-in-Ok-clause-answers : goal.returns-in-Ok-clause-answers
returns-in-Ok-clause-answers g c = λ text makes.
    let is : c.in-Ok.text.items ≡ text = subst (Makes text) c.in-Ok.is makes in
    let writes = subst (λ t. Writes (g.W.Sink.seen c.args.to.now) (g.W.Sink.seen c.write_text.new.to) t c.write_text.result) (c.as_slice.ensures.value ∙ is) c.write_text.ensures.writes in
    answered g.W.Sink.seen c.args.to.now c.write_text.new.to text c.write_text.result writes

pub returns-in-Err-clause-answers : goal.returns-in-Err-clause-answers
returns-in-Err-clause-answers g c = λ text makes.
    let memory = subst (λ made. IfErr made (λ e. e ≡ fault.Memory)) c.in-Err.is c.requires.why in
    subst (AnswersLess g.W.Sink.seen c.args.to.now c.args.to.now text) (sym memory) refl
