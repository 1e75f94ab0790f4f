use Rattle.std.proofs.Common.{◌≡◌, Ok, Err}
use Rattle.cw_facts.specs.Options.{handed_on}
use Rattle.cw_cli.proofs.Runs.{values_tell, finished, stopped, unwritten}
use Rattle.cw_cli.proofs.reporting.write_values.Goals as goal

pub returns-in_err-answer : goal.returns-in_err-answer
returns-in_err-answer g c = λ name bytes runs compiled ran.
    handed_on _ _ _ c.from_residual.result
    (unwritten name bytes c.args.args.now c.are_words.ensures c.args.options _ compiled _ _ _ (values_tell name bytes c.args.args.now c.are_words.ensures c.args.options _ compiled runs) g.W.Sink.seen c.args.out.now c.answer.new.to c.args.values ran c.in_err-answer.ensures.idle _ c.in_err-answer.ensures.answers)
    c.from_residual.ensures.1

pub returns-in_err-values : goal.returns-in_err-values
returns-in_err-values g c = λ name bytes runs compiled ran.
    let is : c.args.values ≡ Err c.in_err-values.field-0.0 = c.in_err-values.was in
    handed_on _ _ _ c.from_residual-in_err-values.result
    (stopped name bytes c.args.args.now c.are_words.ensures c.args.options _ compiled _ _ _ (values_tell name bytes c.args.args.now c.are_words.ensures c.args.options _ compiled runs) g.W.Sink.seen c.args.out.now c.answer.new.to c.args.values _ is ran c.in_ok-answer.ensures.answers c.in_ok-answer.ensures.idle)
    c.from_residual-in_err-values.ensures.1

pub returns : goal.returns
returns g c = λ name bytes runs compiled ran.
    let is : c.args.values ≡ Ok c.in_ok-values.field-0 = c.in_ok-values.was in
    finished name bytes c.args.args.now c.are_words.ensures c.args.options _ compiled _ _ _ (values_tell name bytes c.args.args.now c.are_words.ensures c.args.options _ compiled runs) g.W.Sink.seen c.args.out.now c.answer.new.to c.args.values _ is ran c.in_ok-answer.ensures.answers c.in_ok-answer.ensures.idle
