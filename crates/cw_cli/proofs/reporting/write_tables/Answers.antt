use Rattle.std.proofs.Common.{◌≡◌, Ok, Err}
use Rattle.cw_facts.specs.Options.{handed_on}
use Rattle.cw_cli.proofs.Runs.{tables_tell, finished, stopped, unwritten}
use Rattle.cw_cli.proofs.reporting.write_tables.Goals as goal

pub returns-in_err-report : goal.returns-in_err-report
returns-in_err-report g c = λ name bytes has compiled ran.
    handed_on _ _ _ c.from_residual.result
    (unwritten name bytes c.args.args.now c.are_words.ensures c.args.options _ compiled _ _ _ (tables_tell name bytes c.args.args.now c.are_words.ensures c.args.options _ compiled has c.derived_sites_are_numbered.ensures) g.W.Sink.seen c.args.out.now c.report.new.out c.args.ended ran c.in_err-report.ensures.idle _ c.in_err-report.ensures.answers)
    c.from_residual.ensures.1

pub returns-in_err-ended : goal.returns-in_err-ended
returns-in_err-ended g c = λ name bytes has compiled ran.
    let is : c.args.ended ≡ Err c.in_err-ended.field-0.0 = c.in_err-ended.was in
    handed_on _ _ _ c.from_residual-in_err-ended.result
    (stopped name bytes c.args.args.now c.are_words.ensures c.args.options _ compiled _ _ _ (tables_tell name bytes c.args.args.now c.are_words.ensures c.args.options _ compiled has c.derived_sites_are_numbered.ensures) g.W.Sink.seen c.args.out.now c.report.new.out c.args.ended _ is ran c.in_ok-report.ensures.answers c.in_ok-report.ensures.idle)
    c.from_residual-in_err-ended.ensures.1

pub returns : goal.returns
returns g c = λ name bytes has compiled ran.
    let is : c.args.ended ≡ Ok c.in_ok-ended.field-0 = c.in_ok-ended.was in
    finished name bytes c.args.args.now c.are_words.ensures c.args.options _ compiled _ _ _ (tables_tell name bytes c.args.args.now c.are_words.ensures c.args.options _ compiled has c.derived_sites_are_numbered.ensures) g.W.Sink.seen c.args.out.now c.report.new.out c.args.ended _ is ran c.in_ok-report.ensures.answers c.in_ok-report.ensures.idle
