use Rattle.std.proofs.Common.{◌≡◌, Ok, Err}
use Rattle.cw_facts.specs.Options.{handed_on}
use Rattle.cw_cli.proofs.Runs.{gains_tell, finished, stopped, unwritten}
use Rattle.cw_cli.proofs.reporting.write_gains.Goals as goal

pub returns-in_err-gain : goal.returns-in_err-gain
returns-in_err-gain g c = λ name bytes code heads top is of_mode made gains.
    handed_on _ _ _ c.from_residual.result
    (unwritten name bytes c.args.args.now c.are_words.ensures c.args.options _ made.compiled _ _ _ (gains_tell name bytes c.args.args.now c.are_words.ensures c.args.options _ made.compiled heads top is of_mode made.are_heads) g.W.Sink.seen c.args.out.now c.gain.new.to c.args.gains gains c.in_err-gain.ensures.idle _ c.in_err-gain.ensures.answers)
    c.from_residual.ensures.1

pub returns-in_err-gains : goal.returns-in_err-gains
returns-in_err-gains g c = λ name bytes code heads top is of_mode made gains.
    let was : c.args.gains ≡ Err c.in_err-gains.field-0.0 = c.in_err-gains.was in
    handed_on _ _ _ c.from_residual-in_err-gains.result
    (stopped name bytes c.args.args.now c.are_words.ensures c.args.options _ made.compiled _ _ _ (gains_tell name bytes c.args.args.now c.are_words.ensures c.args.options _ made.compiled heads top is of_mode made.are_heads) g.W.Sink.seen c.args.out.now c.gain.new.to c.args.gains _ was gains c.in_ok-gain.ensures.answers c.in_ok-gain.ensures.idle)
    c.from_residual-in_err-gains.ensures.1

pub returns : goal.returns
returns g c = λ name bytes code heads top is of_mode made gains.
    let was : c.args.gains ≡ Ok c.in_ok-gains.field-0 = c.in_ok-gains.was in
    finished name bytes c.args.args.now c.are_words.ensures c.args.options _ made.compiled _ _ _ (gains_tell name bytes c.args.args.now c.are_words.ensures c.args.options _ made.compiled heads top is of_mode made.are_heads) g.W.Sink.seen c.args.out.now c.gain.new.to c.args.gains _ was gains c.in_ok-gain.ensures.answers c.in_ok-gain.ensures.idle
