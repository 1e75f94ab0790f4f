use Rattle.std.proofs.Common.{◌≡◌, Ok, Err, sym, subst}
use Rattle.cw_facts.specs.Options.{handed_on}
use Rattle.cw_code.specs.Code.{code_view}
use Rattle.cw_runnable.specs.declared.verified.Verified.{Verified}
use Rattle.cw_greedy_schedule.specs.Speedups.{SpeedsUpAsCode}
use Rattle.cw_compile.specs.Compiled.{IsCompiled}
use Rattle.cw_cli.proofs.Runs.{speedups_tell, finished, stopped, unwritten}
use Rattle.cw_cli.proofs.analysis.run_speedup_with.Goals as goal

pub returns-in_err-speedup : goal.returns-in_err-speedup
returns-in_err-speedup g c = λ name bytes is compiled_given.
    let given : Verified = c.in_ok-code.code.value in
    let same : given ≡ c.args.code = c.in_ok-code.ensures.ok in
    let compiled : IsCompiled bytes (code_view given.code) = subst (λ v. IsCompiled bytes (code_view v.code)) (sym same) compiled_given in
    let ran : SpeedsUpAsCode (code_view given.code) c.args.args.now c.args.options.limit c.args.options.burden c.args.most c.speedup_with-told.result = c.speedup_with-told.ensures in
    handed_on _ _ _ c.from_residual-in_err-speedup.result
    (unwritten name bytes c.args.args.now c.are_words.ensures c.args.options _ compiled _ _ _ (speedups_tell name bytes c.args.args.now c.are_words.ensures c.args.options _ compiled c.args.most is) g.W.Sink.seen c.args.out.now c.speedup.new.to c.speedup_with-told.result ran c.in_err-speedup.ensures.idle _ c.in_err-speedup.ensures.answers)
    c.from_residual-in_err-speedup.ensures.1

pub returns-in_err-told : goal.returns-in_err-told
returns-in_err-told g c = λ name bytes is compiled_given.
    let given : Verified = c.in_ok-code.code.value in
    let same : given ≡ c.args.code = c.in_ok-code.ensures.ok in
    let compiled : IsCompiled bytes (code_view given.code) = subst (λ v. IsCompiled bytes (code_view v.code)) (sym same) compiled_given in
    let ran : SpeedsUpAsCode (code_view given.code) c.args.args.now c.args.options.limit c.args.options.burden c.args.most c.speedup_with-told.result = c.speedup_with-told.ensures in
    let was : c.speedup_with-told.result ≡ Err c.in_err-told.field-0.0 = c.in_err-told.was in
    handed_on _ _ _ c.from_residual-in_err-told.result
    (stopped name bytes c.args.args.now c.are_words.ensures c.args.options _ compiled _ _ _ (speedups_tell name bytes c.args.args.now c.are_words.ensures c.args.options _ compiled c.args.most is) g.W.Sink.seen c.args.out.now c.speedup.new.to c.speedup_with-told.result _ was ran c.in_ok-speedup.ensures.answers c.in_ok-speedup.ensures.idle)
    c.from_residual-in_err-told.ensures.1

pub returns : goal.returns
returns g c = λ name bytes is compiled_given.
    let given : Verified = c.in_ok-code.code.value in
    let same : given ≡ c.args.code = c.in_ok-code.ensures.ok in
    let compiled : IsCompiled bytes (code_view given.code) = subst (λ v. IsCompiled bytes (code_view v.code)) (sym same) compiled_given in
    let ran : SpeedsUpAsCode (code_view given.code) c.args.args.now c.args.options.limit c.args.options.burden c.args.most c.speedup_with-told.result = c.speedup_with-told.ensures in
    let was : c.speedup_with-told.result ≡ Ok c.in_ok-told.field-0 = c.in_ok-told.was in
    finished name bytes c.args.args.now c.are_words.ensures c.args.options _ compiled _ _ _ (speedups_tell name bytes c.args.args.now c.are_words.ensures c.args.options _ compiled c.args.most is) g.W.Sink.seen c.args.out.now c.speedup.new.to c.speedup_with-told.result _ was ran c.in_ok-speedup.ensures.answers c.in_ok-speedup.ensures.idle
