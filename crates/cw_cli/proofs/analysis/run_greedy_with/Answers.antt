use Rattle.std.proofs.Common.{◌≡◌, ◌≤◌, Ok, Err, sym, subst, arith}
use Rattle.cw_facts.specs.Options.{handed_on}
use Rattle.cw_code.specs.Code.{code_view}
use Rattle.cw_model.specs.declared.limits.TheConstants.{MOST_BURDEN}
use Rattle.cw_runnable.specs.declared.verified.Verified.{Verified}
use Rattle.cw_greedy_schedule.specs.Schedules.{SchedulesAsCode}
use Rattle.cw_compile.specs.Compiled.{IsCompiled}
use Rattle.cw_cli.proofs.Runs.{schedule_tells, finished, stopped, unwritten}
use Rattle.cw_cli.proofs.analysis.run_greedy_with.Goals as goal

pub returns-in_err-schedule : goal.returns-in_err-schedule
returns-in_err-schedule g c = λ name bytes is compiled_given.
    let given : Verified = c.in_ok-code.code.value in
    let same : given ≡ c.args.code = c.in_ok-code.ensures.ok in
    let compiled : IsCompiled bytes (code_view given.code) = subst (λ v. IsCompiled bytes (code_view v.code)) (sym same) compiled_given in
    let ran : SchedulesAsCode (code_view given.code) c.args.args.now c.args.options.limit c.args.processors c.schedule_with-told.result = c.schedule_with-told.ensures in
    let over = c.if-options-gt-MOST_BURDEN.false in
    let low : c.args.options.burden.charge ≤ MOST_BURDEN = omega (arith, over) in
    handed_on _ _ _ c.from_residual-in_err-schedule.result
    (unwritten name bytes c.args.args.now c.are_words.ensures c.args.options _ compiled _ _ _ (schedule_tells name bytes c.args.args.now c.are_words.ensures c.args.options _ compiled c.args.processors is low) g.W.Sink.seen c.args.out.now c.schedule.new.to c.schedule_with-told.result ran c.in_err-schedule.ensures.idle _ c.in_err-schedule.ensures.answers)
    c.from_residual-in_err-schedule.ensures.1

pub returns-in_err-told : goal.returns-in_err-told
returns-in_err-told g c = λ name bytes is compiled_given.
    let given : Verified = c.in_ok-code.code.value in
    let same : given ≡ c.args.code = c.in_ok-code.ensures.ok in
    let compiled : IsCompiled bytes (code_view given.code) = subst (λ v. IsCompiled bytes (code_view v.code)) (sym same) compiled_given in
    let ran : SchedulesAsCode (code_view given.code) c.args.args.now c.args.options.limit c.args.processors c.schedule_with-told.result = c.schedule_with-told.ensures in
    let over = c.if-options-gt-MOST_BURDEN.false in
    let low : c.args.options.burden.charge ≤ MOST_BURDEN = omega (arith, over) in
    let was : c.schedule_with-told.result ≡ Err c.in_err-told.field-0.0 = c.in_err-told.was in
    handed_on _ _ _ c.from_residual-in_err-told.result
    (stopped name bytes c.args.args.now c.are_words.ensures c.args.options _ compiled _ _ _ (schedule_tells name bytes c.args.args.now c.are_words.ensures c.args.options _ compiled c.args.processors is low) g.W.Sink.seen c.args.out.now c.schedule.new.to c.schedule_with-told.result _ was ran c.in_ok-schedule.ensures.answers c.in_ok-schedule.ensures.idle)
    c.from_residual-in_err-told.ensures.1

pub returns : goal.returns
returns g c = λ name bytes is compiled_given.
    let given : Verified = c.in_ok-code.code.value in
    let same : given ≡ c.args.code = c.in_ok-code.ensures.ok in
    let compiled : IsCompiled bytes (code_view given.code) = subst (λ v. IsCompiled bytes (code_view v.code)) (sym same) compiled_given in
    let ran : SchedulesAsCode (code_view given.code) c.args.args.now c.args.options.limit c.args.processors c.schedule_with-told.result = c.schedule_with-told.ensures in
    let over = c.if-options-gt-MOST_BURDEN.false in
    let low : c.args.options.burden.charge ≤ MOST_BURDEN = omega (arith, over) in
    let was : c.schedule_with-told.result ≡ Ok c.in_ok-told.field-0 = c.in_ok-told.was in
    finished name bytes c.args.args.now c.are_words.ensures c.args.options _ compiled _ _ _ (schedule_tells name bytes c.args.args.now c.are_words.ensures c.args.options _ compiled c.args.processors is low) g.W.Sink.seen c.args.out.now c.schedule.new.to c.schedule_with-told.result _ was ran c.in_ok-schedule.ensures.answers c.in_ok-schedule.ensures.idle
