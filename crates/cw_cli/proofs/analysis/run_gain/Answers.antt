use Rattle.std.proofs.Common.{◌≡◌, sym, subst}
use Rattle.cw_facts.specs.Options.{handed_on}
use Rattle.cw_code.specs.Code.{code_view}
use Rattle.cw_machine.specs.Runs.{RunsAsCode}
use Rattle.cw_cli.specs.Analyses.{IsModeInRange}
use Rattle.cw_gains.specs.Gains.{HasNumberedSites}
use Rattle.cw_compile.specs.Compiled.{AreMade}
use Rattle.cw_words.specs.declared.asked.Mode.TheVariants as mode
use Rattle.cw_cli.proofs.Runs.{out_of_range}
use Rattle.cw_cli.proofs.analysis.run_gain.Goals as goal

pub returns-in_err-most : goal.returns-in_err-most
returns-in_err-most g c = λ name bytes is made.
    handed_on _ _ _ c.from_residual.result (out_of_range g.W.Sink.seen c.args.out.now name bytes c.args.args.now c.args.options _ made.compiled (mode.Gain c.args.top) _ is c.in_err-most.ensures.0 c.in_err-most.ensures.1)
    c.from_residual.ensures.1

pub returns : goal.returns
returns g c = λ name bytes is made.
    let code = c.in_ok-code.code.value in
    let limit = c.args.options.limit in
    let burden = c.args.options.burden in
    let of_mode : IsModeInRange c.args.options.mode = subst IsModeInRange (sym is) c.in_ok-most.ensures.1 in
    let ran : RunsAsCode (code_view code.code) c.args.args.now limit burden c.run_alone-ended.result =
    subst (λ v. RunsAsCode (code_view v.code) c.args.args.now limit burden c.run_alone-ended.result) c.in_ok-share.ensures c.run_alone-ended.ensures in
    let of_most : c.args.options.mode ≡ mode.Gain c.in_ok-most.most = subst (λ n. c.args.options.mode ≡ mode.Gain n) (sym c.in_ok-most.ensures.0) is in
    let of_code = subst (λ v. AreMade bytes v c.args.made.heads.items) (sym c.in_ok-code.ensures.ok) made in
    let of_heads = subst (λ hs. AreMade bytes c.in_ok-code.code.value hs) (sym c.as_slice-heads.ensures.value) of_code in
    c.write_gains.ensures name bytes c.in_ok-code.code.value c.as_slice-heads.result.now c.in_ok-most.most of_most of_mode of_heads
    (c.gains_of_run-gains.ensures ran)

pub gains_of_run-gains-requires : goal.gains_of_run-gains-requires
gains_of_run-gains-requires g c = subst (λ v. HasNumberedSites (code_view v.code)) (sym c.in_ok-code.ensures.ok) c.requires.numbered
