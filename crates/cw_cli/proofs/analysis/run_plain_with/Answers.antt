use Rattle.std.proofs.Common.{◌≡◌, ◌∙◌, sym, subst}
use Rattle.cw_code.specs.Code.{code_view}
use Rattle.cw_runnable.specs.declared.verified.Verified.{Verified}
use Rattle.cw_machine.specs.Runs.{GivesAsCode}
use Rattle.cw_compile.specs.Compiled.{IsCompiled}
use Rattle.cw_cli.proofs.analysis.run_plain_with.Goals as goal

pub returns : goal.returns
returns g c = λ name bytes runs compiled_given.
    let given : Verified = c.deref.result.now in
    let same : given ≡ c.args.code = c.deref.ensures ∙ c.in_ok-code.ensures.ok in
    let compiled : IsCompiled bytes (code_view given.code) = subst (λ v. IsCompiled bytes (code_view v.code)) (sym same) compiled_given in
    let shared : c.in_ok-share.share.value ≡ given = c.in_ok-share.ensures ∙ sym c.deref.ensures in
    c.write_values.ensures name bytes runs compiled
    (subst (λ v. GivesAsCode (code_view v.code) c.args.args.now c.args.options.limit c.args.options.burden c.values-values.result) shared (c.values-values.ensures.0 c.requires.few))
