use Rattle.std.proofs.Common.{◌≡◌, ◌∙◌, sym, subst}
use Rattle.cw_code.specs.Code.{code_view}
use Rattle.cw_runnable.specs.declared.verified.Verified.{Verified}
use Rattle.cw_machine.specs.Recorded.{RecordsAsCode}
use Rattle.cw_cli.proofs.analysis.schedule_with.Goals as goal

pub schedule_of_run-requires : goal.schedule_of_run-requires
schedule_of_run-requires g c =
    let given : Verified = c.deref-2.result.now in
    let shared : c.in_ok-share.share.value ≡ given = c.in_ok-share.ensures ∙ sym c.deref-2.ensures in
    subst (λ v. RecordsAsCode (code_view v.code) c.args.args.now c.args.limit c.strands-ran.result) shared (c.strands-ran.ensures.0 c.requires)
