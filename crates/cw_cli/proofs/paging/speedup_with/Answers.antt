use Rattle.std.proofs.Common.{subst}
use Rattle.cw_code.specs.Code.{code_view}
use Rattle.cw_machine.specs.Recorded.{RecordsAsCode}
use Rattle.cw_cli.proofs.paging.speedup_with.Goals as goal

pub speedup_of_run-requires : goal.speedup_of_run-requires
speedup_of_run-requires g c =
    subst (λ v. RecordsAsCode (code_view v.code) c.args.args.now c.args.limit c.strands_alone-ran.result) c.in_ok-share.ensures c.strands_alone-ran.ensures
