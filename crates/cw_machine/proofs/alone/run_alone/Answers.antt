use Rattle.std.proofs.Common.{subst}
use Rattle.std.proofs.Math.Bool.{Bool-set}
use Rattle.std.proofs.Math.Logic.{∥∥₁_elim}
use Rattle.cw_code.specs.Code.{code_view}
use Rattle.cw_code.specs.Run.{code_serial}
use Rattle.cw_runnable.specs.declared.verified.Verified.{Verified}
use Rattle.cw_machine.specs.Runs.{Runs}
use Rattle.cw_machine.proofs.FromMain.{IsEnded-prop, measured, told}
use Rattle.cw_machine.proofs.alone.run_alone.Goals as goal

pub end_of-requires : goal.end_of-requires
end_of-requires c = let v = c.deref-verified.result.now in ∥∥₁_elim v.ok (hlevel Bool-set) (λ ok. ok.fits.tags)

pub returns : goal.returns
returns c =
    let v = c.deref-verified.result.now in
    let code = code_view v.code in
    let args = c.args.args.now in
    let n = c.args.n in
    let burden = c.args.burden in
    let e = c.in_ok-ended.ended in
    let end = c.in_ok-ended.ensures in
    let has = c.in_ok-value.ensures in
    let is = ∥∥₁_elim has.finishes (IsEnded-prop code burden e end.all (code_serial code args n)) (λ h. measured v args n burden _ _ e has.asked has.within end h) in
    subst (λ (w : Verified). Runs (code_view w.code) args n burden e) c.deref-verified.ensures
    (told v args n burden _ _ e has.asked has.within end is)
