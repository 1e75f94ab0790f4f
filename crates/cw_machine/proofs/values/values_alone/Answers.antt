use Rattle.std.proofs.Common.{rules, ◌≡◌, ◌∙◌, refl, subst, w64, of_z, to_z}
use Rattle.std.proofs.Math.Logic.{∥∥₁_elim}
use Rattle.std.proofs.lemmas.Int.{to_z-of_z}
use Rattle.cw_code.specs.Code.{code_view}
use Rattle.cw_code.specs.Run.{code_serial}
use Rattle.cw_meter.specs.declared.detail.Detail.TheVariants as detail
use Rattle.cw_runnable.specs.declared.verified.Verified.{Verified}
use Rattle.cw_machine.specs.declared.values.Values.{Values}
use Rattle.cw_machine.specs.Runs.{Gives}
use Rattle.cw_machine.proofs.Given.{IsGiven-prop, is_given, gave}
use Rattle.cw_machine.proofs.values.values_alone.Goals as goal

pub returns : goal.returns
returns c =
    let v = c.deref-verified.result.now in
    let code = code_view v.code in
    let args = c.args.args.now in
    let n = c.args.n in
    let burden = c.args.burden in
    let serial = code_serial code args n in
    let has = c.in_ok-value.ensures in
    let shown = c.in_ok-value.shown in
    let same : to_z w64 (of_z w64 c.int_given.result) ≡ c.int_given.result = search (rules, to_z-of_z) in
    let e : Values = record { value = to_z w64 (of_z w64 c.int_given.result); lines = c.into_vec.result; totals = shown.totals } in
    let is = is_given e serial (∥∥₁_elim has.finishes (IsGiven-prop e serial) (λ h. gave code args n detail.Values _ shown e (same ∙ c.int_given.ensures) c.into_vec.ensures.items refl h)) in
    subst (λ (w : Verified). Gives (code_view w.code) args n burden e) c.deref-verified.ensures
    (record { asked = has.asked; tree = is.0; answer = is.1 })
