use Rattle.std.proofs.Common.{rules, ◌≡◌, ◌∙◌, refl, sym, subst, w64, of_z, to_z}
use Rattle.std.specs.Prelude.{Err}
use Rattle.std.proofs.lemmas.Int.{to_z-of_z}
use Rattle.cw_code.specs.Code.{code_view}
use Rattle.cw_jobs.specs.declared.effect.Effect.{Effect}
use Rattle.cw_jobs.specs.Means.{IsMeaningOf}
use Rattle.cw_machine.specs.Answering.{AreValuesOf}
use Rattle.cw_machine.specs.Runs.{GivesAsCode}
use Rattle.cw_machine.proofs.RootEnds.{gave_as_code}
use Rattle.cw_machine.proofs.Taken.{ended_is, fails_as_code, values_fail}
use Rattle.cw_machine.proofs.answering.values_of.Goals as goal

pub returns-in_err-value-clause-tells : goal.returns-in_err-value-clause-tells
returns-in_err-value-clause-tells c =
    let is : c.from_residual.result ≡ Err c.in_err-value.field-0.0 = search rules in
    subst (λ r. AreValuesOf c.args.effect r) (sym is) (values_fail _ c.args.effect c.in_err-value.field-0.0 c.in_err-value.ensures)

pub returns-in_err-value-clause-as_code : goal.returns-in_err-value-clause-as_code
returns-in_err-value-clause-as_code c = λ v args n burden d root r means.
    let is : c.from_residual.result ≡ Err c.in_err-value.field-0.0 = search rules in
    subst (λ k. GivesAsCode (code_view v.code) args n burden k) (sym is)
    (fails_as_code c.the_root_answers_what_the_code_gives.ensures v args n burden d root r c.args.effect c.in_err-value.field-0.0 c.in_err-value.ensures means)

pub returns-clause-as_code : goal.returns-clause-as_code
returns-clause-as_code c = λ v args n burden d root r means.
    let same : to_z w64 (of_z w64 c.int_given.result) ≡ c.int_given.result = search (rules, to_z-of_z) in
    gave_as_code c.the_root_answers_what_the_code_gives.ensures v args n burden d root r c.in_ok-value.value c.in_ok-value.shown _
    (subst (λ (e : Effect). IsMeaningOf root e) (ended_is c.args.effect c.in_ok-value.value c.in_ok-value.shown c.in_ok-value.ensures) means) (same ∙ c.int_given.ensures) c.into_vec.ensures.items refl
