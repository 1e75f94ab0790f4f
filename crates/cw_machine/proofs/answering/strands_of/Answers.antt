use Rattle.std.proofs.Common.{rules, ◌≡◌, refl, sym, subst}
use Rattle.std.specs.Prelude.{Err}
use Rattle.cw_code.specs.Code.{code_view}
use Rattle.cw_model.specs.Burdens.{no_burden}
use Rattle.cw_meter.specs.declared.detail.Detail.TheVariants.{Strands}
use Rattle.cw_jobs.specs.declared.effect.Effect.{Effect}
use Rattle.cw_jobs.specs.Means.{IsMeaningOf}
use Rattle.cw_machine.specs.Answering.{IsAnswerOf}
use Rattle.cw_machine.specs.Recorded.{RecordsAsCode}
use Rattle.cw_machine.proofs.RootEnds.{recorded_as_code}
use Rattle.cw_machine.proofs.Taken.{answer_fails, ended_is, fails_as_code}
use Rattle.cw_machine.proofs.answering.strands_of.Goals as goal

pub returns-in_err-shown-clause-tells : goal.returns-in_err-shown-clause-tells
returns-in_err-shown-clause-tells c =
    let is : c.from_residual.result ≡ Err c.in_err-shown.field-0.0 = search rules in
    subst (λ r. IsAnswerOf c.args.effect r) (sym is) (answer_fails _ c.args.effect c.in_err-shown.field-0.0 c.in_err-shown.ensures)

pub returns-in_err-shown-clause-as_code : goal.returns-in_err-shown-clause-as_code
returns-in_err-shown-clause-as_code c = λ v args n root r means.
    let is : c.from_residual.result ≡ Err c.in_err-shown.field-0.0 = search rules in
    subst (λ k. RecordsAsCode (code_view v.code) args n k) (sym is)
    (fails_as_code c.the_root_answers_what_the_code_gives.ensures v args n no_burden Strands root r c.args.effect c.in_err-shown.field-0.0 c.in_err-shown.ensures means)

pub returns-clause-as_code : goal.returns-clause-as_code
returns-clause-as_code c = λ v args n root r means.
    recorded_as_code c.the_root_answers_what_the_code_gives.ensures v args n no_burden Strands root r refl refl c.in_ok-shown.field-0-0 c.in_ok-shown.shown _
    (subst (λ (e : Effect). IsMeaningOf root e) (ended_is c.args.effect c.in_ok-shown.field-0-0 c.in_ok-shown.shown c.in_ok-shown.ensures) means) c.in_ok-strands.ensures
