use Rattle.std.proofs.Common.{rules, ◌≡◌, sym, subst}
use Rattle.std.specs.Prelude.{Err}
use Rattle.std.proofs.Math.Bool.{Bool-set}
use Rattle.std.proofs.Math.Logic.{∥∥₁_elim, ∥∥₁_map}
use Rattle.cw_code.specs.Code.{code_view}
use Rattle.cw_meter.specs.declared.detail.Detail.TheVariants.{Measures}
use Rattle.cw_jobs.specs.declared.effect.Effect.{Effect}
use Rattle.cw_jobs.specs.Means.{IsMeaningOf}
use Rattle.cw_machine.specs.Answering.{IsAnswerOf}
use Rattle.cw_machine.specs.Runs.{RunsAsCode}
use Rattle.cw_machine.proofs.RootEnds.{ended_as_code}
use Rattle.cw_machine.proofs.Taken.{answer_fails, ended_is, fails_as_code}
use Rattle.cw_machine.proofs.answering.answer.Goals as goal

pub ended_in-requires : goal.ended_in-requires
ended_in-requires c = ∥∥₁_map c.requires.whole (λ whole. (c.args.code.now, whole))

pub end_of-requires : goal.end_of-requires
end_of-requires c = ∥∥₁_elim c.args.code.now.ok (hlevel Bool-set) (λ ok. ok.fits.tags)

pub returns-in_err-value-clause-tells : goal.returns-in_err-value-clause-tells
returns-in_err-value-clause-tells c =
    let is : c.from_residual.result ≡ Err c.in_err-value.field-0.0 = search rules in
    subst (λ r. IsAnswerOf c.args.effect r) (sym is) (answer_fails _ c.args.effect c.in_err-value.field-0.0 c.in_err-value.ensures)

pub returns-in_err-value-clause-as_code : goal.returns-in_err-value-clause-as_code
returns-in_err-value-clause-as_code c = λ args n burden root r means.
    let is : c.from_residual.result ≡ Err c.in_err-value.field-0.0 = search rules in
    subst (λ k. RunsAsCode (code_view c.args.code.now.code) args n burden k) (sym is)
    (fails_as_code c.the_root_answers_what_the_code_gives.ensures c.args.code.now args n burden (Measures burden) root r c.args.effect c.in_err-value.field-0.0 c.in_err-value.ensures means)

pub returns-clause-as_code : goal.returns-clause-as_code
returns-clause-as_code c = λ args n burden root r means.
    ended_as_code c.the_root_answers_what_the_code_gives.ensures c.args.code.now args n burden root r c.in_ok-value.value c.in_ok-value.shown c.in_ok-ended.ended
    (subst (λ (e : Effect). IsMeaningOf root e) (ended_is c.args.effect c.in_ok-value.value c.in_ok-value.shown c.in_ok-value.ensures) means) c.in_ok-ended.ensures
