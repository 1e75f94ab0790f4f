use Rattle.std.proofs.Common.{◌≡◌, ◌∙◌, true, false, Some, None, refl, sym, ap, subst}
use Rattle.cw_code.specs.Code.{code_view}
use Rattle.cw_sched.specs.core.Board.{oldest, of_worker}
use Rattle.cw_sched.specs.Scenes.{stacks}
use Rattle.cw_sched.specs.Worlds.{answer_in, is_answered}
use Rattle.cw_sched.specs.Copied.{IsOptionCopy}
use Rattle.cw_sched.proofs.Copies.{copy_runs}
use Rattle.cw_sched.proofs.Ends.{answer_is, answer_none, root_answer}
use Rattle.cw_sched.proofs.world.World.outcome.Goals as goal

pub returns-in-Some-clause-ended : goal.returns-in-Some-clause-ended
returns-in-Some-clause-ended c =
    let first : Some c.in-Some.answer.now ≡ answer_in (oldest (of_worker (stacks c.args.self.now.begun) 0)) = c.in-Some.ensures ∙ ap answer_in c.first.ensures in
    ((λ _. ap is_answered (answer_is _ _ first)), (λ _. refl))

pub returns-in-Some-clause-answers : goal.returns-in-Some-clause-answers
returns-in-Some-clause-answers c =
    let first : Some c.in-Some.answer.now ≡ answer_in (oldest (of_worker (stacks c.args.self.now.begun) 0)) = c.in-Some.ensures ∙ ap answer_in c.first.ensures in
    λ v args n burden h.
    copy_runs (code_view v.code) args n burden c.in-Some.answer.now c.copy_of.result c.copy_of.ensures
    (root_answer v args n burden c.args.self.now c.in-Some.answer.now h (answer_is _ _ first))

pub returns-in-None-clause-ended : goal.returns-in-None-clause-ended
returns-in-None-clause-ended c =
    let first : None ≡ answer_in (oldest (of_worker (stacks c.args.self.now.begun) 0)) = c.in-None.ensures ∙ ap answer_in c.first.ensures in
    let not : is_answered (oldest (of_worker (stacks c.args.self.now.begun) 0)) ≡ false = answer_none _ first in
    ((λ x. let never : ⊥ = cc in absurd never), λ e. let bad : true ≡ false = sym e ∙ not in let never : ⊥ = cc in absurd never)

pub returns-in-Some-clause-copy : goal.returns-in-Some-clause-copy
returns-in-Some-clause-copy c =
    let first : Some c.in-Some.answer.now ≡ answer_in (oldest (of_worker (stacks c.args.self.now.begun) 0)) = c.in-Some.ensures ∙ ap answer_in c.first.ensures in
    subst (λ o. IsOptionCopy o (Some c.copy_of.result)) first c.copy_of.ensures

pub returns-in-None-clause-copy : goal.returns-in-None-clause-copy
returns-in-None-clause-copy c =
    let first : None ≡ answer_in (oldest (of_worker (stacks c.args.self.now.begun) 0)) = c.in-None.ensures ∙ ap answer_in c.first.ensures in
    subst (λ o. IsOptionCopy o None) first tt
