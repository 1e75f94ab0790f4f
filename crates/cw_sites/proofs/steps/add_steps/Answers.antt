use Rattle.std.proofs.Common.{ap, sym, subst, ◌∙◌, List, arith}
use Rattle.cw_sites.proofs.StepSumLaws.{upto-append, upto-push}
use Rattle.cw_sites.specs.declared.steps.Steps.{Steps}
use Rattle.cw_sites.specs.StepSums.{upto, whole, AllBelow}
use Rattle.cw_sites.proofs.CompactingLaws.{all_below-append}
use Rattle.cw_sites.proofs.steps.add_steps.Goals as goal

pub returns-then-has_steps-clause-below : goal.returns-then-has_steps-clause-below
returns-then-has_steps-clause-below c = λ q n h k. let b = (c.has_steps.ensures c.if-has_steps.true).behind in c.grow_steps.ensures.below q n (omega arith) k

pub returns-then-has_steps-clause-all : goal.returns-then-has_steps-clause-all
returns-then-has_steps-clause-all c = c.grow_steps.ensures.all c.args.start c.args.site (c.has_steps.ensures c.if-has_steps.true)

pub returns-then-has_steps-clause-kept : goal.returns-then-has_steps-clause-kept
returns-then-has_steps-clause-kept c = λ most h a. c.grow_steps.ensures.kept most a

pub returns-clause-below : goal.returns-clause-below
returns-clause-below c = λ q n h k. ap (λ x. upto q x n) c.in_ok-put.ensures.put ∙ upto-append q c.args.steps.now.items _ n k

pub returns-clause-all : goal.returns-clause-all
returns-clause-all c = λ q h. ap (whole q) c.in_ok-put.ensures.put ∙ upto-push q c.args.steps.now.items _

pub returns-clause-kept : goal.returns-clause-kept
returns-clause-kept c = λ most h a.
    let P : List Steps → Type 0 = AllBelow most in
    subst P (sym c.in_ok-put.ensures.put) (all_below-append most c.args.steps.now.items _ a (h, tt))
