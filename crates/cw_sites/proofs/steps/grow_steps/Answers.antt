use Rattle.std.specs.Prelude.{◌≡◌, ℕ, ◌+◌, ◌%◌, ◌^◌, ◌<◌, slice_set}
use Rattle.std.proofs.Common.{◌∙◌, ap, sym, subst}
use Rattle.std.proofs.Math.Nat.{mod-eq_of_lt}
use Rattle.cw_sites.specs.declared.steps.Steps.{Steps}
use Rattle.cw_sites.specs.StepSums.{if_site, whole}
use Rattle.cw_sites.proofs.StepSumLaws.{upto-set, upto-more}
use Rattle.cw_sites.proofs.CompactingLaws.{all_below_at, all_below-set}
use Rattle.cw_sites.proofs.steps.grow_steps.Goals as goal

pub returns-clause-below : goal.returns-clause-below
returns-clause-below c = λ q n h k. upto-set q c.args.steps.now.items c.args.place n _ h

pub returns-clause-all : goal.returns-clause-all
returns-clause-all c = λ start site has q fits.
    let steps = c.args.steps.now.items in
    let one = c.index_mut-one.result.now in
    let is = ap (λ (x : Steps). x.site) c.index_mut-one.ensures.value ∙ has.is one in
    let sum = (one.count + c.args.count) % (2 ^ 64) in
    let P : ℕ → Type 0 = λ x. whole q (slice_set steps c.args.place (record { site = x; count = sum })) ≡ whole q steps + if_site q site c.args.count in
    subst P (sym is) (upto-more q steps c.args.place start one site c.args.count sum has.within has.behind c.index_mut-one.ensures.value is mod-eq_of_lt fits)

pub returns-clause-kept : goal.returns-clause-kept
returns-clause-kept c = λ most a.
    let one = c.index_mut-one.result.now in
    let P : Steps → Type 0 = λ x. x.site < most in
    all_below-set most c.args.steps.now.items c.args.place _ (subst P (sym c.index_mut-one.ensures.value) (all_below_at most c.args.steps.now.items c.args.place one c.requires a)) a
