use Rattle.std.proofs.Common.{◌≡◌, ℕ, subst, arith}
use Rattle.cw_sites.specs.Compacting.{IsGathered}
use Rattle.cw_sites.specs.StepSums.{IsCutOut}
use Rattle.cw_sites.proofs.CompactingLaws.{added_up}
use Rattle.cw_sites.proofs.compacting.add_up.Goals as goal

pub returns-clause-all : goal.returns-clause-all
returns-clause-all c = λ o l.
    let old = c.args.steps.now.items in
    let mid = c.gather.new.steps.items in
    let new = c.take_out.new.steps.items in
    let end = c.in_ok-end.end in
    let last = c.min-last.result in
    let is : last ≡ c.args.to = omega arith in
    let G : ℕ → Type 0 = λ n. IsGathered c.args.from n old mid end in
    let C : ℕ → Type 0 = λ n. IsCutOut end n mid new in
    let g = c.in_ok-end.ensures in
    let e = g.end_is in
    let n = g.count_is in
    added_up c.args.from c.args.to end old mid new l (subst G is g) (subst C is (c.take_out.ensures.cut (omega arith) (omega arith)))

pub returns-clause-short : goal.returns-clause-short
returns-clause-short c = c.in_ok-end.ensures.sites

pub returns-clause-kept : goal.returns-clause-kept
returns-clause-kept c = λ most b. c.take_out.ensures.kept most (c.in_ok-end.ensures.kept most b)

pub returns-clause-count : goal.returns-clause-count
returns-clause-count c = λ l. (returns-clause-all c (omega arith) l).count_is
