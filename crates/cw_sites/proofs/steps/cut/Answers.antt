use Rattle.std.proofs.Common.{rules, ◌≡◌, length, List, sym, subst, arith}
use Rattle.cw_sites.specs.declared.steps.Steps.{Steps}
use Rattle.cw_sites.specs.StepSums.{AllBelow}
use Rattle.cw_sites.proofs.CompactingLaws.{all_below-take}
use Rattle.cw_sites.proofs.MovingLaws.{cut_out, within_cut}
use Rattle.cw_sites.proofs.steps.cut.Goals as goal

pub returns-clause-cut : goal.returns-clause-cut
returns-clause-cut c =
    let e : c.len-end.result ≡ length c.args.steps.now.items = search rules in
    cut_out c.args.from c.args.to c.len-end.result c.args.steps.now.items c.move_down.new.steps.items c.truncate.new.self.items e c.requires.order c.requires.within c.move_down.ensures.moved c.truncate.ensures.items

pub returns-clause-kept : goal.returns-clause-kept
returns-clause-kept c = λ most a.
    let P : List Steps → Type 0 = AllBelow most in
    subst P (sym c.truncate.ensures.items) (all_below-take most c.move_down.new.steps.items _ (c.move_down.ensures.kept most a))

pub returns-clause-written : goal.returns-clause-written
returns-clause-written c =
    let e : c.len-end.result ≡ length c.args.steps.now.items = search rules in
    within_cut c.args.from c.args.to _ c.args.steps.now.items c.move_down.new.steps.items c.truncate.new.self.items c.move_down.ensures.written c.move_down.ensures.moved.count_is (omega arith) c.truncate.ensures.items
