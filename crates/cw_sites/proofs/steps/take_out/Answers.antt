use Rattle.std.proofs.Common.{List, sym, subst, arith}
use Rattle.cw_sites.specs.declared.steps.Steps.{Steps}
use Rattle.cw_sites.specs.StepSums.{AllBelow}
use Rattle.cw_sites.proofs.CompactingLaws.{all_below-take}
use Rattle.cw_sites.proofs.MovingLaws.{last_out, swapped_out, all_below-swapped}
use Rattle.cw_sites.proofs.steps.take_out.Goals as goal

pub returns-then-to-len-2-clause-cut : goal.returns-then-to-len-2-clause-cut
returns-then-to-len-2-clause-cut c = λ order within. last_out c.args.from c.args.to c.args.steps.now.items c.truncate.new.self.items order (omega arith) c.truncate.ensures.items

pub returns-then-to-len-2-clause-kept : goal.returns-then-to-len-2-clause-kept
returns-then-to-len-2-clause-kept c = λ most a.
    let P : List Steps → Type 0 = AllBelow most in
    subst P (sym c.truncate.ensures.items) (all_below-take most c.args.steps.now.items c.args.from a)

pub returns-then-to-from-eq1-clause-cut : goal.returns-then-to-from-eq1-clause-cut
returns-then-to-from-eq1-clause-cut c = λ order within. swapped_out c.args.from c.args.to c.args.steps.now.items c.swap_remove-gone.new.self.items c.swap_remove-gone.result (omega arith) within c.swap_remove-gone.ensures.items

pub returns-then-to-from-eq1-clause-kept : goal.returns-then-to-from-eq1-clause-kept
returns-then-to-from-eq1-clause-kept c = λ most a. all_below-swapped most c.args.steps.now.items c.swap_remove-gone.new.self.items c.args.from c.swap_remove-gone.result (omega arith) c.swap_remove-gone.ensures.items a
