use Rattle.std.proofs.Common.{◌-◌, arith}
use Rattle.cw_sites.proofs.MovingLaws.{moved_down, all_below-moved, within_moved}
use Rattle.cw_sites.proofs.steps.move_down.Goals as goal

pub returns-clause-moved : goal.returns-clause-moved
returns-clause-moved c = moved_down c.args.from c.args.to c.args.end c.min-count.result c.args.steps.now.items c.copy_within.new.self.items c.requires.order c.requires.behind c.requires.within (omega arith) c.copy_within.ensures.items

pub returns-clause-kept : goal.returns-clause-kept
returns-clause-kept c = λ most a. all_below-moved most c.args.steps.now.items c.copy_within.new.self.items c.args.from (c.args.end - c.min-count.result) (c.args.end - (c.args.end - c.min-count.result)) c.copy_within.ensures.items a

pub returns-clause-written : goal.returns-clause-written
returns-clause-written c =
    let h = c.copy_within.ensures.by_index in
    within_moved c.args.from c.args.to (c.args.end - (c.args.end - c.min-count.result)) 0 c.args.steps.now.items c.copy_within.new.self.items (omega arith) c.requires.order h.1 h.2
