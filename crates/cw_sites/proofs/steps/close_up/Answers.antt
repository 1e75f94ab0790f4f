use Rattle.std.proofs.Common.{arith}
use Rattle.cw_sites.proofs.MovingLaws.{closed_up, within_closed}
use Rattle.cw_sites.proofs.steps.close_up.Goals as goal

pub returns-clause-closed : goal.returns-clause-closed
returns-clause-closed c = λ order behind within.
    closed_up c.args.from c.args.to c.args.end _ c.args.steps.now.items c.move_down.new.steps.items c.cut.new.steps.items order behind within (omega arith) c.move_down.ensures.moved c.cut.ensures.cut

pub returns-clause-kept : goal.returns-clause-kept
returns-clause-kept c = λ most a. c.cut.ensures.kept most (c.move_down.ensures.kept most a)

pub returns-clause-written : goal.returns-clause-written
returns-clause-written c =
    let n = c.cut.ensures.cut.count_is in
    within_closed c.args.from c.args.to c.args.end _ c.args.steps.now.items c.move_down.new.steps.items c.cut.new.steps.items (omega arith) c.move_down.ensures.moved.count_is c.move_down.ensures.written c.cut.ensures.written (omega arith)
