use Rattle.std.proofs.Common.{arith, ◌≤◌}
use Rattle.cw_machine.proofs.GivesNew.{making_may, making_more, making_all}
use Rattle.cw_machine.proofs.machine.Machine.lay_made.Goals as goal

pub lay_new-requires : goal.lay_new-requires
lay_new-requires c =
    making_may c.args.self.now c.args.made.now.items c.args.count c.loop-a.a c.loop-a.self c.loop-a.made.items c.loop-a.invariant.made c.take_new-slot.result c.take_new-slot.ensures.taken c.requires c.loop-a-test.true

pub loop-a-preserved : goal.loop-a-preserved
loop-a-preserved c = record {
  made =
      making_more c.args.self.now c.args.made.now.items c.args.count c.loop-a.a c.loop-a.self c.loop-a.made.items c.loop-a.invariant.made c.take_new-slot.result c.lay_new.new.self c.take_new-slot.new.made.items c.take_new-slot.ensures.taken c.loop-a-test.true c.take_new-slot.ensures.others c.in_ok-lay_new.ensures;
}

pub returns-clause-shows : goal.returns-clause-shows
returns-clause-shows c =
    let le : c.args.count ≤ c.loop-a.a = omega (arith, c.loop-a-test.false) in
    making_all c.args.self.now c.args.made.now.items c.args.count c.loop-a.a c.loop-a.self c.loop-a.made.items c.loop-a.invariant.made le
