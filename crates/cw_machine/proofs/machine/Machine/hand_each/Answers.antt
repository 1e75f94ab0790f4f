use Rattle.std.proofs.Common.{◌<◌, length, arith}
use Rattle.cw_machine.proofs.Handed.{may_hand, hands_none, hands_more, hands_all}
use Rattle.cw_machine.proofs.machine.Machine.hand_each.Goals as goal

pub loop-a-init : goal.loop-a-init
loop-a-init c = hands_none c.args.self.now c.args.lender.first c.args.passed.now c.args.lent.now c.args.lender.slots c.args.slices.now.items

pub hand_one-requires : goal.hand_one-requires
hand_one-requires c =
    let lt : c.loop-a.a < length c.args.slices.now.items = omega (arith, c.loop-a-test.true, c.len-a-end.ensures) in
    may_hand c.args.self.now c.args.lender.first c.args.passed.now c.args.lent.now c.args.lender.slots (length c.args.slices.now.items) c.loop-a.a c.loop-a.self c.loop-a.slices.items c.loop-a.invariant lt c.is_shared-shared.result c.is_shared-shared.ensures c.requires

pub loop-a-preserved : goal.loop-a-preserved
loop-a-preserved c =
    let lt : c.loop-a.a < length c.args.slices.now.items = omega (arith, c.loop-a-test.true, c.len-a-end.ensures) in
    hands_more c.args.self.now c.args.lender.first c.args.passed.now c.args.lent.now c.args.lender.slots (length c.args.slices.now.items) c.loop-a.a c.loop-a.self c.loop-a.slices.items c.loop-a.invariant lt c.is_shared-shared.result c.hand_one.result c.hand_one.new.self c.is_shared-shared.ensures c.hand_one.ensures

pub returns-clause-out : goal.returns-clause-out
returns-clause-out c =
    hands_all c.args.self.now c.args.lender.first c.args.passed.now c.args.lent.now c.args.lender.slots (length c.args.slices.now.items) c.loop-a.a c.loop-a.self c.loop-a.slices.items (omega (arith, c.loop-a-test.false, c.len-a-end.ensures)) c.loop-a.invariant
