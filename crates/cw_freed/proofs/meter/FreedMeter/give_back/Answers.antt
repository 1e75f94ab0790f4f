use Rattle.std.proofs.Common.{arith}
use Rattle.std.proofs.Math.Nat.{mod-eq_of_lt}
use Rattle.cw_freed.proofs.Moves.{call_ends}
use Rattle.cw_freed.proofs.meter.FreedMeter.give_back.Goals as goal

pub returns : goal.returns
returns c = call_ends c.instructions_need_no_call.ensures c.args.self.now c.join.new.self c.close.new.self c.args.count _ (λ small. mod-eq_of_lt (omega arith)) c.join.ensures.told c.join.ensures.joined c.close.ensures
