use Rattle.std.proofs.Common.{arith}
use Rattle.std.proofs.Math.Nat.{mod-eq_of_lt}
use Rattle.cw_greedy.proofs.Moves.{call_ends}
use Rattle.cw_greedy.proofs.recorder.Recorder.give_back.Goals as goal

pub returns : goal.returns
returns c = call_ends c.args.self.now c.join.new.self c.close.new.self c.args.count _ c.in_ok-join.ensures.joins c.in_ok-join.ensures.out c.in_ok-join.ensures.parts c.in_ok-close.ensures (λ small. mod-eq_of_lt (omega arith))
