use Rattle.std.proofs.Common.{arith}
use Rattle.std.proofs.Math.Nat.{mod-eq_of_lt}
use Rattle.cw_greedy.proofs.Moves.{child_begins}
use Rattle.cw_greedy.proofs.recorder.Recorder.spawn.Goals as goal

pub returns : goal.returns
returns c = child_begins c.args.self.now c.cut.new.self c.stack.new.self c.args.count _ c.in_ok-cut.ensures c.in_ok-stack.ensures (λ small. mod-eq_of_lt (omega arith))
