use Rattle.std.proofs.Common.{arith}
use Rattle.std.proofs.Math.Nat.{mod-eq_of_lt}
use Rattle.cw_freed.proofs.Moves.{child_begins}
use Rattle.cw_freed.proofs.meter.FreedMeter.spawn_apart.Goals as goal

pub returns : goal.returns
returns c = child_begins c.late_paths_wait.ensures c.args.self.now c.settle.new.self c.spawn.new.self c.stack.new.self c.args.count _ c.args.free (λ small. mod-eq_of_lt (omega arith)) c.settle.ensures c.in_ok-spawn.ensures c.in_ok-stack.ensures
