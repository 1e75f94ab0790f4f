use Rattle.cw_greedy.proofs.Moves.{quiet_begins}
use Rattle.cw_greedy.proofs.recorder.Recorder.begin.Goals as goal

pub returns : goal.returns
returns c = quiet_begins c.args.self.now c.stack.new.self c.args.count c.in_ok-stack.ensures
