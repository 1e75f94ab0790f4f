use Rattle.cw_greedy.proofs.Moves.{joined_now, joined_not}
use Rattle.cw_greedy.proofs.recorder.Recorder.join.Goals as goal

pub returns-in_ok-cut-clause-joins : goal.returns-in_ok-cut-clause-joins
returns-in_ok-cut-clause-joins c = joined_now c.args.self.now c.cut.new.self c.args.count c.if-self.true c.in_ok-cut.ensures

pub returns-else-self-clause-joins : goal.returns-else-self-clause-joins
returns-else-self-clause-joins c = joined_not c.args.self.now c.args.count c.if-self.false
