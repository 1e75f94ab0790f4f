use Rattle.cw_greedy.proofs.Moves.{block_joins}
use Rattle.cw_greedy.proofs.recorder.Recorder.sync.Goals as goal

pub returns : goal.returns
returns c = block_joins c.args.self.now c.join.new.self c.args.count c.in_ok-join.ensures.joins c.in_ok-join.ensures.out c.in_ok-join.ensures.parts
