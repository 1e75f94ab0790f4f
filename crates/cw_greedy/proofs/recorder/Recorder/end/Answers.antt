use Rattle.cw_greedy.proofs.Moves.{block_ends}
use Rattle.cw_greedy.proofs.recorder.Recorder.end.Goals as goal

pub returns : goal.returns
returns c = block_ends c.args.self.now c.join.new.self c.close.new.self c.args.count c.in_ok-join.ensures.joins c.in_ok-join.ensures.out c.in_ok-join.ensures.parts c.in_ok-close.ensures
