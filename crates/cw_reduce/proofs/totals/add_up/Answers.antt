use Rattle.cw_reduce.proofs.IntegerLaws.{wrapped_sum}
use Rattle.cw_reduce.proofs.totals.add_up.Goals as goal

pub returns : goal.returns
returns c = wrapped_sum c.args.sum c.args.more
