use Rattle.std.specs.Int.{w128}
use Rattle.std.proofs.lemmas.Int.{wrapping_add_is}
use Rattle.cw_jobs.proofs.totals.add_up.Goals as goal

pub returns : goal.returns
returns c = wrapping_add_is w128 c.args.sum c.args.more c.ranges.sum c.ranges.more
