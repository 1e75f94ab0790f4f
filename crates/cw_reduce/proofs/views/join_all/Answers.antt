use Rattle.std.proofs.Common.{arith}
use Rattle.cw_reduce.proofs.ShownTellLaws.{one_joined}
use Rattle.cw_reduce.proofs.views.join_all.Goals as goal

pub loop-i-preserved : goal.loop-i-preserved
loop-i-preserved c =
    one_joined c.args.from.now.items c.args.into.items c.loop-i.into.items c.loop-i.i c.index.result.now c.index-in-loop-i.result.now c.joined.result (omega arith) c.requires c.index.ensures c.index-in-loop-i.ensures c.joined.ensures c.loop-i.invariant
