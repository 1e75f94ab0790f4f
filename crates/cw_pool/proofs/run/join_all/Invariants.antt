use Rattle.std.proofs.Common.{length}
use Rattle.cw_pool.proofs.run.join_all.Given as goal

abbrev pub invariant-loop-handle : goal.invariant-loop-handle
invariant-loop-handle g l = Unit {0}

abbrev pub decreases-loop-handle : goal.decreases-loop-handle
decreases-loop-handle g l = length l.handles.items
