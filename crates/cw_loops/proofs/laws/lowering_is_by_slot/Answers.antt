use Rattle.cw_loops.proofs.WholeSlots.{lowers_by_slot}
use Rattle.cw_loops.proofs.laws.lowering_is_by_slot.Goals as goal

pub returns : goal.returns
returns c = λ program o within. lowers_by_slot c.resolved_is_fitting.ensures program o.typed o.owned o.source_like within.limits within.loops
