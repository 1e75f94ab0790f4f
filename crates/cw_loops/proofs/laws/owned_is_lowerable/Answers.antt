use Rattle.cw_loops.proofs.Accepting.{owned_can}
use Rattle.cw_loops.proofs.laws.owned_is_lowerable.Goals as goal

pub returns : goal.returns
returns c = λ program o. owned_can program o.typed o.owned o.source_like
