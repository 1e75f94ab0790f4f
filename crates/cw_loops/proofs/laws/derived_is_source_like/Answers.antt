use Rattle.cw_loops.proofs.Deriving.{derived_like}
use Rattle.cw_loops.proofs.laws.derived_is_source_like.Goals as goal

pub returns : goal.returns
returns c = derived_like
