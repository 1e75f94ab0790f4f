use Rattle.cw_loops.proofs.Equal.{bodies_equal}
use Rattle.cw_loops.proofs.laws.same_trees_are_equal.Goals as goal

pub returns : goal.returns
returns c = bodies_equal
