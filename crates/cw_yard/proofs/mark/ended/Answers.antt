use Rattle.std.proofs.Common.{arith}
use Rattle.cw_yard.proofs.Sights.{looks}
use Rattle.cw_yard.proofs.mark.ended.Goals as goal

pub load-requires : goal.load-requires
load-requires c = (c.requires.0, omega (arith, c.requires.1), looks _ _ _)
