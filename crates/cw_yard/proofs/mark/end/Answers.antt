use Rattle.std.proofs.Common.{arith}
use Rattle.cw_yard.proofs.Sights.{sets}
use Rattle.cw_yard.proofs.mark.end.Goals as goal

pub store-requires : goal.store-requires
store-requires c = (c.requires.0, omega (arith, c.requires.1), sets _ _ _)
