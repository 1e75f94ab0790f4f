use Rattle.std.proofs.Common.{arith}
use Rattle.cw_yard.proofs.Sights.{shares}
use Rattle.cw_yard.proofs.mark.another.Goals as goal

pub split_seat-requires : goal.split_seat-requires
split_seat-requires c = (c.requires.0, omega (arith, c.requires.1), shares _ _)
