use Rattle.std.proofs.Common.{arith}
use Rattle.cw_yard.proofs.Keeps.{opens}
use Rattle.cw_yard.proofs.cells.open.Goals as goal

pub load-requires : goal.load-requires
load-requires g c = (c.requires.table.0, omega (arith, c.requires.table), rw c.requires.free (opens _ c.requires.stage.0 c.requires.stage.1 c.requires.stage.2 _ _ _ c.requires.table.1))
