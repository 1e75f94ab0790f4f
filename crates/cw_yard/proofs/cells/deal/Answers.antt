use Rattle.std.proofs.Common.{arith}
use Rattle.cw_yard.proofs.Keeps.{deals}
use Rattle.cw_yard.proofs.cells.deal.Goals as goal

pub split_seat-requires : goal.split_seat-requires
split_seat-requires c = (c.requires.table.0, omega (arith, c.requires.table), rw c.requires.held.2 (deals _ _ _ _))
