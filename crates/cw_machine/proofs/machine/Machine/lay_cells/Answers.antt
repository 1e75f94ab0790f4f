use Rattle.std.proofs.Common.{arith, ◌≤◌, length}
use Rattle.cw_machine.proofs.GivesCells.{filling_all}
use Rattle.cw_machine.proofs.machine.Machine.lay_cells.Goals as goal

pub returns-clause-cells : goal.returns-clause-cells
returns-clause-cells c =
    let le : length c.args.cells.now.items ≤ c.loop-k.k = omega (arith, c.loop-k-test.false, c.len-k-end.ensures) in
    filling_all c.args.self.now.first c.args.cells.now.items c.args.target c.args.self.now.cells.items c.loop-k.k c.loop-k.self.cells.items le c.loop-k.invariant.cells
