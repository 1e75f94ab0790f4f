use Rattle.std.proofs.Common.{◌≡◌}
use Rattle.cw_machine.specs.RepresentsState.{Stays}
use Rattle.cw_machine.proofs.GivesCells.{Filling}
use Rattle.cw_machine.proofs.machine.Machine.lay_cells.Given as goal

abbrev pub invariant-loop-k : goal.invariant-loop-k
invariant-loop-k l = record {
  cells : Filling l.initial.self.first l.fn.cells.items l.fn.target l.initial.self.cells.items l.k l.self.cells.items;
  place : l.self.place ≡ l.initial.self.place;
  rest : Stays l.initial.self l.self;
}
