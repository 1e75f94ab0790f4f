use Rattle.std.proofs.Common.{◌≡◌}
use Rattle.cw_code.specs.Fits.{slots_lent}
use Rattle.cw_machine.proofs.Home.{HasReturnedSlices}
use Rattle.cw_machine.proofs.machine.Machine.lay_each.Given as goal

abbrev pub invariant-loop-k : goal.invariant-loop-k
invariant-loop-k l = record {
  home : HasReturnedSlices l.initial.self l.slots (slots_lent l.lent) l.initial.rest.slices.items l.k l.self l.rest.slices.items;
  cells : l.rest.cells.items ≡ l.initial.rest.cells.items;
  place : l.rest.place ≡ l.initial.rest.place;
  depth : l.rest.depth ≡ l.initial.rest.depth;
}
