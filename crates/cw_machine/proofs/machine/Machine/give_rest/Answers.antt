use Rattle.std.proofs.Common.{arith, ap}
use Rattle.std.specs.Prelude.{length}
use Rattle.cw_code.specs.Fits.{slots_lent}
use Rattle.cw_machine.proofs.GivesBack.{may_home, cells_there, may_make, gives_back}
use Rattle.cw_machine.proofs.machine.Machine.give_rest.Goals as goal

pub lay_returned-requires : goal.lay_returned-requires
lay_returned-requires c = may_home c.args.self.now c.args.back.now c.args.replaced.now.items c.args.slots (slots_lent c.args.lent.now) c.args.target c.requires

pub lay_made-requires : goal.lay_made-requires
lay_made-requires c =
    may_make c.args.self.now c.args.back.now c.args.replaced.now.items c.args.slots (slots_lent c.args.lent.now) c.args.target c.lay_returned.new.replaced.items c.lay_returned.new.self c.lay_returned.ensures.made c.lay_returned.ensures.shows c.requires

pub lay_cells-requires : goal.lay_cells-requires
lay_cells-requires c =
    let le = cells_there c.args.self.now c.args.back.now c.args.replaced.now.items c.args.slots (slots_lent c.args.lent.now) c.args.target c.requires in
    let first = c.lay_returned.ensures.rest.first in
    let first' = c.in_ok-lay_made.ensures.rest.first in
    let n = ap (λ l. length l) c.lay_returned.ensures.rest.cells in
    let n' = ap (λ l. length l) c.in_ok-lay_made.ensures.rest.cells in
    omega (arith, le, first, first', n, n')

pub returns-clause-shows : goal.returns-clause-shows
returns-clause-shows c =
    gives_back c.args.self.now c.args.back.now c.args.replaced.now.items c.args.slots (slots_lent c.args.lent.now) c.args.target c.lay_returned.new.replaced.items c.lay_returned.new.self c.lay_returned.ensures.made c.lay_returned.ensures.shows
    c.lay_made.new.self c.lay_cells.new.self c.in_ok-lay_made.ensures.shows c.lay_cells.ensures.rest c.lay_cells.ensures.cells
