use Rattle.std.proofs.Common.{◌≡◌, length, sym, ◌∙◌, arith}
use Rattle.cw_facts.specs.Tests.{eq_of}
use Rattle.cw_code.specs.Fits.{slots_lent}
use Rattle.cw_machine.proofs.Home.{home_none, home_all}
use Rattle.cw_machine.proofs.machine.Machine.take_back.Goals as goal

pub returns-then-is_empty-clause-shows : goal.returns-then-is_empty-clause-shows
returns-then-is_empty-clause-shows c =
    let m = c.args.self.now in
    let v = c.args.rest.now.slices in
    let slices = v.items in
    let none : length slices ≡ 0 = sym v.ok.0 ∙ eq_of v.len 0 (sym c.is_empty.ensures ∙ c.if-is_empty.true) in
    home_all m c.args.slots (slots_lent c.args.lent.now) slices 0 m slices (home_none m c.args.slots (slots_lent c.args.lent.now) slices) (omega (arith, none))
