use Rattle.cw_part_tests.proofs.Two.{two_seats}
use Rattle.cw_part_tests.proofs.race.two.Goals as goal

pub returns : goal.returns
returns c =
    two_seats c.in_ok-yard.yard c.args.cells c.in_ok-yard.seats.items c.pop.new.self.items c.pop-2.new.self.items c.in-Some.one c.in-Some-pop.other
    c.in_ok-yard.ensures c.in-Some.ensures.items c.in-Some-pop.ensures.items
