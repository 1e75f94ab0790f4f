use Rattle.std.proofs.Common.{sym, subst}
use Rattle.cw_yard.specs.Seats.{IsSeatOf}
use Rattle.cw_part_tests.proofs.walk.rob.Goals as goal

pub returns-in-Some : goal.returns-in-Some
returns-in-Some c = subst (λ s. IsSeatOf c.args.yard.now s) (sym c.settle.ensures) c.in-Some.ensures.seat
