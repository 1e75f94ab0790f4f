use Rattle.std.proofs.Common.{sym, subst}
use Rattle.std.specs.Arc.{arc_value}
use Rattle.cw_yard.specs.Seats.{IsSeatOf}
use Rattle.cw_yard.specs.lemmas.Seating.{seated}
use Rattle.cw_pool.proofs.run.start.Goals as goal

pub invariant_of-helper : goal.invariant_of-helper
invariant_of-helper g c = record { seated = seated (arc_value c.in-Ok.yard) c.args.seat (subst (λ y. IsSeatOf y c.args.seat) (sym c.in-Ok.ensures) c.requires) }
