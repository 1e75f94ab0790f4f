use Rattle.std.proofs.Common.{sym, subst}
use Rattle.std.specs.Arc.{arc_value}
use Rattle.cw_yard.specs.Seats.{IsSeatOf}
use Rattle.cw_yard.specs.lemmas.Seating.{seat_of}
use Rattle.cw_pool.proofs.crew.Helper.serve.Goals as goal

pub help-requires : goal.help-requires
help-requires g c = subst (λ y. IsSeatOf y c.args.self.seat) (sym c.deref.ensures) (seat_of (arc_value c.args.self.yard) c.args.self.seat c.args.self.seated)
