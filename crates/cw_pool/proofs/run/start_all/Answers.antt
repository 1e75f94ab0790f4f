use Rattle.std.specs.Arc.{arc_value}
use Rattle.cw_pool.proofs.Seating.{last}
use Rattle.cw_pool.proofs.run.start_all.Goals as goal

pub start-requires-after_bounds : goal.start-requires-after_bounds
start-requires-after_bounds g c κs within =
    last (arc_value c.args.yard.now) _ c.loop-body.seats.items c.pop-in-Some.new.self.items c.in-Some-pop.seat c.in-Some-pop.ensures.items c.loop-body.invariant.0
