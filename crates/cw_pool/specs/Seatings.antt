-- Being a seat of a yard is a proposition, so a type may hold it as a fact.
use Rattle.std.proofs.Props.{props}
use Rattle.cw_yard.specs.contracts.task.Item as item
use Rattle.cw_yard.specs.declared.seat.Yard.{Yard}
use Rattle.cw_yard.specs.declared.seat.Seat.{Seat}
use Rattle.cw_yard.specs.Seated.{IsSeated}

pub IsSeated-prop : (y : Yard) (s : Seat) → IsProp (IsSeated y s)
IsSeated-prop y s = hlevel (props, item.the_row.coded)
