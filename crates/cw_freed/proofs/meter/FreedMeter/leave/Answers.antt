use Rattle.std.proofs.Common.{refl}
use Rattle.cw_freed.proofs.Moves.{left_child, left_place}
use Rattle.cw_freed.proofs.meter.FreedMeter.leave.Goals as goal

pub returns-then-part : goal.returns-then-part
returns-then-part c = record {
  counts = λ frees burden o os es small none k h. left_child frees burden o os es c.args.self.now c.end_child.new.self c.args.part c.if-part.true c.end_child.ensures small none k h;
  parts = refl;
}

pub returns-else-part : goal.returns-else-part
returns-else-part c = record {
  counts = λ frees burden o os es small none k h. left_place frees burden o os es c.args.self.now c.args.part c.if-part.false none k h;
  parts = refl;
}
