use Rattle.std.proofs.Common.{arith, refl}
use Rattle.cw_freed.proofs.Moves.{reads}
use Rattle.cw_freed.proofs.meter.FreedMeter.finish.Goals as goal

pub returns : goal.returns
returns c = reads c.args.self c.settle.new.self c.args.count c.weights-plain.result.0 c.weights-plain.result.1 _ c.settle.ensures c.weights-plain.ensures (omega (arith, c.min.ensures)) refl
