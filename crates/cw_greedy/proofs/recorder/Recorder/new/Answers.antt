use Rattle.std.proofs.Common.{refl, false}
use Rattle.cw_greedy.proofs.Starting.{starts}
use Rattle.cw_greedy.proofs.recorder.Recorder.new.Goals as goal

pub returns : goal.returns
returns c = starts (record { kept = c.new.result; noted = 0; out = false; parts = c.new-2.result }) c.new.ensures refl refl c.new-2.ensures.items
