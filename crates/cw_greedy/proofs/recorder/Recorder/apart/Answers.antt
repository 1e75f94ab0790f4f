use Rattle.std.proofs.Common.{refl, true}
use Rattle.cw_greedy.proofs.Starting.{starts_rest}
use Rattle.cw_greedy.proofs.recorder.Recorder.apart.Goals as goal

pub returns : goal.returns
returns c = starts_rest (record { kept = c.new.result; noted = 0; out = true; parts = c.new-2.result }) c.new.ensures refl refl c.new-2.ensures.items
