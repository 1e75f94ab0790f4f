use Rattle.cw_greedy.proofs.Moves.{noted_now, noted_already}
use Rattle.std.proofs.Common.{refl, arith}
use Rattle.cw_greedy.proofs.recorder.Recorder.settle.Goals as goal

pub returns-in_ok-note : goal.returns-in_ok-note
returns-in_ok-note c = noted_now c.args.self.now (record { kept = c.note.new.self; noted = c.args.count; out = c.args.self.now.out; parts = c.args.self.now.parts }) c.args.count refl c.in_ok-note.ensures.noted refl refl

pub returns-else-self-count : goal.returns-else-self-count
returns-else-self-count c = noted_already c.args.self.now c.args.count (omega (arith, c.if-self-count.false))
