use Rattle.std.proofs.Common.{sym, subst}
use Rattle.cw_greedy.specs.Recording.{Reads}
use Rattle.cw_greedy.proofs.Moves.{reads}
use Rattle.cw_greedy.proofs.recorder.Recorder.finish.Goals as goal

pub returns : goal.returns
returns c =
    subst (Reads c.args.self c.args.count) (sym c.in_ok-strands.ensures) (reads c.args.self c.settle.new.self c.args.count c.in_ok-settle.ensures)
