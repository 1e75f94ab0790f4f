use Rattle.cw_freed.proofs.PathLaws.{both_read}
use Rattle.cw_freed.proofs.paths.Paths.weights.Goals as goal

pub returns : goal.returns
returns c = both_read c.args.self.now c.note.new.self c.note-2.new.self c.args.counted c.weight.result c.weight-2.result c.note.ensures.late c.note-2.ensures.late c.weight.ensures.reads c.weight-2.ensures.reads
