use Rattle.cw_freed.proofs.PathLaws.{joins_late}
use Rattle.cw_freed.proofs.paths.join_on_path.Goals as goal

pub returns : goal.returns
returns c = joins_late c.args.path.now c.note.new.self c.join.new.self c.args.counted c.note.ensures.late c.join.ensures
