use Rattle.cw_freed.proofs.PathLaws.{ends_late}
use Rattle.cw_freed.proofs.paths.end_on_path.Goals as goal

pub returns : goal.returns
returns c = ends_late c.args.path.now c.note.new.self c.end_child.new.self c.args.counted c.args.burden c.note.ensures.late c.end_child.ensures
