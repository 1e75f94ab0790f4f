use Rattle.cw_freed.proofs.PathLaws.{spawns_late}
use Rattle.cw_freed.proofs.paths.spawn_on_path.Goals as goal

pub returns : goal.returns
returns c = spawns_late c.args.path.now c.note.new.self c.spawn.new.self c.args.counted c.args.first c.note.ensures.late c.in_ok-spawn.ensures
