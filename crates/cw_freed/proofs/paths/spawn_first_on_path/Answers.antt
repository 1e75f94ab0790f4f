use Rattle.std.specs.Prelude.{true}
use Rattle.cw_freed.proofs.PathLaws.{spawns_late}
use Rattle.cw_freed.proofs.paths.spawn_first_on_path.Goals as goal

pub returns : goal.returns
returns c = spawns_late c.args.path.now c.note.new.self c.spawn_within.new.self c.args.counted true c.note.ensures.late c.spawn_within.ensures
