use Rattle.cw_freed.proofs.PathLaws.{both_spawn}
use Rattle.cw_freed.proofs.paths.Paths.spawn.Goals as goal

pub returns : goal.returns
returns c = both_spawn c.args.self.now c.spawn_on_path.new.path c.spawn_on_path-2.new.path c.args.counted c.args.first c.in_ok-spawn_on_path.ensures c.in_ok-spawn_on_path-2.ensures
