use Rattle.std.specs.Prelude.{true}
use Rattle.cw_freed.proofs.PathLaws.{both_spawn}
use Rattle.cw_freed.proofs.paths.Paths.spawn_first.Goals as goal

pub returns : goal.returns
returns c = both_spawn c.args.self.now c.spawn_first_on_path.new.path c.spawn_first_on_path-2.new.path c.args.counted true c.spawn_first_on_path.ensures c.spawn_first_on_path-2.ensures
