use Rattle.cw_freed.proofs.PathLaws.{both_join}
use Rattle.cw_freed.proofs.paths.Paths.join.Goals as goal

pub returns : goal.returns
returns c = both_join c.args.self.now c.join_on_path.new.path c.join_on_path-2.new.path c.args.counted c.join_on_path.ensures c.join_on_path-2.ensures
