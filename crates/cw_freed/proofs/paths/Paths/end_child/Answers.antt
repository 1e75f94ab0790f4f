use Rattle.cw_freed.proofs.PathLaws.{both_end}
use Rattle.cw_freed.proofs.paths.Paths.end_child.Goals as goal

pub returns : goal.returns
returns c = both_end c.args.self.now c.end_on_path.new.path c.end_on_path-2.new.path c.args.counted c.end_on_path.ensures c.end_on_path-2.ensures
