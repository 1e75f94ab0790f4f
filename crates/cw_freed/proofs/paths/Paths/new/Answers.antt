use Rattle.cw_freed.proofs.PathLaws.{both_start}
use Rattle.cw_freed.proofs.paths.Paths.new.Goals as goal

pub returns : goal.returns
returns c = both_start c.args.burden c.new.result c.new-2.result c.new.ensures c.new-2.ensures
