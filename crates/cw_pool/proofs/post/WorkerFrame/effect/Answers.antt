use Rattle.cw_strand.specs.Holds.{outs}
use Rattle.cw_pool.proofs.Joins.{nothing}
use Rattle.cw_pool.proofs.post.WorkerFrame.effect.Goals as goal

pub returns-clause-none : goal.returns-clause-none
returns-clause-none c = nothing c.args.self.now.kept.items (outs c.args.self.now.strand) c.requires.1 c.effect_at.ensures.none
