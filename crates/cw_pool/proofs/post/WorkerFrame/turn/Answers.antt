use Rattle.std.proofs.Common.{◌∙◌, List, Some, sym, ap}
use Rattle.std.specs.Prelude.{map}
use Rattle.cw_jobs.specs.declared.job.Job.{Job}
use Rattle.cw_pool.proofs.post.WorkerFrame.turn.Goals as goal

pub returns-in-AtEnd-clause-turn : goal.returns-in-AtEnd-clause-turn
returns-in-AtEnd-clause-turn g c = (
  c.in-AtEnd.ensures.keeps.0,
  c.requires.works.1 ∙ ap (λ (l : List Job). map (λ j. Some j) l) (sym c.in-AtEnd.ensures.keeps.1),
)
