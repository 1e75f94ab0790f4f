use Rattle.std.proofs.Common.{◌∙◌, Some, sym, ap, subst}
use Rattle.cw_jobs.specs.Means.{IsMeaningOf}
use Rattle.cw_strand.specs.Holds.{its_job}
use Rattle.cw_pool.specs.declared.post.WorkerFrame.{WorkerFrame}
use Rattle.cw_pool.specs.WorkerFrames.{Works}
use Rattle.cw_pool.proofs.Stacking.{below, more, same_chain}
use Rattle.cw_pool.proofs.work.steal_above.Goals as goal

pub settle-requires-clause-settles : goal.settle-requires-clause-settles
settle-requires-clause-settles g c = (
  c.in-Some.ensures.found.0,
  (c.in-Some.stolen, c.in-Some.ensures.found.1, subst (λ j. IsMeaningOf j c.give_up.result) c.in-Err.ensures c.give_up.ensures.means),
)

pub returns-in-Ok-clause-stands : goal.returns-in-Ok-clause-stands
returns-in-Ok-clause-stands g c root stands =
    let y = c.args.yard.now in
    let is = ap (λ (q : WorkerFrame). its_job q.strand) c.replace-waiting.ensures.value in
    let above = ap (λ (q : WorkerFrame). its_job q.strand) c.replace-waiting.ensures.after ∙ c.in-Ok.ensures.0 in (
      subst (λ q. Works y q) (sym c.replace-waiting.ensures.after) (c.in-Ok.ensures.1 y),
      more y root _ c.reserve.new.self.items c.push_reserved.new.self.items (below c.replace-waiting.result c.in-Some.duty c.args.held) c.push_reserved.ensures.items
          (c.in-Some.ensures.found.1 ∙ ap (λ j. Some j) (sym above)) c.in-Some.ensures.found.0
          (subst (λ q. Works y q) (sym c.replace-waiting.ensures.value) stands.0)
          (same_chain y root _ _ c.args.below.now.items c.reserve.new.self.items is c.reserve.ensures.items stands.1),
    )
