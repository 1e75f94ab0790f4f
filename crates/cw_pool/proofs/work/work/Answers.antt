use Rattle.std.proofs.Common.{◌≡◌, ◌∙◌, refl, sym, ap, subst}
use Rattle.cw_jobs.specs.Means.{IsMeaningOf}
use Rattle.cw_strand.specs.Holds.{its_job}
use Rattle.cw_pool.specs.declared.post.WorkerFrame.{WorkerFrame}
use Rattle.cw_pool.specs.WorkerFrames.{Works}
use Rattle.cw_pool.proofs.Stacking.{begun, same_chain, same_of, less}
use Rattle.cw_pool.proofs.work.work.Goals as goal

pub loop-init : goal.loop-init
loop-init g c =
    let y = c.args.yard.now in
    (tt, tt, c.requires, (c.in-Ok.ensures.1 y, begun y c.args.job _ c.new-below.result.items c.new-below.ensures.items c.in-Ok.ensures.0))

pub turn-requires-clause-works : goal.turn-requires-clause-works
turn-requires-clause-works g c = c.heed.ensures.works c.args.yard.now c.loop.invariant.3.0

pub settle-requires-clause-settles : goal.settle-requires-clause-settles
settle-requires-clause-settles g c =
    let y = c.args.yard.now in
    let l = less y c.args.job _ c.loop.below.items c.pop.new.self.items c.in-Some-pop.field-0 c.in-Some-pop.ensures.items c.loop.invariant.3.1 in (
      l.1,
      (
        its_job c.loop.post.strand,
        l.0,
        subst (λ j. IsMeaningOf j c.effect-effect.result) (ap (λ (q : WorkerFrame). its_job q.strand) c.replace-ended.ensures.value ∙ (same_of c.turn.new.self.strand c.heed.new.self.strand c.in-Ends.ensures.of ∙ same_of c.heed.new.self.strand c.loop.post.strand c.heed.ensures.of)) c.effect-effect.ensures.means,
      ),
    )

pub loop-preserved : goal.loop-preserved
loop-preserved g c =
    let y = c.args.yard.now in
    let root = c.args.job in
    let l = less y root _ c.loop.below.items c.pop.new.self.items c.in-Some-pop.field-0 c.in-Some-pop.ensures.items c.loop.invariant.3.1 in
    let is : c.replace-ended.new.dest ≡ c.in-Some-pop.field-0.post = c.replace-ended.ensures.after in (
      tt,
      tt,
      c.settle.ensures,
      (
        subst (λ q. Works y q) (sym is) l.2,
        same_chain y root _ _ c.pop.new.self.items c.pop.new.self.items (ap (λ (q : WorkerFrame). its_job q.strand) is) refl l.3,
      ),
    )
