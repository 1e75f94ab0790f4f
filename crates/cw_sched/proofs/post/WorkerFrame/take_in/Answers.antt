use Rattle.std.proofs.Common.{◌∙◌, refl, ap, subst}
use Rattle.cw_sched.specs.WorkerFrames.{HasDone}
use Rattle.cw_sched.specs.Scenes.{FrameView, posted}
use Rattle.cw_sched.proofs.Lists.{tail_of}
use Rattle.cw_sched.proofs.Lacking.{after_back}
use Rattle.cw_sched.proofs.Exceeding.{over_back}
use Rattle.cw_sched.proofs.WorkerFrames.{comes_back}
use Rattle.cw_sched.proofs.post.WorkerFrame.take_in.Goals as goal

pub returns-clause-comes : goal.returns-clause-comes
returns-clause-comes c =
    let p = c.args.self.now in
    let mid : FrameView = record { number = p.number; strand = c.unrun.new.strand; at_join = p.at_join; outs = p.outs.items } in
    λ others e.
    comes_back c.stand.result (posted p) mid (posted c.stand.new.self) c.args.rest others refl refl
    (ap (λ o. o.value) c.unrun.ensures.of) (ap tail_of (c.unrun.ensures.outs ∙ e)) c.stand.ensures.comes

pub returns-clause-counts : goal.returns-clause-counts
returns-clause-counts c = subst (HasDone c.stand.result c.stand.new.self.strand) c.unrun.ensures.counts c.stand.ensures.counts

pub returns-clause-lacks : goal.returns-clause-lacks
returns-clause-lacks c = after_back c.stand.result c.args.self.now.strand c.unrun.new.strand c.stand.new.self.strand c.unrun.ensures.back c.stand.ensures.leaves

pub returns-clause-over : goal.returns-clause-over
returns-clause-over c = λ over. over_back c.args.self.now.strand c.unrun.new.strand c.unrun.ensures.back (c.stand.ensures.over over)
