use Rattle.std.proofs.Common.{refl, ap}
use Rattle.cw_sched.specs.Scenes.{FrameView, posted}
use Rattle.cw_sched.proofs.Lacking.{after_end}
use Rattle.cw_sched.proofs.WorkerFrames.{comes_back, given_done}
use Rattle.cw_sched.proofs.post.WorkerFrame.give.Goals as goal

pub returns-clause-comes : goal.returns-clause-comes
returns-clause-comes c =
    let p = c.args.self.now in
    let mid : FrameView = record { number = p.number; strand = c.give.new.self; at_join = p.at_join; outs = p.outs.items } in
    λ newest others e.
    comes_back c.stand.result (posted p) mid (posted c.stand.new.self) newest others refl refl
    (ap (λ o. o.value) c.give.ensures.of) (c.give.ensures.outs newest others e) c.stand.ensures.comes

pub returns-clause-counts : goal.returns-clause-counts
returns-clause-counts c = given_done c.stand.result c.args.effect c.args.self.now.strand c.give.new.self c.stand.new.self.strand c.give.ensures.counts c.stand.ensures.counts

pub returns-clause-lacks : goal.returns-clause-lacks
returns-clause-lacks c = λ l. c.give.ensures.lacks (after_end c.stand.result c.give.new.self c.stand.new.self.strand c.stand.ensures.leaves l)

pub returns-clause-over : goal.returns-clause-over
returns-clause-over c = λ over. c.give.ensures.over (c.stand.ensures.over over)
