use Rattle.std.proofs.Common.{◌∙◌, false, refl, sym, ap}
use Rattle.cw_sched.specs.Scenes.{FrameView, posted}
use Rattle.cw_sched.proofs.Lists.{empty_from, some_from}
use Rattle.cw_sched.proofs.Exceeding.{ends_over}
use Rattle.cw_sched.proofs.WorkerFrames.{ends, ends_done, stands_paused}
use Rattle.cw_sched.proofs.post.WorkerFrame.stand.Goals as goal

pub returns-then-is_empty-clause-comes : goal.returns-then-is_empty-clause-comes
returns-then-is_empty-clause-comes c =
    let p = c.args.self.now in
    let none = empty_from p.outs (sym c.is_empty.ensures ∙ c.if-is_empty.true) in
    let new : FrameView = record { number = p.number; strand = c.end.new.self; at_join = false; outs = p.outs.items } in
    ends c.end.result (posted p) new refl refl (ap (λ o. o.value) c.end.ensures.of) none refl c.requires.even c.end.ensures.ends

pub returns-then-is_empty-clause-counts : goal.returns-then-is_empty-clause-counts
returns-then-is_empty-clause-counts c = ends_done c.end.result c.args.self.now.strand c.end.new.self c.end.ensures.ends

pub returns-clause-comes : goal.returns-clause-comes
returns-clause-comes c =
    let p = c.args.self.now in
    let some = some_from p.outs (sym c.is_empty.ensures ∙ c.if-is_empty.false) in
    let new : FrameView = record { number = p.number; strand = p.strand; at_join = c.is_paused-self.result; outs = p.outs.items } in
    record {
      numbered = refl;
      of = refl;
      running = c.requires.running;
      outs_are = refl;
      left_are = refl;
      stands = stands_paused new c.is_paused-self.ensures.yes c.is_paused-self.ensures.no some c.requires.even;
    }

pub returns-then-is_empty-clause-over : goal.returns-then-is_empty-clause-over
returns-then-is_empty-clause-over c = ends_over c.end.result c.args.self.now.strand c.end.new.self c.end.ensures.ends c.end.ensures.leaves

pub returns-clause-over : goal.returns-clause-over
returns-clause-over c = λ over. over
