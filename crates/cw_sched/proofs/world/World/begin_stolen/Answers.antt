use Rattle.std.proofs.Common.{◌≡◌, ◌∙◌, List, refl, sym, ap, subst, length}
use Rattle.std.specs.Arc.{arc_value}
use Rattle.cw_jobs.specs.declared.job.Job.{Job}
use Rattle.cw_strand.specs.Holds.{its_job}
use Rattle.cw_sched.specs.declared.board.Offer.{Offer}
use Rattle.cw_sched.specs.Boards.{Boarded, returned, stolen}
use Rattle.cw_sched.specs.Scenes.{posted, scene, stacks}
use Rattle.cw_sched.specs.Events.{with_top, Counts}
use Rattle.cw_sched.proofs.Lacking.{fresh_lacks}
use Rattle.cw_sched.proofs.Exceeding.{goes_not_over, stage_exceeds}
use Rattle.cw_sched.proofs.Turns.{counted, meant}
use Rattle.cw_sched.proofs.Doing.{scene_is, stolen_to, stolen_whole, offer_job, set_back}
use Rattle.cw_sched.proofs.world.World.begin_stolen.Goals as goal

pub stand-ended-requires-clause-even : goal.stand-ended-requires-clause-even
stand-ended-requires-clause-even c = ap length c.in-Ok.ensures.outs_are ∙ sym (ap length c.in-Ok.ensures.none)

pub turn-requires-clause-root : goal.turn-requires-clause-root
turn-requires-clause-root c =
    let v = arc_value c.args.self.now.code in
    let s = scene c.args.self.now in
    let o = c.steal-number.result in
    let job_is = offer_job v s c.args.v o c.requires.sound c.steal-number.ensures.oldest in
    let b = c.in-Ok.ensures in
    let p = posted c.in-Ok.post in
    let q = posted c.stand-ended.new.self in
    stolen_whole v s p q c.stand-ended.result o.number o.job c.requires.sound job_is b.numbered b.of c.stand-ended.ensures.comes

pub returns-in-Ok-clause-does : goal.returns-in-Ok-clause-does
returns-in-Ok-clause-does c =
    let v = arc_value c.args.self.now.code in
    let s = scene c.args.self.now in
    let o = c.steal-number.result in
    let job_is = offer_job v s c.args.v o c.requires.sound c.steal-number.ensures.oldest in
    let b = c.in-Ok.ensures in
    let p = posted c.in-Ok.post in
    let q = posted c.stand-ended.new.self in
    let x = c.turn.ensures.stage in
    record {
      there = c.requires.there;
      offer = o;
      oldest_is = c.steal-number.ensures.oldest;
      stage = x;
      post = p;
      begins = (b.numbered, b.of, b.outs_are);
      comes = stolen_to v s.jobs p q c.stand-ended.result x o.number o.job job_is b.numbered b.of b.outs_are b.none c.stand-ended.ensures.comes c.turn.ensures.begun;
      none = subst (Counts (its_job p.strand) x) b.count
          (counted v (its_job p.strand) q c.stand-ended.result x p.strand.count (meant c.stand-ended.result p q _ c.stand-ended.ensures.comes) c.turn.ensures.begun c.stand-ended.ensures.counts);
      over = λ over. goes_not_over p.strand.mode b.fresh (c.stand-ended.ensures.over (stage_exceeds v q c.stand-ended.result x c.turn.ensures.begun over));
      lacks = fresh_lacks v p.strand q c.stand-ended.result x b.fresh c.stand-ended.ensures.leaves c.turn.ensures.begun;
      is = scene_is s.jobs s.jobs (stacks c.turn.new.begun) (with_top s.begun c.args.w x) _ _ refl
          c.turn.ensures.is c.steal-number.ensures.stolen;
    }

pub returns-in-Err-clause-does : goal.returns-in-Err-clause-does
returns-in-Err-clause-does c =
    let s = scene c.args.self.now in
    let o = c.steal-number.result in
    let same : ◌≡◌ {A = Offer} (record { number = o.number; job = c.in-Err.job }) o = ap (λ (j : Job). record { number = o.number; job = j }) c.in-Err.ensures in
    scene_is s.jobs s.jobs _ s.begun _ s.board refl refl
    (c.unsteal.ensures
    ∙ (ap (λ (y : Boarded). returned y c.args.v (record { number = o.number; job = c.in-Err.job })) c.steal-number.ensures.stolen
    ∙ (ap (λ (y : Offer). returned (stolen s.board c.args.v) c.args.v y) same
    ∙ ap (λ (l : List (List Offer)). record { offers = l; cells = s.board.cells }) (set_back s.board.offers c.args.v o c.steal-number.ensures.oldest))))
