use Rattle.std.proofs.Common.{◌≡◌, ◌∙◌, ℕ, true, false, List, Some, refl, sym, ap}
use Rattle.std.specs.Arc.{arc_value}
use Rattle.cw_sched.specs.Scenes.{FrameView, Stage, Goes, posted, scene, stacks, jobs_of, top}
use Rattle.cw_strand.specs.Holds.{IsGoing}
use Rattle.cw_sched.specs.declared.event.Event.TheVariants as event
use Rattle.cw_sched.specs.declared.world.World.{World}
use Rattle.cw_sched.specs.Table.{is_at_join, is_possible}
use Rattle.cw_sched.specs.Worlds.{IsSound}
use Rattle.cw_sched.specs.Events.{with_top}
use Rattle.cw_sched.proofs.Strands.{is_even}
use Rattle.cw_sched.proofs.Turns.{ran, ran_whole}
use Rattle.cw_sched.proofs.Doing.{not_at_join, put_back, taken_works}
use Rattle.cw_sched.proofs.Wanting.{run_wants}
use Rattle.cw_sched.proofs.world.World.run.Goals as goal

pub step-requires-clause-running : goal.step-requires-clause-running
step-requires-clause-running c =
    let s = scene c.args.self.now in
    (taken_works (arc_value c.args.self.now.code) s c.args.w (posted c.take-post.result) c.requires.sound.right c.take-post.ensures.top).running

pub step-requires-clause-even : goal.step-requires-clause-even
step-requires-clause-even c =
    let s = scene c.args.self.now in
    let works = taken_works (arc_value c.args.self.now.code) s c.args.w (posted c.take-post.result) c.requires.sound.right c.take-post.ensures.top in
    is_even s.jobs c.take-post.result.outs.items _ works.lent

-- the strand goes on
ready : (self : World) (w : ℕ) (p : FrameView) → IsSound self → top (scene self) w ≡ Some (Goes p) → is_possible (scene self) (event.Run w) ≡ true → IsGoing p.strand
ready self w p sound at possible =
    let t = top (scene self) w in
    let works = taken_works (arc_value self.code) (scene self) w p sound.right at in
    let away : is_at_join t ≡ false = not_at_join t possible in
    works.stands.1 (sym (ap is_at_join at) ∙ away)

pub step-requires-clause-ready : goal.step-requires-clause-ready
step-requires-clause-ready c =
    let s = scene c.args.self.now in
    let p = posted c.take-post.result in
    let t = top s c.args.w in
    let works = taken_works (arc_value c.args.self.now.code) s c.args.w p c.requires.sound.right c.take-post.ensures.top in
    let away : is_at_join t ≡ false = not_at_join t c.requires.possible in
    (works.stands.1 (sym (ap is_at_join c.take-post.ensures.top) ∙ away), works.stands.2)

pub turn-requires-clause-root : goal.turn-requires-clause-root
turn-requires-clause-root c =
    ran_whole (arc_value c.args.self.now.code) (scene c.args.self.now) c.args.w (posted c.take-post.result) (posted c.step.new.self) c.in-Ok.ended (jobs_of c.step.new.jobs)
    c.requires.sound.right c.take-post.ensures.top c.in-Ok.ensures.does

pub returns-in-Ok-clause-does : goal.returns-in-Ok-clause-does
returns-in-Ok-clause-does c =
    ran (arc_value c.args.self.now.code) (scene c.args.self.now) c.args.w (posted c.take-post.result) (posted c.step.new.self) c.in-Ok.ended (jobs_of c.step.new.jobs) (stacks c.turn.new.begun) c.turn.ensures.stage
    c.requires.sound.right c.take-post.ensures.top c.in-Ok.ensures.does (ready c.args.self.now c.args.w (posted c.take-post.result) c.requires.sound c.take-post.ensures.top c.requires.possible)
    c.in-Ok.ensures.over c.in-Ok.ensures.lacks c.turn.ensures.begun
    (c.turn.ensures.is ∙ ap (λ (l : List (List Stage)). with_top l c.args.w c.turn.ensures.stage) c.take-post.ensures.left)

pub returns-in-Err-clause-does : goal.returns-in-Err-clause-does
returns-in-Err-clause-does c =
    let s = scene c.args.self.now in
    put_back s c.args.w (Goes (posted c.take-post.result)) (Goes (posted c.step.new.self)) (jobs_of c.step.new.jobs) (stacks c.take-post.new.begun) (stacks c.put.new.begun) s.board
    c.take-post.ensures.top c.take-post.ensures.left c.put.ensures (ap (λ (q : FrameView). Goes q) c.in-Err.ensures.does.0) c.in-Err.ensures.does.1 refl

pub returns-in-Err-clause-wants : goal.returns-in-Err-clause-wants
returns-in-Err-clause-wants c = run_wants c.args.self.now c.args.w c.take-post.result c.take-post.ensures.last c.in-Err.ensures.full
