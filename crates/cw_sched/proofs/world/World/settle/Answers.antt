use Rattle.std.proofs.Common.{◌∙◌, refl, ap}
use Rattle.cw_sched.specs.Boards.{Boarded, settled}
use Rattle.cw_sched.specs.Scenes.{scene, stacks}
use Rattle.cw_sched.specs.Events.{but_top}
use Rattle.cw_sched.proofs.Doing.{scene_is}
use Rattle.cw_sched.proofs.world.World.settle.Goals as goal

pub returns-in-Ok-clause-does : goal.returns-in-Ok-clause-does
returns-in-Ok-clause-does c =
    let s = scene c.args.self.now in
    record {
      number = c.take_made-number.result.0;
      effect = c.take_made-number.result.1;
      made = c.take_made-number.ensures.top;
      is = scene_is s.jobs s.jobs (stacks c.take_made-number.new.begun) (but_top s.begun c.args.w) _ _ refl c.take_made-number.ensures.left
          (c.settle.ensures ∙ ap (λ (b : Boarded). settled b (record { number = c.take_made-number.result.0; effect = c.take_made-number.result.1 })) c.room_to_settle.ensures.same);
    }

pub returns-in-Err-clause-does : goal.returns-in-Err-clause-does
returns-in-Err-clause-does c =
    let s = scene c.args.self.now in
    scene_is s.jobs s.jobs s.begun s.begun _ s.board refl refl c.room_to_settle.ensures.same
