use Rattle.std.proofs.Common.{sym, subst, length}
use Rattle.std.specs.Arc.{arc_value}
use Rattle.cw_sched.specs.core.Board.{oldest, of_worker}
use Rattle.cw_sched.specs.Scenes.{Scene, scene, stages}
use Rattle.cw_sched.proofs.Doing.{is_there, there_in, oldest_some}
use Rattle.std.proofs.Common.{◌<◌}
use Rattle.cw_sched.specs.declared.event.Event.TheVariants as event
use Rattle.cw_sched.specs.Sound.{Sound}
use Rattle.cw_sched.specs.Events.{DoesOr}
use Rattle.cw_sched.proofs.Rooms.{steal_room, steal_there, steal_some}
use Rattle.cw_sched.proofs.world.World.steal.Goals as goal

pub room-requires : goal.room-requires
room-requires c =
    let s = scene c.args.self.now in
    is_there stages c.args.self.now.begun.items c.args.w (steal_there s c.args.w c.args.v c.requires.possible)

pub begin_stolen-requires-clause-sound : goal.begin_stolen-requires-clause-sound
begin_stolen-requires-clause-sound c =
    subst (λ (t : Scene). Sound (arc_value c.args.self.now.code) t) (sym (steal_room c.args.self.now c.room.new.begun c.room.ensures.same)) c.requires.sound.right

pub begin_stolen-requires-clause-there : goal.begin_stolen-requires-clause-there
begin_stolen-requires-clause-there c =
    let s = scene c.args.self.now in
    subst (λ (t : Scene). c.args.w < length t.begun) (sym (steal_room c.args.self.now c.room.new.begun c.room.ensures.same))
    (there_in s.begun c.args.w (steal_there s c.args.w c.args.v c.requires.possible))

pub begin_stolen-requires-clause-some : goal.begin_stolen-requires-clause-some
begin_stolen-requires-clause-some c =
    let s = scene c.args.self.now in
    oldest_some (oldest (of_worker s.board.offers c.args.v)) (steal_some s c.args.w c.args.v c.requires.possible)

pub returns-in-Ok-clause-does : goal.returns-in-Ok-clause-does
returns-in-Ok-clause-does c =
    subst (λ (t : Scene). DoesOr (arc_value c.args.self.now.code) (event.Steal c.args.w c.args.v) c.begin_stolen.result t (scene c.begin_stolen.new.self))
    (steal_room c.args.self.now c.room.new.begun c.room.ensures.same) c.begin_stolen.ensures.does

pub returns-in-Err-clause-does : goal.returns-in-Err-clause-does
returns-in-Err-clause-does c = steal_room c.args.self.now c.room.new.begun c.room.ensures.same
