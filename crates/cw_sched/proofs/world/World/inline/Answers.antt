use Rattle.std.proofs.Common.{◌++◌, List, [], ◌∷◌, refl, ap}
use Rattle.std.specs.Arc.{arc_value}
use Rattle.cw_sched.specs.declared.post.Out.{Out}
use Rattle.cw_sched.specs.declared.post.Out.TheVariants as out
use Rattle.cw_sched.specs.Scenes.{posted, scene, stacks, top}
use Rattle.cw_sched.specs.Events.{with_outs}
use Rattle.cw_sched.proofs.Doing.{turned_scene, taken_works, popped, popped_are, popped_room, spawn_out, spawn_goes}
use Rattle.cw_sched.proofs.world.World.inline.Goals as goal

pub take-post-requires : goal.take-post-requires
take-post-requires c = spawn_goes (top (scene c.args.self.now) c.args.w) c.requires.possible

pub undecided-number-requires : goal.undecided-number-requires
undecided-number-requires c =
    let v = arc_value c.args.self.now.code in
    let s = scene c.args.self.now in
    let p = posted c.take-post.result in
    let works = taken_works v s c.args.w p c.requires.sound.right c.take-post.ensures.top in
    let latest = c.pop-latest.result in
    let same = popped c.take-post.result.outs c.pop-latest.new.self latest c.pop-latest.ensures.items c.pop-latest.ensures.cases in
    spawn_out p (top s c.args.w) latest c.take-post.ensures.top same c.requires.possible

pub push_reserved-requires : goal.push_reserved-requires
push_reserved-requires c =
    popped_room c.take-post.result.outs c.pop-latest.new.self c.pop-latest.result _ c.undecided-number.ensures c.pop-latest.ensures.cases c.pop-latest.ensures.capacity

pub returns-clause-does : goal.returns-clause-does
returns-clause-does c =
    let v = arc_value c.args.self.now.code in
    let s = scene c.args.self.now in
    let p = posted c.take-post.result in
    let works = taken_works v s c.args.w p c.requires.sound.right c.take-post.ensures.top in
    let latest = c.pop-latest.result in
    let same = popped c.take-post.result.outs c.pop-latest.new.self latest c.pop-latest.ensures.items c.pop-latest.ensures.cases in
    let n = c.undecided-number.result.0 in
    let j = c.undecided-number.result.1 in
    let are = popped_are c.take-post.result.outs c.pop-latest.new.self latest (out.Undecided n j) c.pop-latest.ensures.items c.undecided-number.ensures in
    record {
      at = record { at = record { post = p; is = c.take-post.ensures.top }; older = c.pop-latest.new.self.items; newest = out.Undecided n j; are = are };
      number = n;
      job = j;
      newest = refl;
      is = turned_scene s c.args.w (with_outs p (c.pop-latest.new.self.items ++ out.Kept n j ∷ [])) (with_outs p c.push_reserved.new.self.items) (stacks c.take-post.new.begun) (stacks c.put.new.begun) s.board s.board
          c.take-post.ensures.left c.put.ensures (ap (λ (l : List Out). with_outs p l) c.push_reserved.ensures.items) refl;
    }
