use Rattle.std.proofs.Common.{◌≡◌, ◌∙◌, ◌++◌, List, [], ◌∷◌, refl, sym, ap}
use Rattle.std.specs.Arc.{arc_value}
use Rattle.cw_sched.specs.declared.post.Out.{Out}
use Rattle.cw_sched.specs.declared.post.Out.TheVariants as out
use Rattle.cw_sched.specs.Scenes.{Goes, posted, scene, stacks, top}
use Rattle.cw_sched.specs.Events.{with_outs}
use Rattle.cw_sched.proofs.Doing.{turned_scene, put_back, taken_works, popped, popped_are, popped_room, spawn_out, spawn_goes, offer_there, offer_long}
use Rattle.cw_sched.proofs.world.World.offer.Goals as goal

pub take-post-requires : goal.take-post-requires
take-post-requires c = spawn_goes (top (scene c.args.self.now) c.args.w) c.requires.possible

pub undecided-number-requires : goal.undecided-number-requires
undecided-number-requires c =
    let v = arc_value c.args.self.now.code in
    let s = scene c.args.self.now in
    let p = posted c.take-post.result in
    let works = taken_works v s c.args.w p c.requires.sound.right c.take-post.ensures.top in
    let latest = c.pop-latest.result in
    let same = popped c.take-post.result.outs c.pop-latest.new.self latest c.pop-latest.ensures.items c.pop-latest.ensures.cases in
    spawn_out p (top s c.args.w) latest c.take-post.ensures.top same c.requires.possible

pub offer-requires : goal.offer-requires
offer-requires c =
    let lt = offer_there (arc_value c.args.self.now.code) (scene c.args.self.now) c.args.w (posted c.take-post.result) c.requires.sound.right c.take-post.ensures.top in
    record { worker = offer_long c.args.w (λ q. q.items) c.args.self.now.board.lists.items lt }

pub push_reserved-requires : goal.push_reserved-requires
push_reserved-requires c =
    popped_room c.take-post.result.outs c.pop-latest.new.self c.pop-latest.result _ c.undecided-number.ensures c.pop-latest.ensures.cases c.pop-latest.ensures.capacity

pub push_reserved-requires-in-Err : goal.push_reserved-requires-in-Err
push_reserved-requires-in-Err c =
    popped_room c.take-post.result.outs c.pop-latest.new.self c.pop-latest.result _ c.undecided-number.ensures c.pop-latest.ensures.cases c.pop-latest.ensures.capacity

pub returns-in-Ok-clause-does : goal.returns-in-Ok-clause-does
returns-in-Ok-clause-does c =
    let v = arc_value c.args.self.now.code in
    let s = scene c.args.self.now in
    let p = posted c.take-post.result in
    let works = taken_works v s c.args.w p c.requires.sound.right c.take-post.ensures.top in
    let latest = c.pop-latest.result in
    let same = popped c.take-post.result.outs c.pop-latest.new.self latest c.pop-latest.ensures.items c.pop-latest.ensures.cases in
    let n = c.undecided-number.result.0 in
    let j = c.undecided-number.result.1 in
    let are = popped_are c.take-post.result.outs c.pop-latest.new.self latest (out.Undecided n j) c.pop-latest.ensures.items c.undecided-number.ensures in
    record {
      at = record { at = record { post = p; is = c.take-post.ensures.top }; older = c.pop-latest.new.self.items; newest = out.Undecided n j; are = are };
      number = n;
      job = j;
      newest = refl;
      is = turned_scene s c.args.w (with_outs p (c.pop-latest.new.self.items ++ out.Offered n ∷ [])) (with_outs p c.push_reserved.new.self.items) (stacks c.take-post.new.begun) (stacks c.put.new.begun) _ _
          c.take-post.ensures.left c.put.ensures (ap (λ (l : List Out). with_outs p l) c.push_reserved.ensures.items) c.in-Ok.ensures.offered;
    }

pub returns-in-Err-clause-does : goal.returns-in-Err-clause-does
returns-in-Err-clause-does c =
    let v = arc_value c.args.self.now.code in
    let s = scene c.args.self.now in
    let p = posted c.take-post.result in
    let works = taken_works v s c.args.w p c.requires.sound.right c.take-post.ensures.top in
    let latest = c.pop-latest.result in
    let same = popped c.take-post.result.outs c.pop-latest.new.self latest c.pop-latest.ensures.items c.pop-latest.ensures.cases in
    let n = c.undecided-number.result.0 in
    let j = c.undecided-number.result.1 in
    let are = popped_are c.take-post.result.outs c.pop-latest.new.self latest (out.Undecided n j) c.pop-latest.ensures.items c.undecided-number.ensures in
    let back : out.Undecided n c.in-Err.job ≡ out.Undecided n j = ap (λ k. out.Undecided n k) c.in-Err.ensures.back in
    put_back s c.args.w (Goes p) (with_outs p c.push_reserved-in-Err.new.self.items) s.jobs (stacks c.take-post.new.begun) (stacks c.put-in-Err.new.begun) _
    c.take-post.ensures.top c.take-post.ensures.left c.put-in-Err.ensures
    (ap (λ (l : List Out). with_outs p l) (c.push_reserved-in-Err.ensures.items ∙ (ap (λ o. c.pop-latest.new.self.items ++ o ∷ []) back ∙ sym are))) refl c.in-Err.ensures.same
