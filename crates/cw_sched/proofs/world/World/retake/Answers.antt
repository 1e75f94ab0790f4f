use Rattle.std.proofs.Common.{◌≡◌, refl}
use Rattle.std.specs.Arc.{arc_value}
use Rattle.cw_facts.specs.Tests.{first_true, second_true}
use Rattle.cw_strand.specs.Holds.{its_job}
use Rattle.cw_sched.specs.Boards.{boarded}
use Rattle.cw_sched.specs.Scenes.{posted, scene, stacks, top}
use Rattle.cw_sched.specs.Table as table
use Rattle.cw_sched.specs.Events.{board_without, IsBack}
use Rattle.cw_sched.proofs.Lacking.{back_lacks}
use Rattle.cw_sched.proofs.Exceeding.{stage_exceeds}
use Rattle.cw_sched.proofs.Turns.{came_back, counted, meant, back_whole}
use Rattle.cw_sched.proofs.Doing.{turned_scene, taken_works, at_sync, lacks_back, comes_of, at_back, popped, popped_are, retake_out, join_goes, some_of, if_some, retake_some}
use Rattle.cw_sched.proofs.world.World.retake.Goals as goal

pub take-post-requires : goal.take-post-requires
take-post-requires c = join_goes (top (scene c.args.self.now) c.args.w) (first_true (table.is_at_join (top (scene c.args.self.now) c.args.w)) _ c.requires.possible)

pub unrun-rest-requires : goal.unrun-rest-requires
unrun-rest-requires c =
    let v = arc_value c.args.self.now.code in
    let s = scene c.args.self.now in
    let p = posted c.take-post.result in
    let works = taken_works v s c.args.w p c.requires.sound.right c.take-post.ensures.top in
    let latest = c.pop-latest.result in
    let same = popped c.take-post.result.outs c.pop-latest.new.self latest c.pop-latest.ensures.items c.pop-latest.ensures.cases in
    retake_out s.board c.args.w p (top s c.args.w) latest c.take-post.ensures.top same (second_true (table.is_at_join (top s c.args.w)) _ c.requires.possible)

pub take_in-ended-requires-clause-at_sync : goal.take_in-ended-requires-clause-at_sync
take_in-ended-requires-clause-at_sync c =
    let v = arc_value c.args.self.now.code in
    let s = scene c.args.self.now in
    let p = posted c.take-post.result in
    let works = taken_works v s c.args.w p c.requires.sound.right c.take-post.ensures.top in
    let latest = c.pop-latest.result in
    let same = popped c.take-post.result.outs c.pop-latest.new.self latest c.pop-latest.ensures.items c.pop-latest.ensures.cases in
    at_sync s.jobs p (top s c.args.w) works c.take-post.ensures.top (first_true (table.is_at_join (top s c.args.w)) _ c.requires.possible)

pub take_in-ended-requires-clause-lacks : goal.take_in-ended-requires-clause-lacks
take_in-ended-requires-clause-lacks c =
    let v = arc_value c.args.self.now.code in
    let s = scene c.args.self.now in
    let p = posted c.take-post.result in
    let works = taken_works v s c.args.w p c.requires.sound.right c.take-post.ensures.top in
    let latest = c.pop-latest.result in
    let same = popped c.take-post.result.outs c.pop-latest.new.self latest c.pop-latest.ensures.items c.pop-latest.ensures.cases in
    let some = some_of latest c.unrun-rest.ensures.some in
    let o = some.value in
    let older = c.pop-latest.new.self.items in
    let are = popped_are c.take-post.result.outs c.pop-latest.new.self latest o c.pop-latest.ensures.items some.is in
    let back = if_some (λ x. IsBack s.board c.args.w x c.unrun-rest.result) latest o some.is c.unrun-rest.ensures.job in
    let l = lacks_back v s c.args.w p older o c.unrun-rest.result c.requires.sound.right works are back in
    record { others = l.others; are = l.are; even = l.even }

pub turn-requires-clause-root : goal.turn-requires-clause-root
turn-requires-clause-root c =
    let v = arc_value c.args.self.now.code in
    let s = scene c.args.self.now in
    let p = posted c.take-post.result in
    let works = taken_works v s c.args.w p c.requires.sound.right c.take-post.ensures.top in
    let latest = c.pop-latest.result in
    let same = popped c.take-post.result.outs c.pop-latest.new.self latest c.pop-latest.ensures.items c.pop-latest.ensures.cases in
    let some = some_of latest c.unrun-rest.ensures.some in
    let o = some.value in
    let older = c.pop-latest.new.self.items in
    let are = popped_are c.take-post.result.outs c.pop-latest.new.self latest o c.pop-latest.ensures.items some.is in
    let back = if_some (λ x. IsBack s.board c.args.w x c.unrun-rest.result) latest o some.is c.unrun-rest.ensures.job in
    back_whole v s.jobs p (posted c.take_in-ended.new.self) older o p.at_join c.take_in-ended.result c.requires.sound.right.root works are
    (comes_of v s c.args.w p (posted c.take_in-ended.new.self) older o c.unrun-rest.result c.take_in-ended.result c.requires.sound.right works are back c.take_in-ended.ensures.comes)

pub returns-clause-does : goal.returns-clause-does
returns-clause-does c =
    let v = arc_value c.args.self.now.code in
    let s = scene c.args.self.now in
    let p = posted c.take-post.result in
    let works = taken_works v s c.args.w p c.requires.sound.right c.take-post.ensures.top in
    let latest = c.pop-latest.result in
    let same = popped c.take-post.result.outs c.pop-latest.new.self latest c.pop-latest.ensures.items c.pop-latest.ensures.cases in
    let some = some_of latest c.unrun-rest.ensures.some in
    let o = some.value in
    let older = c.pop-latest.new.self.items in
    let are = popped_are c.take-post.result.outs c.pop-latest.new.self latest o c.pop-latest.ensures.items some.is in
    let back = if_some (λ x. IsBack s.board c.args.w x c.unrun-rest.result) latest o some.is c.unrun-rest.ensures.job in
    let x = c.turn.ensures.stage in
    let l = lacks_back v s c.args.w p older o c.unrun-rest.result c.requires.sound.right works are back in
    record {
      at = record { at = record { post = p; is = c.take-post.ensures.top }; older = older; newest = o; are = are };
      back = at_back s.board c.args.w o (retake_some s.board c.args.w p (top s c.args.w) latest o c.take-post.ensures.top same some.is (second_true (table.is_at_join (top s c.args.w)) _ c.requires.possible));
      stage = x;
      comes = came_back v s.jobs p (posted c.take_in-ended.new.self) older o p.at_join c.take_in-ended.result x works are
          (comes_of v s c.args.w p (posted c.take_in-ended.new.self) older o c.unrun-rest.result c.take_in-ended.result c.requires.sound.right works are back c.take_in-ended.ensures.comes) c.turn.ensures.begun;
      none = counted v (its_job p.strand) (posted c.take_in-ended.new.self) c.take_in-ended.result x p.strand.count
          (meant c.take_in-ended.result (record { number = p.number; strand = p.strand; at_join = p.at_join; outs = older }) (posted c.take_in-ended.new.self) l.others
          (c.take_in-ended.ensures.comes l.others l.are)) c.turn.ensures.begun c.take_in-ended.ensures.counts;
      over = λ over. c.take_in-ended.ensures.over (stage_exceeds v (posted c.take_in-ended.new.self) c.take_in-ended.result x c.turn.ensures.begun over);
      lacks = back_lacks v p.strand (posted c.take_in-ended.new.self) c.take_in-ended.result x c.turn.ensures.begun c.take_in-ended.ensures.lacks;
      is = turned_scene s c.args.w x x (stacks c.take-post.new.begun) (stacks c.turn.new.begun) _ _ c.take-post.ensures.left c.turn.ensures.is refl
          (if_some (λ y. boarded c.unrun-rest.new.board ≡ board_without s.board c.args.w y) latest o some.is c.unrun-rest.ensures.board);
    }
