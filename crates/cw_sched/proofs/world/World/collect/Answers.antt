use Rattle.std.proofs.Common.{refl}
use Rattle.std.specs.Arc.{arc_value}
use Rattle.cw_facts.specs.Tests.{first_true, second_true}
use Rattle.cw_sched.specs.declared.post.Out.TheVariants as out
use Rattle.cw_strand.specs.Holds.{its_job}
use Rattle.cw_sched.specs.Scenes.{posted, scene, stacks, top}
use Rattle.cw_sched.specs.Table as table
use Rattle.cw_sched.proofs.Lacking.{stage_lacks}
use Rattle.cw_sched.proofs.Exceeding.{stage_exceeds}
use Rattle.cw_sched.proofs.Turns.{came_back, counted_with, meant, back_whole}
use Rattle.cw_sched.proofs.Doing.{turned_scene, taken_works, at_sync, gives, popped, popped_are, settled_out, join_goes}
use Rattle.cw_sched.proofs.world.World.collect.Goals as goal

pub take-post-requires : goal.take-post-requires
take-post-requires c = join_goes (top (scene c.args.self.now) c.args.w) (first_true (table.is_at_join (top (scene c.args.self.now) c.args.w)) _ c.requires.possible)

pub settled-number-requires : goal.settled-number-requires
settled-number-requires c =
    let v = arc_value c.args.self.now.code in
    let s = scene c.args.self.now in
    let p = posted c.take-post.result in
    let works = taken_works v s c.args.w p c.requires.sound.right c.take-post.ensures.top in
    let latest = c.pop-latest.result in
    let same = popped c.take-post.result.outs c.pop-latest.new.self latest c.pop-latest.ensures.items c.pop-latest.ensures.cases in
    settled_out s.board p (top s c.args.w) latest c.take-post.ensures.top same (second_true (table.is_at_join (top s c.args.w)) _ c.requires.possible)

pub give-ended-requires-clause-at_sync : goal.give-ended-requires-clause-at_sync
give-ended-requires-clause-at_sync c =
    let v = arc_value c.args.self.now.code in
    let s = scene c.args.self.now in
    let p = posted c.take-post.result in
    let works = taken_works v s c.args.w p c.requires.sound.right c.take-post.ensures.top in
    let latest = c.pop-latest.result in
    let same = popped c.take-post.result.outs c.pop-latest.new.self latest c.pop-latest.ensures.items c.pop-latest.ensures.cases in
    at_sync s.jobs p (top s c.args.w) works c.take-post.ensures.top (first_true (table.is_at_join (top s c.args.w)) _ c.requires.possible)

pub give-ended-requires-clause-lacks : goal.give-ended-requires-clause-lacks
give-ended-requires-clause-lacks c =
    let v = arc_value c.args.self.now.code in
    let s = scene c.args.self.now in
    let p = posted c.take-post.result in
    let works = taken_works v s c.args.w p c.requires.sound.right c.take-post.ensures.top in
    let latest = c.pop-latest.result in
    let same = popped c.take-post.result.outs c.pop-latest.new.self latest c.pop-latest.ensures.items c.pop-latest.ensures.cases in
    let n = c.settled-number.result.0 in
    let older = c.pop-latest.new.self.items in
    let are = popped_are c.take-post.result.outs c.pop-latest.new.self latest (out.Offered n) c.pop-latest.ensures.items c.settled-number.ensures.number in
    let g = gives v s p older n c.settled-number.result.1 c.collect-effect.result c.requires.sound.right works are c.collect-effect.ensures.cell in
    (g.out, record { others = g.others; are = g.are; even = g.even })

pub give-ended-requires-clause-given : goal.give-ended-requires-clause-given
give-ended-requires-clause-given c =
    let v = arc_value c.args.self.now.code in
    let s = scene c.args.self.now in
    let p = posted c.take-post.result in
    let works = taken_works v s c.args.w p c.requires.sound.right c.take-post.ensures.top in
    let latest = c.pop-latest.result in
    let same = popped c.take-post.result.outs c.pop-latest.new.self latest c.pop-latest.ensures.items c.pop-latest.ensures.cases in
    let n = c.settled-number.result.0 in
    let older = c.pop-latest.new.self.items in
    let are = popped_are c.take-post.result.outs c.pop-latest.new.self latest (out.Offered n) c.pop-latest.ensures.items c.settled-number.ensures.number in
    let g = gives v s p older n c.settled-number.result.1 c.collect-effect.result c.requires.sound.right works are c.collect-effect.ensures.cell in
    record { out = g.out; others = g.others; are = g.are; means = g.means }

pub turn-requires-clause-root : goal.turn-requires-clause-root
turn-requires-clause-root c =
    let v = arc_value c.args.self.now.code in
    let s = scene c.args.self.now in
    let p = posted c.take-post.result in
    let works = taken_works v s c.args.w p c.requires.sound.right c.take-post.ensures.top in
    let latest = c.pop-latest.result in
    let same = popped c.take-post.result.outs c.pop-latest.new.self latest c.pop-latest.ensures.items c.pop-latest.ensures.cases in
    let n = c.settled-number.result.0 in
    let older = c.pop-latest.new.self.items in
    let are = popped_are c.take-post.result.outs c.pop-latest.new.self latest (out.Offered n) c.pop-latest.ensures.items c.settled-number.ensures.number in
    let g = gives v s p older n c.settled-number.result.1 c.collect-effect.result c.requires.sound.right works are c.collect-effect.ensures.cell in
    back_whole v s.jobs p (posted c.give-ended.new.self) older (out.Offered n) p.at_join c.give-ended.result c.requires.sound.right.root works are (λ job others is _. c.give-ended.ensures.comes job others is)

pub returns-clause-does : goal.returns-clause-does
returns-clause-does c =
    let v = arc_value c.args.self.now.code in
    let s = scene c.args.self.now in
    let p = posted c.take-post.result in
    let works = taken_works v s c.args.w p c.requires.sound.right c.take-post.ensures.top in
    let latest = c.pop-latest.result in
    let same = popped c.take-post.result.outs c.pop-latest.new.self latest c.pop-latest.ensures.items c.pop-latest.ensures.cases in
    let n = c.settled-number.result.0 in
    let older = c.pop-latest.new.self.items in
    let are = popped_are c.take-post.result.outs c.pop-latest.new.self latest (out.Offered n) c.pop-latest.ensures.items c.settled-number.ensures.number in
    let g = gives v s p older n c.settled-number.result.1 c.collect-effect.result c.requires.sound.right works are c.collect-effect.ensures.cell in
    let x = c.turn.ensures.stage in
    record {
      at = record { at = record { post = p; is = c.take-post.ensures.top }; older = older; newest = out.Offered n; are = are };
      number = n;
      newest = refl;
      place = c.settled-number.result.1;
      waits = c.settled-number.ensures.place;
      effect = c.collect-effect.result;
      cell = c.collect-effect.ensures.cell;
      stage = x;
      comes = came_back v s.jobs p (posted c.give-ended.new.self) older (out.Offered n) p.at_join c.give-ended.result x works are (λ job others is _. c.give-ended.ensures.comes job others is) c.turn.ensures.begun;
      counts = counted_with v (its_job p.strand) (posted c.give-ended.new.self) c.give-ended.result x c.collect-effect.result p.strand
          (meant c.give-ended.result (record { number = p.number; strand = p.strand; at_join = p.at_join; outs = older }) (posted c.give-ended.new.self) g.others
          (c.give-ended.ensures.comes g.out g.others g.are)) c.turn.ensures.begun c.give-ended.ensures.counts;
      over = λ over. c.give-ended.ensures.over (stage_exceeds v (posted c.give-ended.new.self) c.give-ended.result x c.turn.ensures.begun over);
      lacks = λ l. c.give-ended.ensures.lacks (stage_lacks v (posted c.give-ended.new.self) c.give-ended.result x c.turn.ensures.begun l);
      is = turned_scene s c.args.w x x (stacks c.take-post.new.begun) (stacks c.turn.new.begun) _ _ c.take-post.ensures.left c.turn.ensures.is refl c.collect-effect.ensures.collected;
    }
