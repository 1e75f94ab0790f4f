use Rattle.std.proofs.Common.{◌∙◌, sym, subst, arith}
use Rattle.cw_machine.specs.Padded.{IsNone, HasReached}
use Rattle.cw_machine.proofs.Padding.{left_is, lent_is, reached_more}
use Rattle.cw_machine.proofs.array_blocks.reach.Goals as goal

pub loop-made-preserved : goal.loop-made-preserved
loop-made-preserved c =
    let inv = c.loop-made.invariant in
    let is : IsNone c.loop-made.none = subst IsNone (sym inv.same) c.requires in
    let same = left_is c.loop-made.none c.lend.new.self is c.lend.ensures.cells c.lend.ensures.rights c.lend.ensures.spot in
    let one = lent_is c.loop-made.none c.lend.result c.of.result is c.lend.ensures.count c.lend.ensures.place c.of.ensures.cells c.of.ensures.spot c.of.ensures.whole in
    record {
      more = subst (HasReached c.args.none.now c.args.made.now.items c.args.index) (sym c.in_ok-push.ensures.items)
          (reached_more c.args.none.now c.args.made.now.items c.args.index c.loop-made.made.items c.of.result inv.more
          (omega (arith, c.loop-made-test.true, c.len.ensures, c.loop-made.made.ok.0)) (one ∙ inv.same));
      same = same ∙ inv.same;
    }
