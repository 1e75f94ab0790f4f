use Rattle.std.proofs.Common.{◌≡◌, ◌+◌, ◌∷◌, drop, map, refl, subst, arith}
use Rattle.std.proofs.lemmas.Grind.{common_steps}
use Rattle.cw_loops.specs.Small.{AreSmallLoops}
use Rattle.cw_loops.specs.View.{loop_of}
use Rattle.cw_gen.proofs.Joins.{lists_next}
use Rattle.cw_gen.proofs.lists.lists_of_loops.Goals as goal

pub loop-l-preserved : goal.loop-l-preserved
loop-l-preserved c =
    let at = c.loop-l.at in
    let i = c.loop-l.l-index in
    let l = loop_of c.l-item.result in
    let left = map loop_of (drop i c.args.loops.now) in
    let rest = map loop_of (drop (i + 1) c.args.loops.now) in
    let now = map (λ slots. slots.items) c.loop-l.lists.items in
    let new = map (λ slots. slots.items) c.lists_of_loop.new.lists.items in
    let split : left ≡ l ∷ rest = grind (arith, common_steps) in
    record {
      at = omega (arith, c.loop-l.invariant.at);
      small = (subst AreSmallLoops split c.loop-l.invariant.small).1;
      lists = lists_next c.args.first at (at + 1) l rest left now new _ refl split c.in_ok-lists_of_loop.ensures c.loop-l.invariant.lists;
    }
