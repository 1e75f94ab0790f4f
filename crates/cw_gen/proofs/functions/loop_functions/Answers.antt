use Rattle.std.proofs.Common.{◌≡◌, ◌+◌, ◌∷◌, length, map, drop, refl, subst, arith, rules}
use Rattle.std.proofs.lemmas.Grind.{common_steps}
use Rattle.cw_loops.specs.Small.{AreSmallLoops}
use Rattle.cw_loops.specs.View.{loop_of}
use Rattle.cw_gen.proofs.Joins.{instrs_next, funcs_next}
use Rattle.cw_gen.proofs.functions.loop_functions.Goals as goal

pub loop-l-preserved : goal.loop-l-preserved
loop-l-preserved c =
    let at = c.loop-l.at in
    let i = c.loop-l.l-index in
    let l = loop_of c.l-item.result in
    let left = map loop_of (drop i c.args.loops.now) in
    let rest = map loop_of (drop (i + 1) c.args.loops.now) in
    let now = c.loop-l.instrs.items in
    let new = c.loop_function.new.instrs.items in
    let split : left ≡ l ∷ rest = grind (arith, common_steps) in
    let start : c.len-start.result ≡ length now = search (rules, c.len-start.ensures) in
    let end : c.len.result ≡ length new = search (rules, c.len.ensures) in
    record {
      at = omega (arith, c.loop-l.invariant.at);
      small = (subst AreSmallLoops split c.loop-l.invariant.small).1;
      instrs = instrs_next c.args.first at (at + 1) l rest left now new _ refl split c.in_ok-loop_function.ensures c.loop-l.invariant.instrs;
      funcs =
          funcs_next c.args.first at (at + 1) c.len-start.result c.len.result l rest left now new c.loop_func.result c.loop-l.funcs.items c.push.new.self.items _ refl split c.in_ok-loop_function.ensures
          start end c.loop_func.ensures c.in_ok-push.ensures.items c.loop-l.invariant.funcs;
    }
