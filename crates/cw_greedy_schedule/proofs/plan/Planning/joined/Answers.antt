use Rattle.std.proofs.Common.{arith, subst}
use Rattle.cw_greedy_schedule.proofs.Plans.{Left, joins_step, joins_some}
use Rattle.cw_greedy_schedule.proofs.plan.Planning.joined.Goals as goal

pub returns-then-top-clause-joined : goal.returns-then-top-clause-joined
returns-then-top-clause-joined c =
    λ end h. subst (λ b. Left b end c.join_last.new.self) c.if-top.true
    (joins_step end c.loop-top.self c.join_last.new.self c.pop.new.self.items c.in-Some.top (c.loop-top.invariant.goes end h) c.in-Some.ensures.items
    c.in_ok-join_last.ensures.strands c.in_ok-join_last.ensures.last c.in_ok-join_last.ensures.spawns)

pub loop-top-preserved : goal.loop-top-preserved
loop-top-preserved c = record {
  some = (
    c.loop-top.invariant.some.0,
    subst (λ b. Left b c.loop-top.invariant.some.0 c.join_last.new.self) c.if-top.false
        (joins_step c.loop-top.invariant.some.0 c.loop-top.self c.join_last.new.self c.pop.new.self.items c.in-Some.top c.loop-top.invariant.some.1 c.in-Some.ensures.items
        c.in_ok-join_last.ensures.strands c.in_ok-join_last.ensures.last c.in_ok-join_last.ensures.spawns),
  );
  goes = λ end h. subst (λ b. Left b end c.join_last.new.self) c.if-top.false
      (joins_step end c.loop-top.self c.join_last.new.self c.pop.new.self.items c.in-Some.top (c.loop-top.invariant.goes end h) c.in-Some.ensures.items
      c.in_ok-join_last.ensures.strands c.in_ok-join_last.ensures.last c.in_ok-join_last.ensures.spawns);
}

pub returns-clause-joined : goal.returns-clause-joined
returns-clause-joined c =
    λ end h. absurd (joins_some end c.loop-top.self (c.loop-top.invariant.goes end h) (omega (arith, c.in_default.ensures.cases.0, c.loop-top.self.spawns.ok.0)))

pub returns-clause-weight : goal.returns-clause-weight
returns-clause-weight c =
    absurd (joins_some c.loop-top.invariant.some.0 c.loop-top.self c.loop-top.invariant.some.1 (omega (arith, c.in_default.ensures.cases.0, c.loop-top.self.spawns.ok.0)))
