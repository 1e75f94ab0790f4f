use Rattle.std.proofs.Common.{arith, subst, ◌∙◌}
use Rattle.cw_greedy_schedule.proofs.Weighing.{Left, joins_step, joins_some}
use Rattle.cw_greedy_schedule.proofs.weights.Ways.joined.Goals as goal

pub returns-then-top-clause-joined : goal.returns-then-top-clause-joined
returns-then-top-clause-joined c =
    λ end h. subst (λ b. Left c.args.burden b end c.join_last.new.self) c.if-top.true
    (joins_step c.args.burden end c.loop-top.self c.join_last.new.self c.pop.new.self.items c.in-Some.top (c.loop-top.invariant.goes end h) c.in-Some.ensures.items
    c.join_last.ensures.path c.join_last.ensures.spawns)

pub loop-top-preserved : goal.loop-top-preserved
loop-top-preserved c = record {
  work = c.join_last.ensures.work ∙ c.loop-top.invariant.work;
  goes = λ end h. subst (λ b. Left c.args.burden b end c.join_last.new.self) c.if-top.false
      (joins_step c.args.burden end c.loop-top.self c.join_last.new.self c.pop.new.self.items c.in-Some.top (c.loop-top.invariant.goes end h) c.in-Some.ensures.items
      c.join_last.ensures.path c.join_last.ensures.spawns);
}

pub returns-clause-joined : goal.returns-clause-joined
returns-clause-joined c =
    λ end h. absurd (joins_some c.args.burden end c.loop-top.self (c.loop-top.invariant.goes end h) (omega (arith, c.in_default.ensures.cases.0, c.loop-top.self.spawns.ok.0)))
