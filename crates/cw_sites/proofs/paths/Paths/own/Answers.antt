use Rattle.std.proofs.Common.{length, arith}
use Rattle.cw_sites.proofs.StepSumLaws.{own_next}
use Rattle.cw_sites.proofs.paths.Paths.own.Goals as goal

pub loop-i-preserved : goal.loop-i-preserved
loop-i-preserved c = λ fl small. own_next c.args.site c.args.self.now.steps.items c.args.self.now.start c.loop-i.i (length c.args.self.now.steps.items) c.index-steps.result.now c.loop-i.sum c.with_steps-sum.result (omega arith) (omega arith) (omega arith) c.index-steps.ensures (c.loop-i.invariant fl small) small c.with_steps-sum.ensures
