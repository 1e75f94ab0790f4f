use Rattle.std.proofs.Common.{arith}
use Rattle.cw_sites.proofs.CompactingLaws.{one_merged, one_put}
use Rattle.cw_sites.proofs.compacting.gather_one.Goals as goal

pub returns-then-at-to : goal.returns-then-at-to
returns-then-at-to c = λ from old h. one_merged from c.args.to old c.args.steps.now.items c.args.i c.args.end c.get-at.result _ c.args.places.now c.index-one.result.now c.index.result.now c.requires.before c.requires.within c.index-one.ensures c.get-at.ensures c.if-at-to.true c.index.ensures (λ fits. omega arith) h

pub returns : goal.returns
returns c = λ from old h. one_put from c.args.to old c.args.steps.now.items c.args.i c.args.end c.args.places.now c.set.new.self c.index-one.result.now c.requires.before c.requires.within c.index-one.ensures (omega arith) c.in_ok-set.ensures h
