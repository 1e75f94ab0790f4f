use Rattle.std.proofs.Common.{arith}
use Rattle.cw_sites.proofs.CompactingLaws.{nothing_summed, one_summed, all_summed}
use Rattle.cw_sites.proofs.compacting.sum_up.Goals as goal

pub loop-i-init : goal.loop-i-init
loop-i-init c = nothing_summed c.args.from c.args.to c.args.steps.now.items c.clear.new.self.items c.clear.ensures.items

pub loop-i-preserved : goal.loop-i-preserved
loop-i-preserved c =
    one_summed c.args.from c.args.to c.args.steps.now.items c.loop-i.i c.index-one.result.now c.loop-i.sums.items c.add_to.new.sums.items (omega arith) (omega arith) c.index-one.ensures c.in_ok-add_to.ensures.words c.in_ok-add_to.ensures.sums c.in_ok-add_to.ensures.longest c.loop-i.invariant

pub returns-clause-sums : goal.returns-clause-sums
returns-clause-sums c = all_summed c.args.from c.args.to c.args.steps.now.items c.loop-i.i c.loop-i.sums.items (λ o l. omega arith) c.loop-i.invariant

pub returns-clause-words : goal.returns-clause-words
returns-clause-words c = c.loop-i.invariant.words

pub returns-clause-sites : goal.returns-clause-sites
returns-clause-sites c = c.loop-i.invariant.sites
