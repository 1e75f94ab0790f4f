use Rattle.std.proofs.Common.{arith}
use Rattle.cw_sites.proofs.CompactingLaws.{nothing_gathered, all_gathered}
use Rattle.cw_sites.proofs.compacting.gather.Goals as goal

pub loop-i-init : goal.loop-i-init
loop-i-init c = nothing_gathered c.args.from c.args.to c.args.steps.now.items c.new-places.result (c.new-places.ensures c.args.to)

pub loop-i-preserved : goal.loop-i-preserved
loop-i-preserved c = c.in_ok-end.ensures c.args.from c.args.steps.now.items c.loop-i.invariant

pub returns : goal.returns
returns c = all_gathered c.args.from c.args.to c.loop-i.i c.loop-i.end c.args.steps.now.items c.loop-i.steps.items c.loop-i.places (omega arith) c.requires.within c.loop-i.invariant
