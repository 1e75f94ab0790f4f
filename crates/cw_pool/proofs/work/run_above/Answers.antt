use Rattle.std.proofs.Common.{refl}
use Rattle.cw_pool.specs.StrandStacks.{FormsChain}
use Rattle.cw_pool.proofs.Stacking.{same_chain, same_of}
use Rattle.cw_pool.proofs.work.run_above.Goals as goal

pub returns-then-held-gt-BUDGET-clause-stands : goal.returns-then-held-gt-BUDGET-clause-stands
returns-then-held-gt-BUDGET-clause-stands g c root stands =
    let y = c.args.yard.now in (
      c.weigh-held.ensures.works y stands.0,
      same_chain y root _ _ c.args.below.now.items c.args.below.now.items (same_of c.weigh-held.new.post.strand c.args.post.now.strand c.weigh-held.ensures.of) refl stands.1,
    )

pub returns-clause-stands : goal.returns-clause-stands
returns-clause-stands g c root stands =
    let y = c.args.yard.now in
    let kept : FormsChain y root c.weigh-held.new.post c.args.below.now.items = (
      c.weigh-held.ensures.works y stands.0,
      same_chain y root _ _ c.args.below.now.items c.args.below.now.items (same_of c.weigh-held.new.post.strand c.args.post.now.strand c.weigh-held.ensures.of) refl stands.1,
    ) in
    c.steal_above.ensures.stands root kept
