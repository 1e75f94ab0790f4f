use Rattle.std.proofs.Common.{arith}
use Rattle.cw_strand.proofs.Joining.{none_joined, one_joined, all_joined}
use Rattle.cw_strand.proofs.giving.join_totals.Goals as goal

pub loop-k-init : goal.loop-k-init
loop-k-init c = none_joined c.args.totals.now.items c.args.more.now

pub loop-k-preserved : goal.loop-k-preserved
loop-k-preserved c = one_joined c.args.totals.now.items c.args.more.now c.loop-k.totals.items c.join_at.new.totals.items c.loop-k.k c.loop-k.invariant c.join_at.ensures

pub returns : goal.returns
returns c =
    let n = c.loop-k-test.false in
    let e = c.len-k-end.ensures in
    let many = c.args.totals.now.ok.0 in
    all_joined c.args.totals.now.items c.args.more.now c.loop-k.totals.items c.loop-k.k (omega (arith, n, e, many)) c.loop-k.invariant
