use Rattle.std.proofs.Common.{◌∷◌, [], ap, length, subst, sym, arith, length-append}
use Rattle.cw_machine.specs.Hands.{HasMoreBare}
use Rattle.cw_machine.proofs.Slices.{more_bare}
use Rattle.cw_machine.proofs.hands.make_slices.Goals as goal

pub loop-k-preserved : goal.loop-k-preserved
loop-k-preserved c =
    let n = length-append c.loop-k.slices.items (c.empty.result ∷ []) in
    let e = ap length c.in_ok-push.ensures.items in
    let many = c.loop-k.invariant.many in record {
      more = subst (HasMoreBare c.args.slices.now.items) (sym c.in_ok-push.ensures.items) (more_bare c.args.slices.now.items c.loop-k.slices.items c.empty.result c.empty.ensures.0 c.loop-k.invariant.more);
      many = omega (arith, n, e, many);
    }
