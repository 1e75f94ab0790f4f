use Rattle.std.proofs.Common.{◌≡◌, ◌<◌, sym, ap, subst, arith}
use Rattle.cw_slices.specs.Blocks.{AreAlike}
use Rattle.cw_machine.specs.declared.machine.View.{View}
use Rattle.cw_machine.specs.Arrays.{no_view, view, block}
use Rattle.cw_machine.proofs.Sharing.{index_is}
use Rattle.cw_machine.proofs.machine.Machine.share_out.Goals as goal

pub share-requires-clause-alike : goal.share-requires-clause-alike
share-requires-clause-alike c =
    let m = c.args.self.now in
    let v = c.index-v.result.now in
    let seen : v ≡ view m.views.items c.args.cell = index_is m.views.items c.args.cell v no_view c.index-v.ensures c.requires.seen in
    let len = ap (λ (x : View). x.len) seen in
    let some : 0 < (view m.views.items c.args.cell).len = omega (arith, c.if-v-eq0.false, len) in
    subst (λ (x : View). AreAlike (block m.blocks.items x.block).rights x.from x.len) (sym seen) (c.requires.alike some)
