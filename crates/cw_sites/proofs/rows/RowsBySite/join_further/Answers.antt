use Rattle.std.proofs.Common.{◌+◌, ◌*◌, refl, arith}
use Rattle.cw_sites.proofs.RowLaws.{on_none, on_more, all_joined}
use Rattle.cw_sites.proofs.rows.RowsBySite.join_further.Goals as goal

pub loop-shelf-init : goal.loop-shelf-init
loop-shelf-init c = on_none c.args.piece.now c.args.self.now 0 0 refl

pub loop-shelf-preserved : goal.loop-shelf-preserved
loop-shelf-preserved c =
    let s = c.loop-shelf.shelf in
    on_more c.args.piece.now c.args.self.now c.loop-shelf.self c.join_shelf.new.self 0 (s * 256) (s * 256) (s * 256 + 256) ((s + 1) * 256) refl (omega arith) c.loop-shelf.invariant c.in_ok-join_shelf.ensures

pub returns : goal.returns
returns c = all_joined c.args.piece.now c.args.self.now c.loop-shelf.self c.loop-shelf.shelf c.shelves-shelf-end.result (omega arith) c.shelves-shelf-end.ensures c.loop-shelf.invariant
